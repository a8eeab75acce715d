-- Statuses one after another, the first of which may be absent; then there are none.
use Rattle.std.specs.Prelude.{List, [], ◌∷◌, Option, Some, None}
use Rattle.restore_plan.specs.declared.status.EntryStatus.{EntryStatus}

abbrev pub with_status : Option EntryStatus → List EntryStatus → List EntryStatus
with_status None later = []
with_status (Some status) later = status ∷ later

-- those behind the first
abbrev pub behind_status : Option EntryStatus → List EntryStatus → List EntryStatus
behind_status None later = []
behind_status (Some status) later = later
