-- The lines of a restore, told while it runs: behind each entry its own, its notes and then its status.
use Rattle.std.specs.Prelude.{ℕ, List, [], ◌∷◌, ◌++◌}
use Rattle.cat_model.specs.Values.{Bytes, Named}
use Rattle.restore_plan.specs.declared.planned.Planned.{Planned}
use Rattle.restore_plan.specs.Serial.{Ended, Left, entry_left, first_blocked}
use Rattle.toc_entry.specs.declared.entry.Entry.{Entry}
use Rattle.restore_runs.specs.Reports.{note_lines, status_line}

-- what is told of one entry
abbrev pub left_told : Bytes → Entry → Left → List ℕ
left_told teller e left = note_lines teller e left.notes ++ status_line teller e left.status

-- what is told of entries, and these in their places, behind those that have ended
abbrev pub told_behind : Bytes → Bytes → Ended → Named → List Entry → List Planned → List ℕ
told_behind teller boot ended named [] ps = []
told_behind teller boot ended named (e ∷ es) [] = []
told_behind teller boot ended named (e ∷ es) (p ∷ ps) =
    let left = entry_left boot p named (first_blocked ended p.deps) in
    left_told teller e left ++ told_behind teller boot (ended ++ (p.id, left.status) ∷ []) left.catalogue es ps

abbrev pub told_in_turn : Bytes → Bytes → Named → List Entry → List Planned → List ℕ
told_in_turn teller boot named es ps = told_behind teller boot [] named es ps
