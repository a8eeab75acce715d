use Rattle.std.proofs.Common.{◌≡◌, List, [], refl, ap, ◌∙◌}
use Rattle.restore_plan.specs.Examples.{with_public, postgres, two_schemas, equal_parents}
use Rattle.restore_plan.specs.Order.{plan}
use Rattle.restore_plan.specs.Serial.{serial}
use Rattle.restore_plan.specs.declared.status.EntryStatus.{EntryStatus}
use Rattle.restore_plan.specs.declared.status.Note.{Note}
use Rattle.restore_runs.specs.Endings.{ending}
use Rattle.restore_runs.specs.Examples.{tool, two_archived, second_refused, second_told, parents_archived, key_refused, key_told}
use Rattle.restore_runs.specs.Reports.{report, errors}
use Rattle.restore_runs.proofs.Notes.{none_noted}
use Rattle.restore_runs.proofs.Told.{second, key}
use Rattle.restore_runs.proofs.laws.worked_restores.Goals as goal

no_notes : (serial postgres with_public (plan with_public two_schemas)).notes ≡ []
no_notes = none_noted postgres with_public (plan with_public two_schemas) refl

no_key_notes : (serial postgres with_public (plan with_public equal_parents)).notes ≡ []
no_key_notes = none_noted postgres with_public (plan with_public equal_parents) refl

pub returns : goal.returns
unfolding ending
returns c =
    let two = c.one_schema_twice.ensures in
    let keys = c.parents_and_children.ensures.equal in
    record {
      schemas = (λ i. report tool two_archived (two i) (no_notes i)) ∙ second;
      one = λ i. errors (two i) (no_notes i);
      parents = (λ i. report tool parents_archived (keys i) (no_key_notes i)) ∙ key;
      on = refl;
    }
