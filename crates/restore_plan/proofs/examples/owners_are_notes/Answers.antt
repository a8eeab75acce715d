-- Over the opening's entries as a list the restore computes.
use Rattle.std.proofs.Common.{◌≡◌, List, [], ◌∷◌, refl, ap, ◌∙◌}
use Rattle.std.specs.Prelude.{codes}
use Rattle.std.specs.FinMap.{entries, entries-from_sorted}
use Rattle.cat_model.specs.declared.key.Key.TheVariants as key
use Rattle.cat_model.specs.Keys.{key_cmp}
use Rattle.cat_model.specs.declared.value.Value.TheVariants as value
use Rattle.restore_plan.specs.declared.entry.Entry.{Entry}
use Rattle.restore_plan.specs.Examples.{with_public, postgres, owner_missing, no_owner_statement}
use Rattle.restore_plan.specs.Order.{plan}
use Rattle.restore_plan.specs.Serial.{serial}
use Rattle.restore_plan.proofs.ListRun.{Items, statuses_in, statuses-in, notes_in, notes-in}
use Rattle.restore_plan.proofs.examples.owners_are_notes.Goals as goal

abbrev items : Items
items = (key.Schema (codes "public"), value.Schema) ∷ []

statuses : (es : List Entry) → (serial postgres with_public (plan with_public es)).statuses ≡ statuses_in postgres [] items (plan with_public es)
statuses es =
    statuses-in postgres (plan with_public es) [] with_public
    ∙ ap (λ (is : Items). statuses_in postgres [] is (plan with_public es)) (entries-from_sorted key_cmp items tt)

notes : (es : List Entry) → (serial postgres with_public (plan with_public es)).notes ≡ notes_in postgres [] items (plan with_public es)
notes es =
    notes-in postgres (plan with_public es) [] with_public
    ∙ ap (λ (is : Items). notes_in postgres [] is (plan with_public es)) (entries-from_sorted key_cmp items tt)

pub returns : goal.returns
returns c = record {
  noted = statuses owner_missing;
  notes = notes owner_missing;
  refused = statuses no_owner_statement;
  nothing = notes no_owner_statement;
}
