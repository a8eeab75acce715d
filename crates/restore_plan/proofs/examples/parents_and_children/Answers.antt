-- Over the opening's entries as a list the restore computes.
use Rattle.std.proofs.Common.{◌≡◌, List, [], ◌∷◌, refl, ap, ◌∙◌}
use Rattle.std.specs.Prelude.{codes}
use Rattle.std.specs.Char.{encode_utf8}
use Rattle.std.specs.Str.{chars, is_utf8}
use Rattle.std.specs.FinMap.{entries, entries-from_sorted}
use Rattle.copy_text.specs.Escapes.{escape, decode_behind}
use Rattle.copy_text.specs.Lines.{lines}
use Rattle.copy_text.specs.Pieces.{pieces_after, ends_escaping}
use Rattle.copy_text.specs.Reading.{field_of, fields_of, row_of}
use Rattle.cat_model.specs.declared.key.Key.TheVariants as key
use Rattle.cat_model.specs.Keys.{key_cmp}
use Rattle.cat_model.specs.declared.value.Value.TheVariants as value
use Rattle.restore_plan.specs.declared.status.EntryStatus.TheVariants.{Done, Refused, Skipped}
use Rattle.cat_model.specs.declared.cause.Cause.TheVariants as cause
use Rattle.restore_plan.specs.declared.entry.Entry.{Entry}
use Rattle.restore_plan.specs.Examples.{with_public, postgres, parents_first, children_first, equal_parents}
use Rattle.restore_plan.specs.Order.{plan}
use Rattle.restore_plan.specs.Serial.{serial}
use Rattle.restore_plan.proofs.ListRun.{Items, statuses_in, statuses-in}
use Rattle.restore_plan.proofs.examples.parents_and_children.Goals as goal

abbrev items : Items
items = (key.Schema (codes "public"), value.Schema) ∷ []

computed : (es : List Entry) → (serial postgres with_public (plan with_public es)).statuses ≡ statuses_in postgres [] items (plan with_public es)
computed es =
    statuses-in postgres (plan with_public es) [] with_public
    ∙ ap (λ (is : Items). statuses_in postgres [] is (plan with_public es)) (entries-from_sorted key_cmp items tt)

all_done : statuses_in postgres [] items (plan with_public parents_first) ≡ Done ∷ Done ∷ Done ∷ Done ∷ Done ∷ Done ∷ []
unfolding lines row_of fields_of field_of pieces_after escape decode_behind ends_escaping chars is_utf8 encode_utf8
all_done = refl

no_parent : statuses_in postgres [] items (plan with_public children_first) ≡ Done ∷ Done ∷ Done ∷ Done ∷ Refused 1 (cause.NoParent (codes "c_fk") 1) ∷ Done ∷ []
unfolding lines row_of fields_of field_of pieces_after escape decode_behind ends_escaping chars is_utf8 encode_utf8
no_parent = refl

one_key : statuses_in postgres [] items (plan with_public equal_parents) ≡ Done ∷ Done ∷ Done ∷ Done ∷ Refused 1 (cause.Duplicate (codes "p_pkey") 1 2) ∷ Skipped 10 ∷ []
unfolding lines row_of fields_of field_of pieces_after escape decode_behind ends_escaping chars is_utf8 encode_utf8
one_key = refl

pub returns : goal.returns
returns c = record {
  parents = computed parents_first ∙ all_done;
  children = computed children_first ∙ no_parent;
  equal = computed equal_parents ∙ one_key;
}
