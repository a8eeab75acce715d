-- What is left of CREATE SEQUENCE and of CREATE VIEW behind the schema.
use Rattle.std.specs.Prelude.{false, ◌∷◌, List, Some}
use Rattle.cat_model.specs.declared.cause.Cause.TheVariants as cause
use Rattle.cat_model.specs.declared.object.QName.{QName}
use Rattle.cat_model.specs.declared.object.Object.TheVariants as object
use Rattle.cat_model.specs.declared.key.Key.TheVariants as key
use Rattle.cat_model.specs.declared.value.Sequence.{Sequence}
use Rattle.cat_model.specs.declared.value.Value.TheVariants as value
use Rattle.cat_model.specs.Values.{Bytes}
use Rattle.cat_model.specs.Conditions.{check, free, needs_each}
use Rattle.cat_model.specs.Grants.{owner_only, sequence_rights, table_rights}
use Rattle.cat_model.specs.ObjectEffects.{made}
use Rattle.cat_model.specs.References.{view_references}
use Rattle.cat_model.specs.RelationEffects.{fits_sequence}
use Rattle.cat_model.specs.Trees.{Tree, Change, sets}
use Rattle.cat_model.specs.TypeEffects.{but}

-- ---- sequences

abbrev pub sequence_changes : Bytes → QName → Sequence → List Change
sequence_changes boot q s =
    (key.Rel q, Some (value.Sequence s)) ∷ (key.SeqVal q, Some (value.SequenceValue s.start false))
    ∷ made (object.Relation q) boot (owner_only sequence_rights)

abbrev pub sequence_here : Bytes → QName → Sequence → Tree
sequence_here boot q s =
    free (key.Rel q)
    (check (fits_sequence s) cause.OutOfRange
    (sets (sequence_changes boot q s)))

-- ---- views

abbrev pub view_changes : Bytes → QName → Bytes → List Change
view_changes boot q body =
    (key.Rel q, Some value.View) ∷ (key.Body q, Some (value.Body body))
    ∷ made (object.Relation q) boot (owner_only table_rights)

abbrev pub view_here : Bytes → QName → Bytes → Tree
view_here boot q body =
    free (key.Rel q)
    (needs_each (but (key.Rel q) (view_references body))
    (sets (view_changes boot q body)))
