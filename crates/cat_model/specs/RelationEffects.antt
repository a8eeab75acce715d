-- The effects of statements that make tables, sequences and views.
use Rattle.std.specs.Prelude.{ℤ, pos, negsuc, Bool, false, ◌&&◌, not, nat_le, List, [], ◌∷◌, ◌++◌, map, length, Option, Some, None}
use Rattle.std.specs.Ordering.{int_cmp, is_le, int_eq}
use Rattle.std.specs.List.{flat_map}
use Rattle.cat_model.specs.declared.object.QName.{QName}
use Rattle.cat_model.specs.declared.object.Object.TheVariants as object
use Rattle.cat_model.specs.declared.key.Key.TheVariants as key
use Rattle.cat_model.specs.declared.cause.Cause.TheVariants as cause
use Rattle.cat_model.specs.declared.table.ColumnDef.{ColumnDef}
use Rattle.cat_model.specs.declared.table.CheckDef.{CheckDef}
use Rattle.cat_model.specs.declared.constraint.ConstraintKind.TheVariants as kinds
use Rattle.cat_model.specs.declared.constraint.SequenceKind.{SequenceKind}
use Rattle.cat_model.specs.declared.constraint.SequenceKind.TheVariants as sequences
use Rattle.cat_model.specs.Values as value
use Rattle.cat_model.specs.Values.{Bytes, Value, Column, Sequence, Constraint}
use Rattle.cat_model.specs.Grants.{owner_only, table_rights, sequence_rights}
use Rattle.cat_model.specs.Tables.{distinct}
use Rattle.cat_model.specs.References.{expression_references, view_references}
use Rattle.cat_model.specs.Trees.{Change, Tree, sets}
use Rattle.cat_model.specs.Conditions.{needs, needs_each, needs_kind, needs_table, needs_sequence, free, check, column_in, is_view}
use Rattle.cat_model.specs.ObjectEffects.{made}
use Rattle.cat_model.specs.TypeEffects.{needs_type, but, default_references, check_references}

-- ---- tables

-- the columns with their types resolved: for each its type, then what its default refers to
abbrev pub needs_columns : QName → List ColumnDef → (List Column → Tree) → Tree
needs_columns q [] next = next []
needs_columns q (c ∷ cs) next =
    needs_type c.type_name (λ resolved.
    needs_each (but (key.Rel q) (default_references c.default))
    (needs_columns q cs (λ columns. next (record { name = c.name; type_name = c.type_name; resolved = resolved; not_null = c.not_null } ∷ columns))))

abbrev pub default_set : QName → Bytes → Option Bytes → List Change
default_set q column None = []
default_set q column (Some text) = (key.Default q column, Some (value.default_text text)) ∷ []

abbrev pub check_value : Bytes → Value
check_value text = value.constraint (record { kind = kinds.Check; columns = []; parent = None; text = text })

abbrev pub fits_table : List ColumnDef → List CheckDef → Bool
fits_table columns checks =
    nat_le (length columns) 1600 && (distinct (map (λ c. c.name) columns) && distinct (map (λ c. c.name) checks))

abbrev pub create_table : Bytes → QName → List ColumnDef → List CheckDef → Tree
create_table boot q columns checks =
    needs (key.Schema q.schema)
    (free (key.Rel q)
    (check (fits_table columns checks) cause.WrongColumns
    (needs_columns q columns (λ resolved.
    needs_each (but (key.Rel q) (check_references checks))
    (sets ((key.Rel q, Some (value.table resolved)) ∷ (key.Rows q, Some (value.rows []))
    ∷ made (object.Relation q) boot (owner_only table_rights)
    ++ flat_map (λ c. default_set q c.name c.default) columns
    ++ map (λ c. (key.Con q c.name, Some (check_value c.text))) checks))))))

abbrev pub set_default : QName → Bytes → Bytes → Tree
set_default q column text =
    needs_table q (λ columns.
    column_in columns column
    (needs_each (expression_references text)
    (sets ((key.Default q column, Some (value.default_text text)) ∷ []))))

-- ---- sequences

abbrev pub at_most : ℤ → ℤ → Bool
at_most a b = is_le (int_cmp a b)

abbrev pub within : ℤ → ℤ → ℤ → Bool
within low high n = at_most low n && at_most n high

-- a number is of the type
abbrev pub in_kind : SequenceKind → ℤ → Bool
in_kind sequences.SmallInt = within (negsuc 32767) (pos 32767)
in_kind sequences.Integer = within (negsuc 2147483647) (pos 2147483647)
in_kind sequences.BigInt = within (negsuc 9223372036854775807) (pos 9223372036854775807)

abbrev pub fits_sequence : Sequence → Bool
fits_sequence s =
    not (int_eq s.step (pos 0)) && (within s.min s.max s.start && (in_kind s.kind s.start && (in_kind s.kind s.min && (in_kind s.kind s.max && at_most (pos 1) s.cache))))

abbrev pub create_sequence : Bytes → QName → Sequence → Tree
create_sequence boot q s =
    needs (key.Schema q.schema)
    (free (key.Rel q)
    (check (fits_sequence s) cause.OutOfRange
    (sets ((key.Rel q, Some (value.sequence s)) ∷ (key.SeqVal q, Some (value.sequence_value s.start false))
    ∷ made (object.Relation q) boot (owner_only sequence_rights)))))

abbrev pub owned_by : QName → QName → Bytes → Tree
owned_by q table column =
    needs_sequence q (λ s.
    needs_table table (λ columns.
    column_in columns column
    (sets ((key.OwnedBy q, Some (value.owned_by table column)) ∷ []))))

abbrev pub set_value : QName → ℤ → Bool → Tree
set_value q n called =
    needs_sequence q (λ s.
    check (within s.min s.max n) cause.OutOfRange
    (sets ((key.SeqVal q, Some (value.sequence_value n called)) ∷ [])))

-- ---- views

abbrev pub create_view : Bytes → QName → Bytes → Tree
create_view boot q body =
    needs (key.Schema q.schema)
    (free (key.Rel q)
    (needs_each (but (key.Rel q) (view_references body))
    (sets ((key.Rel q, Some value.view) ∷ (key.Body q, Some (value.body body))
    ∷ made (object.Relation q) boot (owner_only table_rights)))))

abbrev pub replace_view : QName → Bytes → Tree
replace_view q body =
    needs_kind is_view (key.Rel q)
    (needs_each (view_references body)
    (sets ((key.Body q, Some (value.body body)) ∷ [])))
