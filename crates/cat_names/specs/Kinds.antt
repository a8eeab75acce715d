-- What a relation is, by its letter and by its oid.
use Rattle.std.specs.Prelude.{ℕ, Bool, true, false, ◌==◌, List, map, Option, Some, option_map, if◌then◌else◌}
use Rattle.std.specs.List.{find}
use Rattle.cat_rows.specs.declared.relations.ClassRow.{ClassRow}
use Rattle.cat_names.specs.declared.relations.RelationKind.{RelationKind}
use Rattle.cat_names.specs.declared.relations.RelationKind.TheVariants.{Table, View, Sequence, Index, Other}
use Rattle.cat_names.specs.Lookups.{same_oid}

abbrev pub relation_kind : ℕ → RelationKind
relation_kind letter =
    if letter == 114 then Table
    else if letter == 118 then View
    else if letter == 83 then Sequence
    else if letter == 105 then Index
    else Other letter

abbrev pub class_oids : List ClassRow → List ℕ
class_oids classes = map (λ r. r.oid) classes

-- the first relation of an oid
abbrev pub class_of : List ClassRow → ℕ → Option ClassRow
class_of classes oid = find (λ r. same_oid oid r.oid) classes

-- what the relation of an oid is; nothing where there is none
abbrev pub kind_of : List ClassRow → ℕ → Option RelationKind
kind_of classes oid = option_map (λ r. relation_kind r.relkind) (class_of classes oid)

abbrev pub is_table : Option RelationKind → Bool
is_table (Some Table) = true
is_table _ = false

abbrev pub is_view : Option RelationKind → Bool
is_view (Some View) = true
is_view _ = false

abbrev pub is_sequence : Option RelationKind → Bool
is_sequence (Some Sequence) = true
is_sequence _ = false

abbrev pub is_index : Option RelationKind → Bool
is_index (Some Index) = true
is_index _ = false
