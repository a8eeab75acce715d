-- The conditions of pg_depend: two kinds of dependencies between relations are left out.
use Rattle.std.specs.Prelude.{ℕ, ℤ, true, false, ◌&&◌, ◌==◌, Option, Some, None, if◌then◌else◌}
use Rattle.cat_rows.specs.declared.catalogue.Catalogue.{Catalogue}
use Rattle.cat_rows.specs.declared.notes.DependRow.{DependRow}
use Rattle.cat_model.specs.declared.words.What.{What}
use Rattle.cat_model.specs.declared.words.What.TheVariants as what
use Rattle.cat_names.specs.declared.relations.RelationKind.{RelationKind}
use Rattle.cat_names.specs.declared.relations.RelationKind.TheVariants.{Table, Sequence}
use Rattle.cat_names.specs.Kinds.{kind_of}
use Rattle.cat_names.specs.Lookups.{same_oid}
use Rattle.cat_book.specs.Rules.{Rules}
use Rattle.plain_tables.specs.Comments.{is_whole}

-- the class of relations among the system tables
abbrev pub class_of_relations : ℕ
class_of_relations = 1259

-- a sequence that belongs to a table by an internal dependency is an identity column's, and a table that depends on
-- a whole table inherits from it
abbrev pub dependency_left_out : Option RelationKind → Option RelationKind → ℤ → ℕ → Option What
dependency_left_out (Some Sequence) (Some Table) objsubid deptype = if deptype == 105 then Some what.Identity else None
dependency_left_out (Some Table) (Some Table) objsubid deptype = if is_whole objsubid then Some what.Inheritance else None
dependency_left_out _ _ objsubid deptype = None

abbrev pub depend_left_out : Catalogue → DependRow → Option What
depend_left_out cat row =
    if same_oid row.classid class_of_relations && same_oid row.refclassid class_of_relations
    then dependency_left_out (kind_of cat.pg_class row.objid) (kind_of cat.pg_class row.refobjid) row.objsubid row.deptype
    else None

abbrev pub depend_rules : Rules Catalogue DependRow
depend_rules = record {
  keys = λ row. record { oid = None; name = None; place = None; is_marked = false };
  unmet = λ cat row. record { dangles = false; is_bad = false; left_out = depend_left_out cat row };
  needed = λ cat. true;
}
