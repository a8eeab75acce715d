-- The conditions of pg_description. A comment is on a schema, a type, a relation, a column or a constraint, by the system
-- table that the object's row stands in.
use Rattle.std.specs.Prelude.{ℕ, ℤ, pos, negsuc, Bool, true, false, not, ◌&&◌, ◌==◌, [], Option, Some, None, is_some, if◌then◌else◌}
use Rattle.cat_rows.specs.declared.catalogue.Catalogue.{Catalogue}
use Rattle.cat_rows.specs.declared.constraints.ConstraintRow.{ConstraintRow}
use Rattle.cat_rows.specs.declared.notes.DescriptionRow.{DescriptionRow}
use Rattle.cat_model.specs.declared.words.What.{What}
use Rattle.cat_model.specs.declared.words.What.TheVariants as what
use Rattle.cat_names.specs.Kinds.{kind_of, is_view}
use Rattle.cat_names.specs.Lookups.{has_oid, schema_oids}
use Rattle.cat_book.specs.Chains.{type_of}
use Rattle.cat_book.specs.Leads.{has_columns, has_number, constraint_of}
use Rattle.cat_book.specs.Rules.{Rules}
use Rattle.plain_tables.specs.declared.comments.CommentClass.{CommentClass}
use Rattle.plain_tables.specs.declared.comments.CommentClass.TheVariants as class

abbrev pub comment_class : ℕ → CommentClass
comment_class oid =
    if oid == 2615 then class.Schema
    else if oid == 1247 then class.Type
    else if oid == 1259 then class.Relation
    else if oid == 2606 then class.Constraint
    else class.Other

-- no column is meant, but the whole object
abbrev pub is_whole : ℤ → Bool
is_whole (pos n) = n == 0
is_whole (negsuc n) = false

-- the object of a comment, or its column where a number is given, is there
abbrev pub is_commented_there : Catalogue → CommentClass → DescriptionRow → Bool
is_commented_there cat class.Schema row = is_whole row.objsubid && has_oid (schema_oids cat.pg_namespace) row.objoid
is_commented_there cat class.Type row = is_whole row.objsubid && is_some (type_of cat.pg_type row.objoid)
is_commented_there cat class.Relation row =
    if is_whole row.objsubid then is_some (kind_of cat.pg_class row.objoid)
    else has_columns (kind_of cat.pg_class row.objoid) && has_number cat row.objoid row.objsubid
is_commented_there cat class.Constraint row = is_whole row.objsubid && is_some (constraint_of cat row.objoid)
is_commented_there cat class.Other row = true

abbrev pub is_of_table : Option ConstraintRow → Bool
is_of_table None = false
is_of_table (Some c) = c.contypid == 0

-- comments on columns of views, on constraints of domains, and on objects of other system tables
abbrev pub is_left_out : Catalogue → CommentClass → DescriptionRow → Bool
is_left_out cat class.Relation row = not (is_whole row.objsubid) && is_view (kind_of cat.pg_class row.objoid)
is_left_out cat class.Constraint row = not (is_of_table (constraint_of cat row.objoid))
is_left_out cat class.Other row = true
is_left_out cat _ row = false

abbrev pub comment_left_out : Bool → Option What
comment_left_out out = if out then Some what.CommentKind else None

-- an object has one comment, and is there
abbrev pub comment_rules : Rules Catalogue DescriptionRow
comment_rules = record {
  keys = λ row. record { oid = None; name = Some (row.classoid, row.objoid, row.objsubid, []); place = None; is_marked = false };
  unmet = λ cat row. record {
    dangles = not (is_commented_there cat (comment_class row.classoid) row);
    is_bad = false;
    left_out = comment_left_out (is_left_out cat (comment_class row.classoid) row);
  };
  needed = λ cat. true;
}
