-- The rows that the objects of a dump are made of, found by their objects.
use Rattle.std.specs.Prelude.{ℕ, ℤ, Bool, ◌==◌, ◌&&◌, List, Option}
use Rattle.std.specs.List.{filter, find}
use Rattle.std.specs.Ordering.{int_eq, is_lt}
use Rattle.cat_rows.specs.declared.catalogue.Catalogue.{Catalogue}
use Rattle.cat_rows.specs.declared.constraints.ConstraintRow.{ConstraintRow}
use Rattle.cat_rows.specs.declared.notes.DescriptionRow.{DescriptionRow}
use Rattle.cat_rows.specs.declared.relations.AttributeRow.{AttributeRow}
use Rattle.cat_rows.specs.declared.relations.AttrdefRow.{AttrdefRow}
use Rattle.cat_rows.specs.declared.relations.IndexRow.{IndexRow}
use Rattle.cat_rows.specs.declared.relations.RewriteRow.{RewriteRow}
use Rattle.cat_rows.specs.declared.sequences.SequenceRow.{SequenceRow}
use Rattle.cat_rows.specs.declared.types.EnumRow.{EnumRow}
use Rattle.cat_model.specs.Values.{bytes_cmp}
use Rattle.cat_names.specs.Lookups.{same_oid}
use Rattle.dep_sort.specs.FirstOrder.{in_order}
use Rattle.oid_groups.specs.Orders.{by_number}

-- ---- several rows of an object

-- the columns of a table or a view, by their numbers
abbrev pub columns_of : Catalogue → ℕ → List AttributeRow
columns_of cat relation = by_number (λ a. a.attnum) (filter (λ a. same_oid relation a.attrelid) cat.pg_attribute)

-- the labels of an enum, by their positions
abbrev pub labels_of : Catalogue → ℕ → List EnumRow
labels_of cat type = by_number (λ e. e.enumpos) (filter (λ e. same_oid type e.enumtypid) cat.pg_enum)

-- a check has the letter c
abbrev pub is_check : ConstraintRow → Bool
is_check row = row.contype == 99

-- whether the name of one constraint is less than that of another, byte by byte
abbrev pub name_less : ConstraintRow → ConstraintRow → Bool
name_less a b = is_lt (bytes_cmp a.conname b.conname)

-- the checks among constraints, by their names
abbrev pub checks_among : List ConstraintRow → List ConstraintRow
checks_among rows = in_order name_less (filter is_check rows)

-- the checks of a table, and those of a domain
abbrev pub table_checks : Catalogue → ℕ → List ConstraintRow
table_checks cat table = checks_among (filter (λ c. same_oid table c.conrelid) cat.pg_constraint)

abbrev pub domain_checks : Catalogue → ℕ → List ConstraintRow
domain_checks cat domain = checks_among (filter (λ c. same_oid domain c.contypid) cat.pg_constraint)

-- the comments on what a system table has under an oid: on the whole first, then on columns by their numbers
abbrev pub comments_on : Catalogue → ℕ → ℕ → List DescriptionRow
comments_on cat class oid =
    filter (λ d. same_oid class d.classoid)
    (by_number (λ d. d.objsubid) (filter (λ d. same_oid oid d.objoid) cat.pg_description))

-- ---- one row

-- the column of a number, and its default
abbrev pub column_at : Catalogue → ℕ → ℤ → Option AttributeRow
column_at cat relation number = find (λ a. same_oid relation a.attrelid && int_eq number a.attnum) cat.pg_attribute

abbrev pub default_at : Catalogue → ℕ → ℤ → Option AttrdefRow
default_at cat table number = find (λ d. same_oid table d.adrelid && int_eq number d.adnum) cat.pg_attrdef

-- the default of an oid
abbrev pub default_of : Catalogue → ℕ → Option AttrdefRow
default_of cat oid = find (λ d. same_oid oid d.oid) cat.pg_attrdef

-- what a sequence and an index of no constraint are
abbrev pub sequence_of : Catalogue → ℕ → Option SequenceRow
sequence_of cat oid = find (λ s. same_oid oid s.seqrelid) cat.pg_sequence

abbrev pub index_of : Catalogue → ℕ → Option IndexRow
index_of cat oid = find (λ i. same_oid oid i.indexrelid) cat.pg_index

-- the query of an oid, and that of a view
abbrev pub rewrite_of : Catalogue → ℕ → Option RewriteRow
rewrite_of cat oid = find (λ r. same_oid oid r.oid) cat.pg_rewrite

abbrev pub view_rewrite : Catalogue → ℕ → Option RewriteRow
view_rewrite cat view = find (λ r. same_oid view r.ev_class) cat.pg_rewrite
