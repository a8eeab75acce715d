-- Worked examples: labels, relations, comments and dependencies of the small catalogue, and what is wrong with them.
use Rattle.std.specs.Prelude.{◌≡◌, List, [], ◌∷◌, Option, Some, None, codes}
use Rattle.acl_text.specs.declared.rights.Privilege.TheVariants as privilege
use Rattle.cat_rows.specs.declared.table.SysTable.TheVariants.{PgEnum, PgClass, PgDescription, PgDepend}
use Rattle.cat_rows.specs.declared.types.EnumRow.{EnumRow}
use Rattle.cat_rows.specs.declared.relations.ClassRow.{ClassRow}
use Rattle.cat_rows.specs.declared.notes.DescriptionRow.{DescriptionRow}
use Rattle.cat_rows.specs.declared.notes.DependRow.{DependRow}
use Rattle.cat_model.specs.declared.words.What.TheVariants as what
use Rattle.cat_names.specs.declared.fault.LineFault.{LineFault}
use Rattle.cat_names.specs.declared.fault.FaultKind.TheVariants as kind
use Rattle.well_formed.specs.Catalogues.{table_fault}
use Rattle.table_laws.specs.Small.{at, grant, label, relation, t, u, v, s, i, comment, depend, small}

-- public.e is the enum 20000, public.d the domain 20001, and 2200 a schema
abbrev pub in_labels : List EnumRow → Option LineFault
in_labels labels = table_fault (record small { pg_enum = labels }) PgEnum

pub record Labels : Type 0 where
  pub two : in_labels (label 1 20000 1 (codes "new") ∷ label 2 20000 2 (codes "paid") ∷ []) ≡ None
  pub falling : in_labels (label 1 20000 2 (codes "new") ∷ label 2 20000 1 (codes "paid") ∷ []) ≡ None
  pub second_gone : in_labels (label 1 20000 1 (codes "new") ∷ label 2 20000 3 (codes "sent") ∷ []) ≡ at 2 kind.BadText
  pub place_twice : in_labels (label 1 20000 1 (codes "new") ∷ label 2 20000 1 (codes "paid") ∷ []) ≡ at 2 kind.BadText
  pub no_place : in_labels (label 1 20000 0 (codes "new") ∷ []) ≡ at 1 kind.BadText
  pub label_twice : in_labels (label 1 20000 1 (codes "new") ∷ label 2 20000 2 (codes "new") ∷ []) ≡ at 2 kind.RepeatedName
  pub of_domain : in_labels (label 1 20001 1 (codes "new") ∷ []) ≡ at 1 kind.Dangling
  pub of_schema : in_labels (label 1 2200 1 (codes "new") ∷ []) ≡ at 1 kind.Dangling

-- public.s has its row in pg_sequence; no object has the oid 4
abbrev pub in_relations : List ClassRow → Option LineFault
in_relations relations = table_fault (record small { pg_class = relations }) PgClass

pub record Relations : Type 0 where
  pub tables : in_relations (t ∷ u ∷ []) ≡ None
  pub name_twice : in_relations (t ∷ record s { relname = codes "t" } ∷ []) ≡ at 2 kind.RepeatedName
  pub sequence : in_relations (s ∷ []) ≡ None
  pub no_sequence_row : in_relations (record s { oid = 4 } ∷ []) ≡ at 1 kind.Dangling
  pub no_rewrite_row : in_relations (record v { oid = 4 } ∷ []) ≡ at 1 kind.Dangling
  pub no_index_row : in_relations (record i { oid = 4 } ∷ []) ≡ at 1 kind.Dangling
  pub materialized : in_relations (relation 4 (codes "m") 109 ∷ []) ≡ at 1 (kind.OutOfProfile (what.RelKind 109))
  pub unlogged : in_relations (record t { relpersistence = 117 } ∷ []) ≡ at 1 (kind.OutOfProfile what.Persistence)
  pub create_on_table : in_relations (record t { relacl = Some (grant None privilege.Create (codes "postgres") ∷ []) } ∷ []) ≡ at 1 kind.BadText
  pub read_by_all : in_relations (record t { relacl = Some (grant None privilege.Select (codes "postgres") ∷ []) } ∷ []) ≡ None
  pub rights_on_index : in_relations (record i { relacl = Some [] } ∷ []) ≡ at 1 kind.BadText

-- a schema 2200, a type 20000, tables 16500 and 16501 and a view 16502 with columns, a sequence 16503, checks 16600 of a
-- table and 16603 of a domain
abbrev pub in_comments : List DescriptionRow → Option LineFault
in_comments comments = table_fault (record small { pg_description = comments }) PgDescription

pub record Comments : Type 0 where
  pub on_each : in_comments (comment 2615 2200 0 ∷ comment 1247 20000 0 ∷ comment 1259 16500 0 ∷ comment 1259 16500 1 ∷ comment 1259 16502 0 ∷ comment 1259 16503 0 ∷ comment 2606 16600 0 ∷ []) ≡ None
  pub twice : in_comments (comment 1259 16500 0 ∷ comment 1259 16500 0 ∷ []) ≡ at 2 kind.RepeatedName
  pub of_two_classes : in_comments (comment 2615 2200 0 ∷ comment 1259 2200 0 ∷ []) ≡ at 2 kind.Dangling
  pub no_column : in_comments (comment 1259 16500 3 ∷ []) ≡ at 1 kind.Dangling
  pub column_of_view : in_comments (comment 1259 16502 1 ∷ []) ≡ at 1 (kind.OutOfProfile what.CommentKind)
  pub no_column_of_view : in_comments (comment 1259 16502 2 ∷ []) ≡ at 1 kind.Dangling
  pub column_of_sequence : in_comments (comment 1259 16503 1 ∷ []) ≡ at 1 kind.Dangling
  pub column_of_schema : in_comments (comment 2615 2200 1 ∷ []) ≡ at 1 kind.Dangling
  pub of_domain : in_comments (comment 2606 16603 0 ∷ []) ≡ at 1 (kind.OutOfProfile what.CommentKind)
  pub other_class : in_comments (comment 1260 10 0 ∷ []) ≡ at 1 (kind.OutOfProfile what.CommentKind)

-- tables 16500 and 16501, and a sequence 16503
abbrev pub in_depends : DependRow → Option LineFault
in_depends row = table_fault (record small { pg_depend = row ∷ [] }) PgDepend

pub record Depends : Type 0 where
  pub identity : in_depends (depend 16503 0 16500 105) ≡ at 1 (kind.OutOfProfile what.Identity)
  pub serial : in_depends (depend 16503 0 16500 97) ≡ None
  pub inheritance : in_depends (depend 16500 0 16501 110) ≡ at 1 (kind.OutOfProfile what.Inheritance)
  pub column : in_depends (depend 16500 1 16501 110) ≡ None
