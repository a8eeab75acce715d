-- Worked examples: columns and defaults of the small catalogue, and what is wrong with them after one change.
use Rattle.std.specs.Prelude.{◌≡◌, pos, negsuc, List, [], ◌∷◌, Option, None, codes}
use Rattle.cat_rows.specs.declared.table.SysTable.TheVariants.{PgAttribute, PgAttrdef}
use Rattle.cat_rows.specs.declared.catalogue.Catalogue.{Catalogue}
use Rattle.cat_rows.specs.declared.relations.AttributeRow.{AttributeRow}
use Rattle.cat_rows.specs.declared.relations.AttrdefRow.{AttrdefRow}
use Rattle.cat_model.specs.declared.words.What.TheVariants as what
use Rattle.cat_names.specs.declared.fault.CatFault.{CatFault}
use Rattle.cat_names.specs.declared.fault.LineFault.{LineFault}
use Rattle.cat_names.specs.declared.fault.FaultKind.TheVariants as kind
use Rattle.well_formed.specs.Catalogues.{table_fault, first_in}
use Rattle.table_laws.specs.Small.{at, fault, a, column, of_a, small}

-- public.t is the table 16500, public.v the view 16502, public.s the sequence 16503, public.e the enum 20000
abbrev pub in_columns : List AttributeRow → Option LineFault
in_columns rows = table_fault (record small { pg_attribute = rows }) PgAttribute

pub record Columns : Type 0 where
  pub none : in_columns [] ≡ None
  pub with_a_gap : in_columns (a ∷ column 16500 (pos 3) (codes "c") 20000 (codes "public.e") ∷ []) ≡ None
  pub of_another_relation : in_columns (a ∷ record a { attrelid = 16502 } ∷ []) ≡ None
  pub second_name : in_columns (a ∷ record a { attnum = pos 2 } ∷ []) ≡ at 2 kind.RepeatedName
  pub second_number : in_columns (a ∷ record a { attname = codes "b" } ∷ []) ≡ at 2 kind.BadText
  pub number_of_zero : in_columns (record a { attnum = pos 0 } ∷ []) ≡ at 1 kind.BadText
  pub system_column : in_columns (record a { attnum = negsuc 0 } ∷ []) ≡ at 1 kind.BadText
  pub no_relation : in_columns (record a { attrelid = 7 } ∷ []) ≡ at 1 kind.Dangling
  pub of_a_sequence : in_columns (record a { attrelid = 16503 } ∷ []) ≡ at 1 kind.Dangling
  pub no_type : in_columns (record a { atttypid = 7 } ∷ []) ≡ at 1 kind.Dangling
  pub words_with_oid : in_columns (record a { atttypid = 20000 } ∷ []) ≡ at 1 kind.BadText
  pub path_without_oid : in_columns (record a { typtext = codes "public.e" } ∷ []) ≡ at 1 kind.BadText
  pub open_bracket : in_columns (record a { typtext = codes "numeric(10" } ∷ []) ≡ at 1 kind.BadText
  pub array : in_columns (record a { typtext = codes "character varying(20)[]" } ∷ []) ≡ None

-- the columns 1 and 2 of public.t and the column 1 of public.v are there
abbrev pub in_defaults : List AttrdefRow → Option LineFault
in_defaults rows = table_fault (record small { pg_attrdef = rows }) PgAttrdef

pub record Defaults : Type 0 where
  pub expression : in_defaults (of_a (codes "1 + (2)") ∷ []) ≡ None
  pub second_oid : in_defaults (of_a (codes "1") ∷ of_a (codes "1") ∷ []) ≡ at 2 kind.RepeatedOid
  pub second_of_a_column : in_defaults (of_a (codes "1") ∷ record (of_a (codes "1")) { oid = 30001 } ∷ []) ≡ at 2 kind.RepeatedName
  pub no_column : in_defaults (record (of_a (codes "1")) { adnum = pos 3 } ∷ []) ≡ at 1 kind.Dangling
  pub column_of_a_view : in_defaults (record (of_a (codes "1")) { adrelid = 16502 } ∷ []) ≡ at 1 (kind.OutOfProfile what.DefaultOnView)
  pub bad_on_a_view : in_defaults (record (of_a []) { adrelid = 16502 } ∷ []) ≡ at 1 kind.BadText
  pub of_a_sequence : in_defaults (record (of_a (codes "1")) { adrelid = 16503 } ∷ []) ≡ at 1 kind.Dangling
  pub no_oid : in_defaults (record (of_a (codes "1")) { oid = 0 } ∷ []) ≡ at 1 kind.BadText
  pub empty : in_defaults (of_a [] ∷ []) ≡ at 1 kind.BadText
  pub ended : in_defaults (of_a (codes "1;") ∷ []) ≡ at 1 kind.BadText
  pub not_null : in_defaults (of_a (codes "1 NOT NULL") ∷ []) ≡ at 1 kind.BadText
  pub sequence : in_defaults (of_a (codes "nextval('public.s'::regclass)") ∷ []) ≡ None
  pub its_own_table : in_defaults (of_a (codes "'public.t'::regclass") ∷ []) ≡ None
  pub no_sequence : in_defaults (of_a (codes "nextval('public.x'::regclass)") ∷ []) ≡ at 1 kind.BadText
  pub no_such_type : in_defaults (of_a (codes "'x'::public.f") ∷ []) ≡ at 1 kind.BadText

-- the first fault of the two tables
abbrev pub in_both : Catalogue → Option CatFault
in_both cat = first_in cat (PgAttribute ∷ PgAttrdef ∷ [])

pub record Both : Type 0 where
  pub columns_first : in_both (record small { pg_attribute = a ∷ a ∷ []; pg_attrdef = record (of_a []) { oid = 0 } ∷ [] }) ≡ fault PgAttribute 2 kind.RepeatedName
