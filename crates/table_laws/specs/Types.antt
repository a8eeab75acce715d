-- Worked examples: types of the small catalogue, and what is wrong with them after one change.
use Rattle.std.specs.Prelude.{◌≡◌, List, [], ◌∷◌, Option, Some, None, codes}
use Rattle.acl_text.specs.declared.rights.Privilege.{Privilege}
use Rattle.acl_text.specs.declared.rights.Privilege.TheVariants as privilege
use Rattle.cat_rows.specs.declared.table.SysTable.TheVariants.{PgType}
use Rattle.cat_rows.specs.declared.types.TypeRow.{TypeRow}
use Rattle.cat_model.specs.declared.words.What.TheVariants as what
use Rattle.cat_model.specs.Values.{Bytes}
use Rattle.cat_names.specs.declared.fault.LineFault.{LineFault}
use Rattle.cat_names.specs.declared.fault.FaultKind.TheVariants as kind
use Rattle.well_formed.specs.Catalogues.{table_fault}
use Rattle.table_laws.specs.Small.{at, grant, type, enum, domain, e, over, with_default, small}

abbrev pub found : List TypeRow → Option LineFault
found types = table_fault (record small { pg_type = types }) PgType

-- public.e with a right to all, by a role
abbrev pub granting : Privilege → Bytes → TypeRow
granting right by = record e { typacl = Some (grant None right by ∷ []) }

pub record Rows : Type 0 where
  pub none : found [] ≡ None
  pub enum_and_domain : found (e ∷ over (codes "integer") ∷ []) ≡ None
  pub second_oid : found (e ∷ e ∷ []) ≡ at 2 kind.RepeatedOid
  pub second_name : found (e ∷ enum 20001 (codes "e") ∷ []) ≡ at 2 kind.RepeatedName
  pub in_another_schema : found (e ∷ record e { oid = 20001; typnamespace = 16385 } ∷ []) ≡ None
  pub name_first : found (e ∷ record e { oid = 20001; typowner = 11 } ∷ []) ≡ at 2 kind.RepeatedName
  pub no_schema : found (record e { typnamespace = 7 } ∷ []) ≡ at 1 kind.Dangling
  pub no_owner : found (record e { typowner = 11 } ∷ []) ≡ at 1 kind.Dangling
  pub no_base : found (record e { typbasetype = 20001 } ∷ []) ≡ at 1 kind.Dangling
  pub no_oid : found (record e { oid = 0 } ∷ []) ≡ at 1 kind.BadText
  pub no_such_right : found (granting privilege.Select (codes "postgres") ∷ []) ≡ at 1 kind.BadText
  pub by_other : found (granting privilege.Usage (codes "bob") ∷ []) ≡ at 1 (kind.OutOfProfile what.GrantByOther)
  pub bad_before_other : found (granting privilege.Select (codes "bob") ∷ []) ≡ at 1 kind.BadText
  pub composite : found (record e { typtype = 99 } ∷ []) ≡ at 1 (kind.OutOfProfile (what.TypeKind 99))
  pub texts_of_enum : found (type 20000 (codes "e") 101 0 (codes "(") (Some (codes ";")) ∷ []) ≡ None

pub record Bases : Type 0 where
  pub words : found (over (codes " character varying(20) -- b") ∷ []) ≡ None
  pub open_bracket : found (over (codes "numeric(10") ∷ []) ≡ at 1 kind.BadText
  pub semicolon : found (over (codes "integer;") ∷ []) ≡ at 1 kind.BadText
  pub unclosed : found (over (codes "integer 'a") ∷ []) ≡ at 1 kind.BadText
  pub no_type : found (over [] ∷ []) ≡ at 1 kind.BadText
  pub of_system : found (over (codes "pg_catalog.int4") ∷ []) ≡ None
  pub without_oid : found (e ∷ over (codes "public.e") ∷ []) ≡ at 2 kind.BadText
  pub as_a_path : found (e ∷ domain 20001 (codes "d") 20000 (codes "\"public\".E") ∷ []) ≡ None
  pub other_path : found (e ∷ domain 20001 (codes "d") 20000 (codes "a.e") ∷ []) ≡ at 2 kind.BadText
  pub words_with_oid : found (e ∷ domain 20001 (codes "d") 20000 (codes "integer") ∷ []) ≡ at 2 kind.BadText

pub record Chains : Type 0 where
  pub later : found (domain 20001 (codes "d") 20002 (codes "public.c") ∷ domain 20002 (codes "c") 20000 (codes "public.e") ∷ e ∷ []) ≡ None
  pub itself : found (domain 20001 (codes "d") 20001 (codes "public.d") ∷ []) ≡ at 1 kind.BadText
  pub into_a_cycle : found (domain 20001 (codes "d") 20002 (codes "public.c") ∷ domain 20002 (codes "c") 20002 (codes "public.c") ∷ []) ≡ at 1 kind.BadText
  pub of_two : found (over (codes "integer") ∷ domain 20002 (codes "b") 20003 (codes "public.c") ∷ domain 20003 (codes "c") 20002 (codes "public.b") ∷ []) ≡ at 2 kind.BadText

-- the relation public.t is there, and public.x isn't
pub record Defaults : Type 0 where
  pub expression : found (with_default (codes " 1 + (2) -- b") ∷ []) ≡ None
  pub not_null : found (with_default (codes "1 NOT NULL") ∷ []) ≡ at 1 kind.BadText
  pub ended : found (with_default (codes "1;") ∷ []) ≡ at 1 kind.BadText
  pub empty : found (with_default [] ∷ []) ≡ at 1 kind.BadText
  pub relation : found (with_default (codes "'public.t'::regclass") ∷ []) ≡ None
  pub no_relation : found (with_default (codes "'public.x'::regclass") ∷ []) ≡ at 1 kind.BadText
  pub enum : found (with_default (codes "'x'::public.e") ∷ e ∷ []) ≡ None
  pub no_enum : found (with_default (codes "'x'::public.e") ∷ []) ≡ at 1 kind.BadText
  pub own : found (with_default (codes "'x'::public.d") ∷ []) ≡ at 1 kind.BadText
