-- Worked examples: the first fault of a whole catalogue, over all of its tables.
use Rattle.std.specs.Prelude.{◌≡◌, [], ◌∷◌, None, codes}
use Rattle.cat_rows.specs.declared.table.SysTable.TheVariants.{PgNamespace, PgType, PgAttrdef, PgConstraint, PgRewrite, PgDescription, PgDepend}
use Rattle.cat_model.specs.declared.words.What.TheVariants as what
use Rattle.cat_names.specs.declared.fault.FaultKind.TheVariants as kind
use Rattle.well_formed.specs.Catalogues.{catalogue_fault}
use Rattle.table_laws.specs.Small.{fault, schema, public, domain, e, with_default, t, u, v, s, k, l, i, j, of_a, check, with_check, view, comment, depend, empty_cluster, small}

-- the small catalogue has rows in each table, and no fault
pub record Clean : Type 0 where
  pub new_cluster : catalogue_fault empty_cluster ≡ None
  pub rows_in_each : catalogue_fault small ≡ None

pub record Schemas : Type 0 where
  pub second_oid : catalogue_fault (record small { pg_namespace = public ∷ schema 2200 (codes "a") ∷ [] }) ≡ fault PgNamespace 2 kind.RepeatedOid
  pub no_owner : catalogue_fault (record small { pg_namespace = record public { nspowner = 11 } ∷ schema 16385 (codes "a") ∷ [] }) ≡ fault PgNamespace 1 kind.Dangling

-- each of two domains is over the other
pub record Types : Type 0 where
  pub cycle : catalogue_fault (record small { pg_type = e ∷ with_default (codes "1") ∷ domain 20004 (codes "b") 20005 (codes "public.c") ∷ domain 20005 (codes "c") 20004 (codes "public.b") ∷ [] }) ≡ fault PgType 3 kind.BadText

pub record Defaults : Type 0 where
  pub second_of_a_column : catalogue_fault (record small { pg_attrdef = of_a (codes "1") ∷ record (of_a (codes "2")) { oid = 30001 } ∷ [] }) ≡ fault PgAttrdef 2 kind.RepeatedName

-- the index of the primary key isn't public.k, and no type is public.nothing
pub record Constraints : Type 0 where
  pub index_of_another_name : catalogue_fault (record small { pg_class = t ∷ u ∷ v ∷ s ∷ record k { relname = codes "m" } ∷ l ∷ i ∷ j ∷ [] }) ≡ fault PgConstraint 1 kind.BadText
  pub no_type : catalogue_fault (record small { pg_constraint = with_check (check (codes "CHECK ((a = '1'::public.nothing))")) }) ≡ fault PgConstraint 2 kind.BadText

pub record Views : Type 0 where
  pub no_relation : catalogue_fault (record small { pg_rewrite = view (codes "SELECT a FROM public.nothing;") ∷ [] }) ≡ fault PgRewrite 1 kind.BadText

-- the last tables are tried too, and an earlier table comes first
pub record Notes : Type 0 where
  pub second_comment : catalogue_fault (record small { pg_description = comment 1259 16500 0 ∷ comment 1259 16500 0 ∷ [] }) ≡ fault PgDescription 2 kind.RepeatedName
  pub identity : catalogue_fault (record small { pg_depend = depend 16503 0 16500 105 ∷ [] }) ≡ fault PgDepend 1 (kind.OutOfProfile what.Identity)
  pub earlier_table : catalogue_fault (record small { pg_namespace = public ∷ public ∷ []; pg_depend = depend 16503 0 16500 105 ∷ [] }) ≡ fault PgNamespace 2 kind.RepeatedOid
