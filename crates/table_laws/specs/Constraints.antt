-- Worked examples: texts of constraints, and the constraints of the small catalogue with what is wrong with them after one
-- change.
use Rattle.std.specs.Prelude.{◌≡◌, List, [], ◌∷◌, Option, Some, None, codes}
use Rattle.cat_rows.specs.declared.table.SysTable.TheVariants.{PgConstraint}
use Rattle.cat_rows.specs.declared.constraints.ConstraintRow.{ConstraintRow}
use Rattle.cat_model.specs.declared.object.QName.{QName}
use Rattle.cat_model.specs.declared.words.What.TheVariants as what
use Rattle.cat_model.specs.Values.{Bytes}
use Rattle.cat_names.specs.declared.fault.LineFault.{LineFault}
use Rattle.cat_names.specs.declared.fault.FaultKind.TheVariants as kind
use Rattle.constraint_table.specs.declared.constraint_text.ConstraintText.TheVariants.{Primary, Unique, Foreign, Check}
use Rattle.constraint_table.specs.Said.{constraint_said}
use Rattle.well_formed.specs.Catalogues.{table_fault}
use Rattle.table_laws.specs.Small.{at, constraint, check, of_domain, primary, unique, foreign, primary_key, is_positive, with_more}

-- ---- texts

abbrev pub parent : QName
parent = record { schema = codes "public"; name = codes "u" }

pub record Texts : Type 0 where
  pub primary : constraint_said (codes "PRIMARY KEY (a, b)") ≡ Some (Primary (codes "a" ∷ codes "b" ∷ []))
  pub unique : constraint_said (codes " unique (\"A\") deferrable -- x") ≡ Some (Unique (codes "A" ∷ []))
  pub foreign : constraint_said (codes "FOREIGN KEY (a) REFERENCES public.u(b) ON DELETE CASCADE") ≡ Some (Foreign (codes "a" ∷ []) parent (codes "b" ∷ []))
  pub check : constraint_said (codes "CHECK ((a > 0))") ≡ Some (Check (codes "(a > 0)"))
  pub semicolon : constraint_said (codes "UNIQUE (a);") ≡ None
  pub second : constraint_said (codes "CHECK (a); SET b = 1") ≡ None
  pub open_bracket : constraint_said (codes "CHECK (a") ≡ None
  pub late_update : constraint_said (codes "FOREIGN KEY (a) REFERENCES public.u(b) ON DELETE CASCADE ON UPDATE CASCADE") ≡ None
  pub other : constraint_said (codes "NOT NULL a") ≡ None
  pub empty : constraint_said [] ≡ None

-- ---- rows

-- The tables public.t and public.u, 16500 and 16501, have the columns a and b; public.k and public.l, 16504 and 16505, are
-- indexes, and so is a.k, 16509; public.j is a unique index of public.u on b and a; public.d is the domain 20001.
abbrev pub found : List ConstraintRow → Option LineFault
found rows = table_fault (record with_more { pg_constraint = rows }) PgConstraint

-- a foreign key of public.t to itself
abbrev pub to_itself : Bytes → ConstraintRow
to_itself text = record (foreign text) { confrelid = 16500 }

pub record Rows : Type 0 where
  pub none : found [] ≡ None
  pub second_oid : found (is_positive ∷ is_positive ∷ []) ≡ at 2 kind.RepeatedOid
  pub second_name : found (is_positive ∷ record is_positive { oid = 16601 } ∷ []) ≡ at 2 kind.RepeatedName
  pub of_another_table : found (is_positive ∷ record is_positive { oid = 16601; conrelid = 16501 } ∷ []) ≡ None
  pub of_a_domain : found (is_positive ∷ of_domain (codes "CHECK (VALUE > 0)") ∷ []) ≡ None
  pub no_table : found (record is_positive { conrelid = 7 } ∷ []) ≡ at 1 kind.Dangling
  pub of_an_index : found (record is_positive { conrelid = 16504 } ∷ []) ≡ at 1 kind.Dangling
  pub no_domain : found (record (of_domain (codes "CHECK (VALUE > 0)")) { contypid = 7 } ∷ []) ≡ at 1 kind.Dangling
  pub of_nothing : found (record is_positive { conrelid = 0 } ∷ []) ≡ at 1 kind.BadText
  pub of_both : found (record is_positive { contypid = 20001 } ∷ []) ≡ at 1 kind.BadText
  pub key_of_a_domain : found (record primary_key { conrelid = 0; contypid = 20001 } ∷ []) ≡ at 1 kind.BadText
  pub no_oid : found (record is_positive { oid = 0 } ∷ []) ≡ at 1 kind.BadText
  pub exclusion : found (constraint (codes "x") 120 (codes "EXCLUDE USING gist (a WITH =)") ∷ []) ≡ at 1 (kind.OutOfProfile (what.ConstraintKind 120))

pub record Keys : Type 0 where
  pub both : found (primary_key ∷ unique (codes "UNIQUE (b, a)") ∷ []) ≡ None
  pub no_index : found (record primary_key { conindid = 0 } ∷ []) ≡ at 1 kind.Dangling
  pub another_name : found (record primary_key { conindid = 16505 } ∷ []) ≡ at 1 kind.BadText
  pub another_schema : found (record primary_key { conindid = 16509 } ∷ []) ≡ at 1 kind.BadText
  pub two_of_an_index : found (primary_key ∷ record primary_key { oid = 16602; conrelid = 16501 } ∷ []) ≡ at 1 kind.BadText
  pub two_of_a_table : found (primary_key ∷ record (unique (codes "PRIMARY KEY (b)")) { contype = 112 } ∷ []) ≡ at 1 kind.BadText
  pub no_column : found (primary (codes "PRIMARY KEY (a, c)") ∷ []) ≡ at 1 kind.BadText
  pub column_twice : found (unique (codes "UNIQUE (a, a)") ∷ []) ≡ at 1 kind.BadText
  pub another_kind : found (primary (codes "UNIQUE (a)") ∷ []) ≡ at 1 kind.BadText

pub record ForeignKeys : Type 0 where
  pub to_an_index : found (foreign (codes "FOREIGN KEY (a, b) REFERENCES public.u(a, b)") ∷ []) ≡ None
  pub to_a_primary : found (to_itself (codes "FOREIGN KEY (b) REFERENCES public.t(a)") ∷ primary_key ∷ []) ≡ None
  pub to_a_unique : found (to_itself (codes "FOREIGN KEY (a, b) REFERENCES public.t(a, b)") ∷ unique (codes "UNIQUE (b, a)") ∷ []) ≡ None
  pub to_no_key : found (foreign (codes "FOREIGN KEY (a) REFERENCES public.u(a)") ∷ []) ≡ at 1 kind.BadText
  pub to_another_table : found (foreign (codes "FOREIGN KEY (a) REFERENCES public.u(a)") ∷ primary_key ∷ []) ≡ at 1 kind.BadText
  pub no_parent : found (record (foreign (codes "FOREIGN KEY (a, b) REFERENCES public.u(a, b)")) { confrelid = 0 } ∷ []) ≡ at 1 kind.Dangling
  pub another_parent : found (foreign (codes "FOREIGN KEY (a, b) REFERENCES public.t(a, b)") ∷ []) ≡ at 1 kind.BadText
  pub fewer : found (foreign (codes "FOREIGN KEY (a) REFERENCES public.u(a, b)") ∷ []) ≡ at 1 kind.BadText
  pub no_column : found (foreign (codes "FOREIGN KEY (a, c) REFERENCES public.u(a, b)") ∷ []) ≡ at 1 kind.BadText
  pub column_twice : found (foreign (codes "FOREIGN KEY (a, a) REFERENCES public.u(a, b)") ∷ []) ≡ at 1 kind.BadText

-- the relation public.u is there, public.x and the type public.f aren't
pub record Checks : Type 0 where
  pub of_a_domain : found (of_domain (codes "CHECK ((VALUE <> '1'::public.d))") ∷ []) ≡ None
  pub relation : found (check (codes "CHECK ((a > ('public.u'::regclass)::integer))") ∷ []) ≡ None
  pub no_relation : found (check (codes "CHECK ((a > ('public.x'::regclass)::integer))") ∷ []) ≡ at 1 kind.BadText
  pub no_type : found (check (codes "CHECK ((a = '1'::public.f))") ∷ []) ≡ at 1 kind.BadText
