-- Worked examples: the labels of an enum, and what domains are at the ends of their chains.
use Rattle.std.specs.Prelude.{◌≡◌, ℕ, ℤ, pos, true, false, Bool, List, [], ◌∷◌, Option, Some, None, codes}
use Rattle.cat_rows.specs.declared.catalogue.Catalogue.{Catalogue}
use Rattle.cat_rows.specs.Catalogues.{no_rows}
use Rattle.cat_rows.specs.declared.types.TypeRow.{TypeRow}
use Rattle.cat_rows.specs.declared.types.EnumRow.{EnumRow}
use Rattle.cat_model.specs.declared.object.QName.{QName}
use Rattle.cat_model.specs.declared.type_name.TypeName.TheVariants.{Words, Path}
use Rattle.cat_model.specs.declared.value.Resolved.{Resolved}
use Rattle.cat_model.specs.Values.{Bytes}
use Rattle.type_ends.specs.Ends.{labels_of, resolved}

-- the schema public, with these types
abbrev pub catalogue : List TypeRow → Catalogue
catalogue types = record no_rows {
  pg_namespace = record { oid = 2200; nspname = codes "public"; nspowner = 10; nspacl = None } ∷ [];
  pg_type = types;
}

abbrev pub type : ℕ → Bytes → ℕ → ℕ → Bytes → TypeRow
type oid name letter base text = record { oid = oid; typname = name; typnamespace = 2200; typowner = 10; typtype = letter; typnotnull = false; typbasetype = base; basetext = text; typdefault = None; typacl = None }

-- the enum public.e
abbrev pub e : TypeRow
e = type 20000 (codes "e") 101 0 []

abbrev pub domain : ℕ → Bytes → ℕ → Bytes → TypeRow
domain oid name base text = type oid name 100 base text

abbrev pub label : ℕ → ℤ → Bytes → EnumRow
label enum position text = record { oid = 30000; enumtypid = enum; enumpos = position; enumlabel = text }

-- a label of another enum stands between those of the enum public.e, whose positions fall
abbrev pub labels : List EnumRow
labels = label 20000 (pos 2) (codes "y") ∷ label 20009 (pos 1) (codes "z") ∷ label 20000 (pos 1) (codes "x") ∷ []

abbrev pub with_labels : List TypeRow → Catalogue
with_labels types = record (catalogue types) { pg_enum = labels }

abbrev pub path : Bytes → QName
path name = record { schema = codes "public"; name = name }

-- a domain that takes no null
abbrev pub not_null : ℕ → Bytes → ℕ → Bytes → TypeRow
not_null oid name base text = record (domain oid name base text) { typnotnull = true }

-- ---- what types are

abbrev pub ended : List TypeRow → ℕ → Option Resolved
ended types oid = resolved (with_labels types) oid []

abbrev pub of_e : Bool → Option Resolved
of_e no_null = Some (record { type_name = Path (path (codes "e")); labels = Some (codes "x" ∷ codes "y" ∷ []); not_null = no_null })

abbrev pub of_words : Bytes → Bool → Option Resolved
of_words text no_null = Some (record { type_name = Words text; labels = None; not_null = no_null })

pub record Labelled : Type 0 where
  pub by_position : labels_of (with_labels []) 20000 ≡ codes "x" ∷ codes "y" ∷ []
  pub of_another : labels_of (with_labels []) 20009 ≡ codes "z" ∷ []
  pub of_none : labels_of (with_labels []) 7 ≡ []

pub record Chains : Type 0 where
  pub enum : ended (e ∷ []) 20000 ≡ of_e false
  pub over_an_enum : ended (e ∷ domain 20001 (codes "d") 20000 (codes "public.e") ∷ []) 20001 ≡ of_e false
  pub over_a_domain : ended (domain 20002 (codes "c") 20001 (codes "public.d") ∷ domain 20001 (codes "d") 20000 (codes "public.e") ∷ e ∷ []) 20002 ≡ of_e false
  pub first_not_null : ended (not_null 20002 (codes "c") 20001 (codes "public.d") ∷ domain 20001 (codes "d") 20000 (codes "public.e") ∷ e ∷ []) 20002 ≡ of_e true
  pub second_not_null : ended (domain 20002 (codes "c") 20001 (codes "public.d") ∷ not_null 20001 (codes "d") 20000 (codes "public.e") ∷ e ∷ []) 20002 ≡ of_e true
  pub not_of_those_before : ended (not_null 20002 (codes "c") 20001 (codes "public.d") ∷ domain 20001 (codes "d") 20000 (codes "public.e") ∷ e ∷ []) 20001 ≡ of_e false
  pub not_of_an_enum : ended (record e { typnotnull = true } ∷ []) 20000 ≡ of_e false
  pub words : ended (domain 20001 (codes "d") 0 (codes " character varying(20) -- b") ∷ []) 20001 ≡ of_words (codes "character varying(20)") false
  pub over_words : ended (domain 20002 (codes "c") 20001 (codes "public.d") ∷ not_null 20001 (codes "d") 0 (codes "integer") ∷ []) 20002 ≡ of_words (codes "integer") true
  pub without_oid : resolved (with_labels []) 0 (codes "integer") ≡ of_words (codes "integer") false
  pub by_oid_alone : resolved (with_labels (e ∷ [])) 20000 (codes "integer") ≡ of_e false

pub record NoEnds : Type 0 where
  pub itself : ended (domain 20001 (codes "d") 20001 (codes "public.d") ∷ []) 20001 ≡ None
  pub of_two : ended (domain 20001 (codes "d") 20002 (codes "public.c") ∷ domain 20002 (codes "c") 20001 (codes "public.d") ∷ []) 20002 ≡ None
  pub into_a_cycle : ended (domain 20001 (codes "d") 20002 (codes "public.c") ∷ domain 20002 (codes "c") 20002 (codes "public.c") ∷ e ∷ []) 20001 ≡ None
  pub no_such_base : ended (domain 20001 (codes "d") 20002 (codes "public.c") ∷ e ∷ []) 20001 ≡ None
  pub no_type_named : ended (domain 20001 (codes "d") 0 (codes "numeric(10") ∷ []) 20001 ≡ None
  pub no_schema : ended (record e { typnamespace = 7 } ∷ domain 20001 (codes "d") 20000 (codes "public.e") ∷ []) 20001 ≡ None
  pub no_such_type : ended (e ∷ []) 20001 ≡ None
