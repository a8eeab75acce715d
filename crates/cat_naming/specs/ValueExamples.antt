-- Worked examples of values: the checks of a domain, default rights, and the rows that texts hold.
use Rattle.std.specs.Prelude.{◌≡◌, ◌≢◌, false, List, [], ◌∷◌, ◌++◌, map, Option, Some, None, codes}
use Rattle.std.specs.FinMap.{from_entries}
use Rattle.acl_text.specs.declared.list.AclItem.{AclItem}
use Rattle.acl_text.specs.declared.rights.Privilege.{Privilege}
use Rattle.acl_text.specs.declared.rights.Privilege.TheVariants.{Insert, Select, Update, Delete, Truncate, References, Trigger, Usage, Create}
use Rattle.data_rows.specs.Examples.{line_of, text_of}
use Rattle.cat_model.specs.declared.value.Domain.{Domain}
use Rattle.cat_model.specs.declared.value.Value.{Value}
use Rattle.cat_model.specs.declared.value.Value.TheVariants as value
use Rattle.cat_model.specs.RowTexts.{rows_held}
use Rattle.cat_model.specs.Values.{Bytes}
use Rattle.cat_names.specs.declared.rights.GrantKind.TheVariants as on
use Rattle.cat_names.specs.Grants.{grants_of}

-- ---- domains

-- one of two checks of a domain
abbrev pub least : Bytes × Bytes
least = (codes "least", codes "VALUE > 0")

-- the other one
abbrev pub most : Bytes × Bytes
most = (codes "most", codes "VALUE < 9")

-- the domain with these checks in place of its own
abbrev pub with_checks : Domain → List (Bytes × Bytes) → Value
with_checks d checks = value.Domain (record d { checks = from_entries checks })

-- Domains whose checks stand in another order are one value, of checks with one name the first counts, and one check
-- more makes another value.
pub record OneDomain : Type 0 where
  pub other_order : (d : Domain) → with_checks d (least ∷ most ∷ []) ≡ with_checks d (most ∷ least ∷ [])
  pub first_counts : (d : Domain) → with_checks d (least ∷ (least.0, most.1) ∷ []) ≡ with_checks d (least ∷ [])
  pub one_more : (d : Domain) → with_checks d (least ∷ most ∷ []) ≢ with_checks d (least ∷ [])

-- ---- rights

-- what a role granted to a grantee
abbrev pub granted : Option Bytes → List Privilege → AclItem
granted grantee privileges = record { grantee = grantee; rights = map (λ p. record { privilege = p; grant_option = false }) privileges; grantor = codes "bob" }

-- what bob granted to himself
abbrev pub bobs : List Privilege → AclItem
bobs privileges = granted (Some (codes "bob")) privileges

-- Null is the default rights of each kind of object, and no rights are another value. Everyone may use a new type.
pub record DefaultRights : Type 0 where
  pub table : grants_of on.Table (codes "bob") None ≡ grants_of on.Table (codes "bob") (Some (bobs (Insert ∷ Select ∷ Update ∷ Delete ∷ Truncate ∷ References ∷ Trigger ∷ []) ∷ []))
  pub sequence : grants_of on.Sequence (codes "bob") None ≡ grants_of on.Sequence (codes "bob") (Some (bobs (Select ∷ Update ∷ Usage ∷ []) ∷ []))
  pub schema : grants_of on.Schema (codes "bob") None ≡ grants_of on.Schema (codes "bob") (Some (bobs (Usage ∷ Create ∷ []) ∷ []))
  pub type : grants_of on.Type (codes "bob") None ≡ grants_of on.Type (codes "bob") (Some (bobs (Usage ∷ []) ∷ granted None (Usage ∷ []) ∷ []))
  pub no_rights : grants_of on.Type (codes "bob") None ≢ grants_of on.Type (codes "bob") (Some [])

-- ---- rows

-- Texts with other spellings hold the same rows, in their order; what stands behind the end mark is no row, and a line
-- that reads as none gives nothing. `\\` stands for one backslash.
pub record SameRows : Type 0 where
  pub escaped : rows_held (text_of (line_of (codes "1" ∷ codes "\\x41" ∷ []) ∷ [])) ≡ rows_held (text_of (line_of (codes "1" ∷ codes "A" ∷ []) ∷ []))
  pub last_newline : rows_held (codes "a") ≡ rows_held (text_of (codes "a" ∷ []))
  pub end_mark : rows_held (text_of (codes "a" ∷ codes "\\." ∷ []) ++ codes "rest") ≡ (Some (codes "a") ∷ []) ∷ []
  pub null : rows_held (text_of (line_of (codes "\\N" ∷ [] ∷ []) ∷ [])) ≡ (None ∷ Some [] ∷ []) ∷ []
  pub in_order : rows_held (text_of (codes "a" ∷ codes "b" ∷ [])) ≡ (Some (codes "a") ∷ []) ∷ (Some (codes "b") ∷ []) ∷ []
  pub no_row : rows_held (text_of (codes "a" ∷ codes "b\\" ∷ [])) ≡ (Some (codes "a") ∷ []) ∷ []
