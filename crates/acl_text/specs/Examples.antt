-- Worked examples of lists of rights as texts. 34 is `"`, 92 a backslash.
use Rattle.std.specs.Prelude.{◌≡◌, ℕ, List, [], ◌∷◌, ◌++◌, map, Option, Some, None, true, false, codes}
use Rattle.acl_text.specs.declared.rights.Privilege.{Privilege}
use Rattle.acl_text.specs.declared.rights.Privilege.TheVariants.{Insert, Select, Update, Delete, Truncate, References, Trigger, Usage, Create}
use Rattle.acl_text.specs.declared.rights.Right.{Right}
use Rattle.acl_text.specs.declared.list.AclItem.{AclItem}
use Rattle.acl_text.specs.Acls.{acl_of, spell_acl}

abbrev pub granted : Privilege → Right
granted privilege = record { privilege = privilege; grant_option = false }

abbrev pub with_option : Privilege → Right
with_option privilege = record { privilege = privilege; grant_option = true }

-- what a grantee, or PUBLIC where there is none, has from b
abbrev pub from_b : Option (List ℕ) → List Right → AclItem
from_b grantee rights = record { grantee = grantee; rights = rights; grantor = codes "b" }

-- all rights on a table
abbrev pub on_table : List Right
on_table = map granted (Insert ∷ Select ∷ Update ∷ Delete ∷ Truncate ∷ References ∷ Trigger ∷ [])

-- `{"a=U/b"}`
abbrev pub element_in_quotes : List ℕ
element_in_quotes = codes "{" ++ 34 ∷ codes "a=U/b" ++ 34 ∷ codes "}"

-- `{"\"a b\"=U/b"}`
abbrev pub name_in_quotes : List ℕ
name_in_quotes = codes "{" ++ 34 ∷ 92 ∷ 34 ∷ codes "a b" ++ 92 ∷ 34 ∷ codes "=U/b" ++ 34 ∷ codes "}"

-- `{"a b"=U/b}`
abbrev pub bare_behind_quotes : List ℕ
bare_behind_quotes = codes "{" ++ 34 ∷ codes "a b" ++ 34 ∷ codes "=U/b}"

-- texts that are lists, with their items
pub record Lists : Type 0 where
  pub empty : acl_of (codes "{}") ≡ Some []
  pub table : acl_of (codes "{a=arwdDxt/b,=r/b}") ≡ Some (from_b (Some (codes "a")) on_table ∷ from_b None (granted Select ∷ []) ∷ [])
  pub option : acl_of (codes "{a=U*C/b}") ≡ Some (from_b (Some (codes "a")) (with_option Usage ∷ granted Create ∷ []) ∷ [])
  pub any_order : acl_of (codes "{=CU*/b}") ≡ Some (from_b None (granted Create ∷ with_option Usage ∷ []) ∷ [])
  pub no_rights : acl_of (codes "{a=/b}") ≡ Some (from_b (Some (codes "a")) [] ∷ [])
  pub in_quotes : acl_of element_in_quotes ≡ Some (from_b (Some (codes "a")) (granted Usage ∷ []) ∷ [])
  pub quoted_name : acl_of name_in_quotes ≡ Some (from_b (Some (codes "a b")) (granted Usage ∷ []) ∷ [])

-- texts that are none
pub record NoLists : Type 0 where
  pub nothing : acl_of [] ≡ None
  pub no_end : acl_of (codes "{a=U/b") ≡ None
  pub more_behind : acl_of (codes "{a=U/b} ") ≡ None
  pub last_comma : acl_of (codes "{a=U/b,}") ≡ None
  pub blank : acl_of (codes "{ a=U/b}") ≡ None
  pub other_letter : acl_of (codes "{a=z/b}") ≡ None
  pub lone_star : acl_of (codes "{a=*U/b}") ≡ None
  pub two_stars : acl_of (codes "{a=U**/b}") ≡ None
  pub no_grantor : acl_of (codes "{a=U/}") ≡ None
  pub no_slash : acl_of (codes "{a=U}") ≡ None
  pub behind_quotes : acl_of bare_behind_quotes ≡ None

-- lists and what is written for them
pub record Written : Type 0 where
  pub empty : spell_acl [] ≡ codes "{}"
  pub table : spell_acl (from_b (Some (codes "a")) on_table ∷ from_b None (with_option Select ∷ []) ∷ []) ≡ codes "{a=arwdDxt/b,=r*/b}"
  pub quoted_name : spell_acl (from_b (Some (codes "a b")) (granted Usage ∷ []) ∷ []) ≡ name_in_quotes
