-- A list that a text spells can be written.
use Rattle.std.proofs.Common.{◌≡◌, ℕ, Bool, true, false, cond, eqb, List, [], ◌∷◌, length, take, drop, Option, Some, None, refl, subst}
use Rattle.std.specs.Prelude.{◌&&◌}
use Rattle.std.specs.Str.{bytes_eq}
use Rattle.std.proofs.lemmas.Bool.{and_parts}
use Rattle.copy_text.specs.Texts.{IsName, is_name}
use Rattle.acl_text.specs.declared.list.AclItem.{AclItem}
use Rattle.acl_text.specs.Acls.{◌>>=◌, slash, equals, opening, closing, behind, name_at, rights_of, slash_at, grantee_of, last_name, item_of, items_of, elements_of, acl_of, IsGrantee, IsAclItem, IsAcl}
use Rattle.acl_text.proofs.SpellingLemmas.{NameTests}

-- what a step gave, and what the steps behind it gave
pub bound : {A B : Type 0} (o : Option A) (f : A → Option B) (y : B) → (o >>= f) ≡ Some y → (x : A) × (o ≡ Some x) × (f x ≡ Some y)
bound (Some x) f y is = (x, refl, is)
bound None f y is = absurd cc

grantee_is_one : NameTests → (bytes : List ℕ) (grantee : Option (List ℕ)) → grantee_of bytes ≡ Some grantee → IsGrantee grantee
grantee_is_one tests [] grantee is =
    let same : None ≡ grantee = cc in
    subst IsGrantee same tt
grantee_is_one tests (b ∷ rest) grantee is = by (is_name (b ∷ rest)) refl
  where
    by : (valid : Bool) → is_name (b ∷ rest) ≡ valid → IsGrantee grantee
    by true v =
        let read : grantee_of (b ∷ rest) ≡ Some (Some (b ∷ rest)) = rw v refl in
        let same : Some (b ∷ rest) ≡ grantee = cc in
        subst IsGrantee same ((tests (b ∷ rest)).0 v)
    by false v =
        let read : grantee_of (b ∷ rest) ≡ None = rw v refl in
        absurd cc

grantor_is_one : NameTests → (read : List ℕ × List ℕ) (name : List ℕ) → last_name read ≡ Some name → IsName name
grantor_is_one tests read name is = by (is_name read.0 && eqb (length read.1) 0) refl
  where
    by : (valid : Bool) → (is_name read.0 && eqb (length read.1) 0) ≡ valid → IsName name
    by true v =
        let same_read : last_name read ≡ Some read.0 = rw v refl in
        let same : read.0 ≡ name = cc in
        subst IsName same ((tests read.0).0 (and_parts (is_name read.0) (eqb (length read.1) 0) v).0)
    by false v =
        let none : last_name read ≡ None = rw v refl in
        absurd cc

item_can_be_written : NameTests → (text : List ℕ) (item : AclItem) → item_of text ≡ Some item → IsAclItem item
unfolding item_of
item_can_be_written tests text item is =
    let a = bound (name_at text) _ item is in
    let b = bound (grantee_of a.0.0) _ item a.2 in
    let c = bound (behind equals a.0.1) _ item b.2 in
    let d = bound (rights_of (take (slash_at c.0) c.0)) _ item c.2 in
    let e = bound (behind slash (drop (slash_at c.0) c.0)) _ item d.2 in
    let f = bound (name_at e.0) _ item e.2 in
    let g = bound (last_name f.0) _ item f.2 in
    let same : record { grantee = b.0; rights = d.0; grantor = g.0 } ≡ item = cc in
    subst IsAclItem same (record { grantee = grantee_is_one tests a.0.0 b.0 b.1; grantor = grantor_is_one tests f.0 g.0 g.1 })

items_can_be_written : NameTests → (texts : List (List ℕ)) (items : List AclItem) → items_of texts ≡ Some items → IsAcl items
unfolding items_of
items_can_be_written tests [] items is =
    let same : [] ≡ items = cc in
    subst IsAcl same tt
items_can_be_written tests (text ∷ more) items is =
    let a = bound (item_of text) _ items is in
    let b = bound (items_of more) _ items a.2 in
    let same : a.0 ∷ b.0 ≡ items = cc in
    subst IsAcl same (item_can_be_written tests text a.0 a.1, items_can_be_written tests more b.0 b.1)

pub acl_can_be_written : NameTests → (text : List ℕ) (items : List AclItem) → acl_of text ≡ Some items → IsAcl items
unfolding acl_of
acl_can_be_written tests text items is =
    let a = bound (behind opening text) _ items is in
    by a.0 (bytes_eq a.0 (closing ∷ [])) a.2
  where
    by : (rest : List ℕ) (empty : Bool) → cond empty (Some []) (elements_of rest >>= items_of) ≡ Some items → IsAcl items
    by rest true read =
        let same : [] ≡ items = cc in
        subst IsAcl same tt
    by rest false read =
        let b = bound (elements_of rest) items_of items read in
        items_can_be_written tests b.0 items b.2
