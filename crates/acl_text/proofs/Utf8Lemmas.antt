-- What is written for a list of rights is UTF-8.
use Rattle.std.proofs.Common.{◌≡◌, ℕ, suc, ◌<◌, ◌≤◌, Bool, true, false, cond, eqb, List, [], ◌∷◌, ◌++◌, length, get_or, Option, Some, None, IsUtf8, inl, inr, refl, sym, ap₂, subst, arith, append-nil}
use Rattle.std.specs.Prelude.{not, ◌||◌}
use Rattle.std.specs.List.{flat_map, list_all, AllByRecursion}
use Rattle.std.proofs.lemmas.Bool.{and_parts, cases_lt, eqb-true}
use Rattle.std.proofs.lemmas.Grind.{flat_map-append}
use Rattle.std.proofs.lemmas.Str.{IsUtf8-append, IsUtf8-nil, IsUtf8-encode, encode_ascii, inside_one}
use lib.Utf8.{scalar, scalars, encode, encodes, low_scalar}
use Rattle.copy_text.specs.Texts.{IsText}
use Rattle.acl_text.specs.declared.rights.Privilege.{Privilege}
use Rattle.acl_text.specs.declared.rights.Privilege.TheVariants.{Insert, Select, Update, Delete, Truncate, References, Trigger, Usage, Create}
use Rattle.acl_text.specs.declared.rights.Right.{Right}
use Rattle.acl_text.specs.declared.list.AclItem.{AclItem}
use Rattle.acl_text.specs.Acls.{quote, star, comma, slash, equals, escaping, opening, closing, privilege_letter, spell_right, is_plain, double_quote, spell_name, spell_grantee, spell_item, is_special, escape_byte, spell_element, spell_items, spell_acl, IsGrantee, IsAclItem}

ascii_then : (x : ℕ) (xs : List ℕ) → x < 128 → IsUtf8 xs → IsUtf8 (x ∷ xs)
ascii_then x xs small u = IsUtf8-append (x ∷ []) xs (subst IsUtf8 (encode_ascii x small) (IsUtf8-encode x (low_scalar x (omega arith)))) u

one_ascii : (x : ℕ) → x < 128 → IsUtf8 (x ∷ [])
one_ascii x small = ascii_then x [] small IsUtf8-nil

-- ---- a byte at a time

-- changes bytes of ASCII alone, into UTF-8
record ChangesAscii (f : ℕ → List ℕ) : Type 0 where
  low : (b : ℕ) → b < 128 → IsUtf8 (f b)
  high : (b : ℕ) → 128 ≤ b → f b ≡ b ∷ []

unchanged : (f : ℕ → List ℕ) → ChangesAscii f → (xs : List ℕ) → ((k : ℕ) → k < length xs → 128 ≤ get_or xs k 0) → flat_map f xs ≡ xs
unchanged f is [] high = refl
unchanged f is (x ∷ xs) high =
    ap₂ (λ (a b : List ℕ). a ++ b) (is.high x (high 0 (omega arith))) (unchanged f is xs (λ k below. high (suc k) (omega arith)))

one_char : (f : ℕ → List ℕ) → ChangesAscii f → (c : ℕ) → scalar c ≡ true → IsUtf8 (flat_map f (encode c))
one_char f is c ok = elim (cases_lt c 128) [
  | inl small ↦ rw (encode_ascii c small, append-nil) (is.low c small)
  | inr big ↦
      let high : (k : ℕ) → k < length (encode c) → 128 ≤ get_or (encode c) k 0 = λ k below. elim (cases_lt (get_or (encode c) k 0) 128) [
        | inl low ↦ absurd (omega (arith, inside_one c [] (encode c) k (sym (append-nil _)) below low))
        | inr h ↦ h
      ] in
      subst IsUtf8 (sym (unchanged f is (encode c) high)) (IsUtf8-encode c ok)
]

all_chars : (f : ℕ → List ℕ) → ChangesAscii f → (cs : List ℕ) → scalars cs ≡ true → IsUtf8 (flat_map f (encodes cs))
all_chars f is [] ok = IsUtf8-nil
all_chars f is (c ∷ cs) ok =
    let parts = and_parts _ _ ok in
    subst IsUtf8 (sym (flat_map-append f (encode c) (encodes cs))) (IsUtf8-append _ _ (one_char f is c parts.0) (all_chars f is cs parts.1))

changed : (f : ℕ → List ℕ) → ChangesAscii f → (text : List ℕ) → IsUtf8 text → IsUtf8 (flat_map f text)
changed f is text u = subst (λ l. IsUtf8 (flat_map f l)) u.1.1 (all_chars f is u.0 u.1.0)

doubles : ChangesAscii double_quote
doubles = record {
  low = λ b small. one b small (eqb b quote);
  high = λ b big. other b big (eqb b quote) refl;
}
  where
    one : (b : ℕ) → b < 128 → (is : Bool) → IsUtf8 (cond is (quote ∷ quote ∷ []) (b ∷ []))
    one b small true = ascii_then quote (quote ∷ []) (omega arith) (one_ascii quote (omega arith))
    one b small false = one_ascii b small

    other : (b : ℕ) → 128 ≤ b → (is : Bool) → eqb b quote ≡ is → cond is (quote ∷ quote ∷ []) (b ∷ []) ≡ b ∷ []
    other b big true is = absurd (omega (arith, eqb-true b quote is))
    other b big false is = refl

escapes : ChangesAscii escape_byte
escapes = record {
  low = λ b small. one b small (eqb b quote) (eqb b escaping);
  high = λ b big. other b big (eqb b quote) (eqb b escaping) refl refl;
}
  where
    one : (b : ℕ) → b < 128 → (is is_too : Bool) → IsUtf8 (cond (is || is_too) (escaping ∷ b ∷ []) (b ∷ []))
    one b small true is_too = ascii_then escaping (b ∷ []) (omega arith) (one_ascii b small)
    one b small false true = ascii_then escaping (b ∷ []) (omega arith) (one_ascii b small)
    one b small false false = one_ascii b small

    other : (b : ℕ) → 128 ≤ b → (is is_too : Bool) → eqb b quote ≡ is → eqb b escaping ≡ is_too → cond (is || is_too) (escaping ∷ b ∷ []) (b ∷ []) ≡ b ∷ []
    other b big true is_too is other_is = absurd (omega (arith, eqb-true b quote is))
    other b big false true is other_is = absurd (omega (arith, eqb-true b escaping other_is))
    other b big false false is other_is = refl

-- ---- names, rights, items

in_quotes : (text : List ℕ) → IsUtf8 text → IsUtf8 (quote ∷ (text ++ quote ∷ []))
in_quotes text u = ascii_then quote _ (omega arith) (IsUtf8-append text (quote ∷ []) u (one_ascii quote (omega arith)))

name_text : (name : List ℕ) → IsUtf8 name → IsUtf8 (spell_name name)
unfolding spell_name
name_text name u = by (list_all is_plain name)
  where
    by : (plain : Bool) → IsUtf8 (cond plain name (quote ∷ (flat_map double_quote name ++ quote ∷ [])))
    by true = u
    by false = in_quotes _ (changed double_quote doubles name u)

element_text : (text : List ℕ) → IsUtf8 text → IsUtf8 (spell_element text)
unfolding spell_element
element_text text u = by (list_all (λ b. not (is_special b)) text)
  where
    by : (bare : Bool) → IsUtf8 (cond bare text (quote ∷ (flat_map escape_byte text ++ quote ∷ [])))
    by true = u
    by false = in_quotes _ (changed escape_byte escapes text u)

letter_small : (privilege : Privilege) → privilege_letter privilege < 128
letter_small Insert = omega arith
letter_small Select = omega arith
letter_small Update = omega arith
letter_small Delete = omega arith
letter_small Truncate = omega arith
letter_small References = omega arith
letter_small Trigger = omega arith
letter_small Usage = omega arith
letter_small Create = omega arith

star_text : (option : Bool) → IsUtf8 (cond option (star ∷ []) [])
star_text true = one_ascii star (omega arith)
star_text false = IsUtf8-nil

rights_text : (rights : List Right) → IsUtf8 (flat_map spell_right rights)
rights_text [] = IsUtf8-nil
rights_text (right ∷ more) =
    IsUtf8-append (spell_right right) (flat_map spell_right more)
    (ascii_then (privilege_letter right.privilege) _ (letter_small right.privilege) (star_text right.grant_option))
    (rights_text more)

grantee_text : (grantee : Option (List ℕ)) → IsGrantee grantee → IsUtf8 (spell_grantee grantee)
grantee_text None is = IsUtf8-nil
grantee_text (Some name) is = name_text name is.utf8

item_text : (item : AclItem) → IsAclItem item → IsUtf8 (spell_item item)
item_text item is =
    IsUtf8-append (spell_grantee item.grantee) _ (grantee_text item.grantee is.grantee)
    (ascii_then equals _ (omega arith)
    (IsUtf8-append (flat_map spell_right item.rights) _ (rights_text item.rights)
    (ascii_then slash _ (omega arith) (name_text item.grantor is.grantor.utf8))))

abbrev after_comma : AclItem → List ℕ
after_comma item = comma ∷ spell_element (spell_item item)

more_text : (items : List AclItem) → AllByRecursion IsAclItem items → IsUtf8 (flat_map after_comma items)
more_text [] all = IsUtf8-nil
more_text (item ∷ more) all =
    IsUtf8-append (after_comma item) (flat_map after_comma more)
    (ascii_then comma _ (omega arith) (element_text (spell_item item) (item_text item all.0)))
    (more_text more all.1)

items_text : (items : List AclItem) → AllByRecursion IsAclItem items → IsUtf8 (spell_items items)
items_text [] all = IsUtf8-nil
items_text (item ∷ more) all =
    IsUtf8-append (spell_element (spell_item item)) (flat_map after_comma more) (element_text (spell_item item) (item_text item all.0)) (more_text more all.1)

pub acl_text : (items : List AclItem) → AllByRecursion IsAclItem items → IsText (spell_acl items)
unfolding spell_acl
acl_text items all =
    ascii_then opening _ (omega arith) (IsUtf8-append (spell_items items) (closing ∷ []) (items_text items all) (one_ascii closing (omega arith)))
