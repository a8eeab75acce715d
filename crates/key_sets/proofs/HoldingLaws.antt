-- A set has one key more.
use Rattle.std.proofs.Common.{◌≡◌, ℕ, ◌<◌, Bool, true, false, cond, ◌||◌, List, length, get_or, set, refl, sym, ap, ◌∙◌, ◌⊎◌, inl, inr}
use Rattle.std.specs.Borrow.{Bor}
use Rattle.std.specs.HashSet.{HashSet, contains_by}
use Rattle.std.specs.List.{list_all}
use Rattle.std.proofs.lemmas.Bool.{true≢false, and_parts, false_from_ne_true, cases_Bool, cases_eq, cond-true, cond-false}
use Rattle.std.proofs.lemmas.List.{get_or-set_same, get_or-set_other}
use Rattle.std.proofs.Math.ListN.{length-set}
use Rattle.cat_model.specs.Lexemes.{same_text}
use Rattle.cat_model.proofs.MarkLaws.{same_text-equal, same_text-self}
use Rattle.key_sets.specs.Numbers.{has, is_digit, is_numbered, number_of}
use Rattle.key_sets.proofs.NumberLaws.{same_number}

same_numbered : (many : ℕ) (key other : List ℕ) → same_text key other ≡ true → is_numbered many key ≡ is_numbered many other
same_numbered many key other same = ap (is_numbered many) (same_text-equal key other same)

-- keys of which one has a number and the other hasn't
apart : (many : ℕ) (key other : List ℕ) → is_numbered many key ≡ true → is_numbered many other ≡ false → same_text key other ≡ false
apart many key other is isnt = false_from_ne_true _ (λ same. true≢false (sym is ∙ same_numbered many key other same ∙ isnt))

apart_too : (many : ℕ) (key other : List ℕ) → is_numbered many key ≡ false → is_numbered many other ≡ true → same_text key other ≡ false
apart_too many key other isnt is = false_from_ne_true _ (λ same. true≢false (sym is ∙ sym (same_numbered many key other same) ∙ isnt))

module _ {S : Type 0} (numbered : List Bool) (others : HashSet (Bor (List ℕ)) S) where
  by_mark : (q : List ℕ) → is_numbered (length numbered) q ≡ true → has numbered others q ≡ get_or numbered (number_of q) false
  by_mark q is = cond-true _ _ _ is

  by_hash : (q : List ℕ) → is_numbered (length numbered) q ≡ false → has numbered others q ≡ contains_by (λ other. same_text q other.now) others
  by_hash q isnt = cond-false _ _ _ isnt

  abbrev with_mark : List ℕ → List ℕ → Bool
  with_mark key q = cond (is_numbered (length numbered) q) (get_or (set numbered (number_of key) true) (number_of q) false) (contains_by (λ other. same_text q other.now) others)

  -- a mark more
  pub marked : (key q : List ℕ) → is_numbered (length numbered) key ≡ true → number_of key < length numbered → has (set numbered (number_of key) true) others q ≡ (same_text key q || has numbered others q)
  marked key q is below =
      ap (λ (n : ℕ). cond (is_numbered n q) (get_or (set numbered (number_of key) true) (number_of q) false) (contains_by (λ other. same_text q other.now) others)) (length-set numbered (number_of key) true)
      ∙ by (cases_Bool (is_numbered (length numbered) q)) (cases_eq (number_of q) (number_of key))
    where
      by : (is_numbered (length numbered) q ≡ true) ⊎ (is_numbered (length numbered) q ≡ false) → (number_of q ≡ number_of key) ⊎ (number_of q ≡ number_of key → ⊥) → with_mark key q ≡ (same_text key q || has numbered others q)
      by (inl has_number) (inl one) =
          let key_digits = and_parts (list_all is_digit key) _ is in
          let digits = and_parts (list_all is_digit q) _ has_number in
          let equal : key ≡ q = same_number key q key_digits.0 digits.0 (sym one) in
          let same : same_text key q ≡ true = ap (same_text key) (sym equal) ∙ same_text-self key in
          cond-true _ _ _ has_number
          ∙ ap (λ (n : ℕ). get_or (set numbered (number_of key) true) n false) one
          ∙ get_or-set_same numbered (number_of key) true false below
          ∙ sym (ap (λ (b : Bool). b || has numbered others q) same)
      by (inl has_number) (inr other) =
          let differs : same_text key q ≡ false = false_from_ne_true _ (λ same. other (ap number_of (sym (same_text-equal key q same)))) in
          cond-true _ _ _ has_number
          ∙ get_or-set_other numbered (number_of key) (number_of q) true false other
          ∙ sym (by_mark q has_number)
          ∙ sym (ap (λ (b : Bool). b || has numbered others q) differs)
      by (inr none) which =
          cond-false _ _ _ none
          ∙ sym (by_hash q none)
          ∙ sym (ap (λ (b : Bool). b || has numbered others q) (apart (length numbered) key q is none))

cond_or : (b x : Bool) → cond b true x ≡ (b || x)
cond_or true x = refl
cond_or false x = refl

-- a hashed key more
pub hashed : {S : Type 0} (numbered : List Bool) (others after : HashSet (Bor (List ℕ)) S) (key q : List ℕ) → is_numbered (length numbered) key ≡ false
    → contains_by (λ other. same_text q other.now) after ≡ cond (same_text key q) true (contains_by (λ other. same_text q other.now) others)
    → has numbered after q ≡ (same_text key q || has numbered others q)
hashed numbered others after key q isnt more = by (cases_Bool (is_numbered (length numbered) q))
  where
    by : (is_numbered (length numbered) q ≡ true) ⊎ (is_numbered (length numbered) q ≡ false) → has numbered after q ≡ (same_text key q || has numbered others q)
    by (inl has_number) =
        by_mark numbered after q has_number
        ∙ sym (by_mark numbered others q has_number)
        ∙ sym (ap (λ (b : Bool). b || has numbered others q) (apart_too (length numbered) key q isnt has_number))
    by (inr none) =
        by_hash numbered after q none
        ∙ more
        ∙ cond_or (same_text key q) (contains_by (λ other. same_text q other.now) others)
        ∙ ap (λ (b : Bool). same_text key q || b) (sym (by_hash numbered others q none))
