-- A set and a map of names behind one more: what they know is what the list with the name behind it has.
use Rattle.std.proofs.Common.{◌≡◌, ℕ, ◌+◌, Bool, true, false, cond, ◌||◌, List, [], ◌∷◌, ◌++◌, length, Option, Some, None, refl, ap, sym, ◌∙◌, arith}
use Rattle.std.proofs.lemmas.Bool.{true≢false}
use Rattle.std.specs.Option.{is_some}
use Rattle.std.specs.List.{list_any, position_from}
use Rattle.std.specs.Cmp.{unsigned_Decides}
use Rattle.std.specs.Cmp.Lexicographic.{pointwise_decides, nat_list_eq_equiv}
use Rattle.cat_model.specs.Lexemes.{same_text}

same_symm : (a b : List ℕ) → same_text a b ≡ same_text b a
same_symm = nat_list_eq_equiv.symm

same_is : (a b : List ℕ) → same_text a b ≡ true → a ≡ b
same_is a b = (pointwise_decides unsigned_Decides a b).0

-- ---- whether a text is there

any_behind : (p : List ℕ → Bool) (xs : List (List ℕ)) (x : List ℕ) → list_any p (xs ++ x ∷ []) ≡ (list_any p xs || (p x || false))
any_behind p [] x = refl
any_behind p (y ∷ ys) x =
    elim (p y) as (λ b. (b || list_any p (ys ++ x ∷ [])) ≡ ((b || list_any p ys) || (p x || false)))
    [ true ↦ refl | false ↦ any_behind p ys x ]

cond_or : (b x : Bool) → cond b true x ≡ (x || (b || false))
cond_or true true = refl
cond_or true false = refl
cond_or false true = refl
cond_or false false = refl

pub one_more_label : (labels : List (List ℕ)) (label text : List ℕ) → cond (same_text label text) true (list_any (same_text text) labels) ≡ list_any (same_text text) (labels ++ label ∷ [])
one_more_label labels label text =
    cond_or (same_text label text) (list_any (same_text text) labels)
    ∙ ap (λ (b : Bool). list_any (same_text text) labels || (b || false)) (same_symm label text)
    ∙ sym (any_behind (same_text text) labels label)

-- ---- where a name stands first

some_of : (o : Option ℕ) → is_some o ≡ true → (n : ℕ) × (o ≡ Some n)
some_of (Some n) h = (n, refl)
some_of None h = absurd (true≢false (sym h))

none_of : (o : Option ℕ) → is_some o ≡ false → o ≡ None
none_of (Some n) h = absurd (true≢false h)
none_of None h = refl

abbrev first_of : Option ℕ → Option ℕ → Option ℕ
first_of (Some n) later = Some n
first_of None later = later

behind : (p : List ℕ → Bool) (n : ℕ) (xs : List (List ℕ)) (x : List ℕ) → position_from p n (xs ++ x ∷ []) ≡ first_of (position_from p n xs) (cond (p x) (Some (n + length xs)) None)
behind p n [] x = let e : n ≡ n + 0 = omega arith in ap (λ (m : ℕ). cond (p x) (Some m) None) e
behind p n (y ∷ ys) x =
    elim (p y) as (λ b. cond b (Some n) (position_from p (n + 1) (ys ++ x ∷ [])) ≡ first_of (cond b (Some n) (position_from p (n + 1) ys)) (cond (p x) (Some (n + length (y ∷ ys))) None)) [
      | true ↦ refl
      | false ↦
          let e : n + 1 + length ys ≡ n + length (y ∷ ys) = omega arith in
          behind p (n + 1) ys x ∙ ap (λ (m : ℕ). first_of (position_from p (n + 1) ys) (cond (p x) (Some m) None)) e
    ]

none_later : (o : Option ℕ) → first_of o None ≡ o
none_later (Some n) = refl
none_later None = refl

there_already : (names : List (List ℕ)) (name q : List ℕ) (n : ℕ) (b : Bool) → position_from (same_text name) 0 names ≡ Some n → same_text q name ≡ b
    → first_of (position_from (same_text q) 0 names) (cond b (Some (0 + length names)) None) ≡ position_from (same_text q) 0 names
there_already names name q n true there is =
    let e : position_from (same_text q) 0 names ≡ Some n = ap (λ (k : List ℕ). position_from (same_text k) 0 names) (same_is q name is) ∙ there in
    ap (λ (o : Option ℕ). first_of o (Some (0 + length names))) e ∙ sym e
there_already names name q n false there other = none_later (position_from (same_text q) 0 names)

-- behind a list in which the name stands already, nothing stands anew
pub repeated_name : (names : List (List ℕ)) (name q : List ℕ) → is_some (position_from (same_text name) 0 names) ≡ true
    → position_from (same_text q) 0 names ≡ position_from (same_text q) 0 (names ++ name ∷ [])
repeated_name names name q h =
    let there = some_of (position_from (same_text name) 0 names) h in
    sym (behind (same_text q) 0 names name ∙ there_already names name q there.0 (same_text q name) there.1 refl)

not_there : (names : List (List ℕ)) (name q : List ℕ) (b : Bool) → position_from (same_text name) 0 names ≡ None → same_text name q ≡ b
    → cond b (Some (length names)) (position_from (same_text q) 0 names) ≡ first_of (position_from (same_text q) 0 names) (cond b (Some (0 + length names)) None)
not_there names name q true new is =
    let e : position_from (same_text q) 0 names ≡ None = ap (λ (k : List ℕ). position_from (same_text k) 0 names) (sym (same_is name q is)) ∙ new in
    let n : length names ≡ 0 + length names = omega arith in
    ap Some n ∙ ap (λ (o : Option ℕ). first_of o (Some (0 + length names))) (sym e)
not_there names name q false new other = sym (none_later (position_from (same_text q) 0 names))

-- a name that is new stands behind the others
pub new_name : (names : List (List ℕ)) (name q : List ℕ) → is_some (position_from (same_text name) 0 names) ≡ false
    → cond (same_text name q) (Some (length names)) (position_from (same_text q) 0 names) ≡ position_from (same_text q) 0 (names ++ name ∷ [])
new_name names name q h =
    not_there names name q (same_text name q) (none_of (position_from (same_text name) 0 names) h) refl
    ∙ ap (λ (b : Bool). first_of (position_from (same_text q) 0 names) (cond b (Some (0 + length names)) None)) (same_symm name q)
    ∙ sym (behind (same_text q) 0 names name)

any_place : (p : List ℕ → Bool) (n : ℕ) (names : List (List ℕ)) → is_some (position_from p n names) ≡ list_any p names
any_place p n [] = refl
any_place p n (x ∷ xs) =
    elim (p x) as (λ b. is_some (cond b (Some n) (position_from p (n + 1) xs)) ≡ (b || list_any p xs))
    [ true ↦ refl | false ↦ any_place p (n + 1) xs ]

-- a name has a place exactly where it stands in the list
pub is_somewhere : (name : List ℕ) (names : List (List ℕ)) → is_some (position_from (same_text name) 0 names) ≡ list_any (same_text name) names
is_somewhere name names = any_place (same_text name) 0 names
