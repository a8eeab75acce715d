-- A part of a pattern is the whole name where what is left of it is, and of the places behind a `*` the first will do.
use Rattle.std.proofs.Common.{◌≡◌, ℕ, ◌+◌, ◌≤◌, Bool, true, false, ◌||◌, ◌&&◌, eqb, cond, List, [], ◌∷◌, Option, Some, None, length, sym, ap, ◌∙◌, subst, refl, ◌⊎◌, inl, inr, arith}
use Rattle.patterns.specs.declared.atom.Atom.{Atom}
use Rattle.patterns.specs.declared.atom.Atom.TheVariants.{Byte, One, Many}
use Rattle.patterns.specs.Matching.{goes_on, behind_character, some_end, matches}
use Rattle.patterns.specs.Left.{Rest, AtEnd, AtMany, left_of, is_found, or_later, found_in}

-- whether what is left is the whole name
abbrev pub says : Option Rest → Bool
says None = false
says (Some (AtEnd [])) = true
says (Some (AtEnd (b ∷ rest))) = false
says (Some (AtMany atoms name)) = some_end (matches atoms) name

-- how many atoms are left to look for
abbrev pub stars : Option Rest → ℕ
stars None = 0
stars (Some (AtEnd name)) = 0
stars (Some (AtMany atoms name)) = length atoms + 1

says_if : (same : Bool) (left : Option Rest) (m : Bool) → says left ≡ m → says (cond same left None) ≡ (same && m)
says_if true left m e = e
says_if false left m e = refl

pub left_says : (atoms : List Atom) (name : List ℕ) → says (left_of atoms name) ≡ matches atoms name
left_says [] [] = refl
left_says [] (b ∷ rest) = refl
left_says (Many ∷ atoms) name = refl
left_says (One ∷ atoms) [] = refl
left_says (One ∷ atoms) (b ∷ rest) = left_says atoms (behind_character rest)
left_says (Byte x ∷ atoms) [] = refl
left_says (Byte x ∷ atoms) (b ∷ rest) = says_if (eqb x b) (left_of atoms rest) (matches atoms rest) (left_says atoms rest)

-- the second list is an end of the first
abbrev IsEnd : List ℕ → List ℕ → Type 0
IsEnd [] t = t ≡ []
IsEnd (x ∷ s) t = (t ≡ x ∷ s) ⊎ IsEnd s t

IsEnd-refl : (s : List ℕ) → IsEnd s s
IsEnd-refl [] = refl
IsEnd-refl (x ∷ s) = inl refl

IsEnd-tail : (s : List ℕ) (y : ℕ) (t : List ℕ) → IsEnd s (y ∷ t) → IsEnd s t
IsEnd-tail [] y t e = cc
IsEnd-tail (x ∷ s) y t (inl e) = let same : t ≡ s = cc in inr (subst (IsEnd s) (sym same) (IsEnd-refl s))
IsEnd-tail (x ∷ s) y t (inr e) = inr (IsEnd-tail s y t e)

IsEnd-tails : (x : ℕ) (s : List ℕ) (y : ℕ) (t : List ℕ) → IsEnd (x ∷ s) (y ∷ t) → IsEnd s t
IsEnd-tails x s y t (inl e) = let same : t ≡ s = cc in subst (IsEnd s) (sym same) (IsEnd-refl s)
IsEnd-tails x s y t (inr e) = IsEnd-tail s y t e

behind-end : (s : List ℕ) → IsEnd s (behind_character s)
behind-end [] = refl
behind-end (x ∷ s) = elim (goes_on x) as (λ b. IsEnd (x ∷ s) (cond b (behind_character s) (x ∷ s))) [ true ↦ inr (behind-end s) | false ↦ inl refl ]

IsEnd-trans : (s t u : List ℕ) → IsEnd s t → IsEnd t u → IsEnd s u
IsEnd-trans [] t u e h = let f = subst (λ l. IsEnd l u) e h in f
IsEnd-trans (x ∷ s) t u (inl e) h = subst (λ l. IsEnd l u) e h
IsEnd-trans (x ∷ s) t u (inr e) h = inr (IsEnd-trans s t u e h)

behind-ends : (s t : List ℕ) → IsEnd s t → IsEnd (behind_character s) (behind_character t)
behind-ends [] t e = subst (λ l. IsEnd [] (behind_character l)) (sym e) refl
behind-ends (x ∷ s) t (inl e) = subst (λ l. IsEnd (behind_character (x ∷ s)) (behind_character l)) (sym e) (IsEnd-refl (behind_character (x ∷ s)))
behind-ends (x ∷ s) t (inr e) = elim (goes_on x) as (λ b. IsEnd (cond b (behind_character s) (x ∷ s)) (behind_character t)) [ true ↦ behind-ends s t e | false ↦ inr (IsEnd-trans s t (behind_character t) e (behind-end t)) ]

or_right : (a b : Bool) → b ≡ true → (a || b) ≡ true
or_right true b e = refl
or_right false b e = e

-- what holds of an end of an end holds of an end
some_end-end : (test : List ℕ → Bool) (s t : List ℕ) → IsEnd s t → some_end test t ≡ true → some_end test s ≡ true
some_end-end test [] t e h = subst (λ l. some_end test l ≡ true) e h
some_end-end test (x ∷ s) t (inl e) h = subst (λ l. some_end test l ≡ true) e h
some_end-end test (x ∷ s) t (inr e) h = or_right (test (x ∷ s)) (some_end test s) (some_end-end test s t e h)

and_right : (a b : Bool) → (a && b) ≡ true → b ≡ true
and_right true b e = e
and_right false b e = cc

either : (a b : Bool) (C : Type 0) → (a || b) ≡ true → (a ≡ true → C) → (b ≡ true → C) → C
either true b C e f g = f refl
either false b C e f g = g e

only_then : (same : Bool) (left : Option Rest) (r : Rest) → cond same left None ≡ Some r → left ≡ Some r
only_then true left r e = e
only_then false left r e = cc

says_alone : (l : Option Rest) → says (or_later l None) ≡ says l
says_alone None = refl
says_alone (Some (AtEnd [])) = refl
says_alone (Some (AtEnd (b ∷ rest))) = refl
says_alone (Some (AtMany atoms name)) = refl

-- Followed from a place up to a `*`, a part leaves the most: where a later place will do, the atoms behind the `*` stand somewhere in what is left.
later_will_do : (atoms later : List Atom) (s t rest : List ℕ) → IsEnd s t → left_of atoms s ≡ Some (AtMany later rest) → matches atoms t ≡ true → some_end (matches later) rest ≡ true
later_will_do [] later s t rest e l m = cc
later_will_do (Many ∷ atoms) later s t rest e l m =
    let a : atoms ≡ later = cc in
    let r : s ≡ rest = cc in
    subst (λ l. some_end (matches l) rest ≡ true) a (subst (λ l. some_end (matches atoms) l ≡ true) r (some_end-end (matches atoms) s t e m))
later_will_do (One ∷ atoms) later [] t rest e l m = cc
later_will_do (One ∷ atoms) later (x ∷ s) [] rest e l m = cc
later_will_do (One ∷ atoms) later (x ∷ s) (y ∷ t) rest e l m = later_will_do atoms later (behind_character s) (behind_character t) rest (behind-ends s t (IsEnd-tails x s y t e)) l m
later_will_do (Byte z ∷ atoms) later [] t rest e l m = cc
later_will_do (Byte z ∷ atoms) later (x ∷ s) [] rest e l m = cc
later_will_do (Byte z ∷ atoms) later (x ∷ s) (y ∷ t) rest e l m =
    later_will_do atoms later s t rest (IsEnd-tails x s y t e) (only_then (eqb z x) (left_of atoms s) (AtMany later rest) l) (and_right (eqb z y) (matches atoms t) m)

-- the same where the part is the whole of some end
some_later : (atoms later : List Atom) (s t rest : List ℕ) → IsEnd s t → left_of atoms s ≡ Some (AtMany later rest) → some_end (matches atoms) t ≡ true → some_end (matches later) rest ≡ true
some_later atoms later s [] rest e l m = later_will_do atoms later s [] rest e l m
some_later atoms later s (y ∷ t) rest e l m =
    either (matches atoms (y ∷ t)) (some_end (matches atoms) t) (some_end (matches later) rest ≡ true) m
    (λ h. later_will_do atoms later s (y ∷ t) rest e l h)
    (λ h. some_later atoms later s t rest (IsEnd-tail s y t e) l h)

absorbs : (x y : Bool) → (y ≡ true → x ≡ true) → x ≡ (x || y)
absorbs true y h = refl
absorbs false true h = h refl
absorbs false false h = refl

says_later : (l f : Option Rest) (m y : Bool) → says l ≡ m → says f ≡ y → ((later : List Atom) (rest : List ℕ) → l ≡ Some (AtMany later rest) → y ≡ true → some_end (matches later) rest ≡ true) → says (or_later l f) ≡ (m || y)
says_later None f m y e g h = subst (λ b. says f ≡ (b || y)) e g
says_later (Some (AtEnd [])) f m y e g h = subst (λ b. true ≡ (b || y)) e refl
says_later (Some (AtEnd (c ∷ r))) f m y e g h = subst (λ b. says f ≡ (b || y)) e g
says_later (Some (AtMany later rest)) f m y e g h = subst (λ b. some_end (matches later) rest ≡ (b || y)) e (absorbs (some_end (matches later) rest) y (h later rest refl))

pub found_says : (atoms : List Atom) (name : List ℕ) → says (found_in atoms name) ≡ some_end (matches atoms) name
found_says atoms [] = says_alone (left_of atoms []) ∙ left_says atoms []
found_says atoms (b ∷ rest) =
    says_later (left_of atoms (b ∷ rest)) (found_in atoms rest) (matches atoms (b ∷ rest)) (some_end (matches atoms) rest) (left_says atoms (b ∷ rest)) (found_says atoms rest)
    (λ later left l m. some_later atoms later (b ∷ rest) rest left (inr (IsEnd-refl rest)) l m)

stars_if : (same : Bool) (l : Option Rest) (n : ℕ) → stars l ≤ n → stars (cond same l None) ≤ n + 1
stars_if true l n h = omega arith
stars_if false l n h = omega arith

stars_left : (atoms : List Atom) (name : List ℕ) → stars (left_of atoms name) ≤ length atoms
stars_left [] name = omega arith
stars_left (Many ∷ atoms) name = omega arith
stars_left (One ∷ atoms) [] = omega arith
stars_left (One ∷ atoms) (b ∷ rest) = let h = stars_left atoms (behind_character rest) in omega arith
stars_left (Byte x ∷ atoms) [] = omega arith
stars_left (Byte x ∷ atoms) (b ∷ rest) = let h = stars_if (eqb x b) (left_of atoms rest) (length atoms) (stars_left atoms rest) in omega arith

stars_later : (l f : Option Rest) (n : ℕ) → stars l ≤ n → stars f ≤ n → stars (or_later l f) ≤ n
stars_later l f n h g = elim (is_found l) as (λ b. stars (cond b l f) ≤ n) [ true ↦ h | false ↦ g ]

-- fewer are left behind the next `*`
pub stars_found : (atoms : List Atom) (name : List ℕ) → stars (found_in atoms name) ≤ length atoms
stars_found atoms [] = stars_later (left_of atoms []) None (length atoms) (stars_left atoms []) (omega arith)
stars_found atoms (b ∷ rest) = stars_later (left_of atoms (b ∷ rest)) (found_in atoms rest) (length atoms) (stars_left atoms (b ∷ rest)) (stars_found atoms rest)

pub found_here : (atoms : List Atom) (name : List ℕ) → is_found (left_of atoms name) ≡ true → found_in atoms name ≡ left_of atoms name
found_here atoms [] h = ap (λ b. cond b (left_of atoms []) None) h
found_here atoms (b ∷ rest) h = ap (λ c. cond c (left_of atoms (b ∷ rest)) (found_in atoms rest)) h
