-- The entries up to a place, the last one first.
use Rattle.std.proofs.Common.{◌≡◌, ℕ, ◌+◌, ◌<◌, Bool, cond, true, false, List, [], ◌∷◌, ◌++◌, length, take, get_or, reverse, refl, ap, ◌∙◌, sym, map, arith}
use Rattle.std.proofs.lemmas.List.{take_more, reverse-append, append-nil}
use Rattle.std.proofs.lemmas.List.FromFn.{map-range_with_len_more}
use Rattle.std.specs.List.{range_with_len, filter}
use Rattle.toc_entry.specs.declared.entry.Entry.{Entry}
use Rattle.entry_choices.specs.declared.options.Options.{Options}
use Rattle.entry_choices.specs.Choices.{wanted, is_first_taken, is_taken_behind}

pub one_more : {X : Type 0} (xs : List X) (i : ℕ) (d : X) → i < length xs → reverse (take (i + 1) xs) ≡ get_or xs i d ∷ reverse (take i xs)
one_more xs i d h = ap reverse (take_more xs i d h) ∙ reverse-append (take i xs) (get_or xs i d ∷ [])

pub last_first : {X : Type 0} (xs : List X) (x : X) → reverse (xs ++ x ∷ []) ≡ x ∷ reverse xs
last_first xs x = reverse-append xs (x ∷ [])

pub wanted_is : (o : Options) (es : List Entry) (i : ℕ) (d : Entry) → i < length es → wanted o es i ≡ is_taken_behind o (reverse (take i es)) (get_or es i d)
unfolding wanted
wanted_is o es i d h = ap (is_first_taken o) (one_more es i d h)

-- ---- numbers one more

filter_behind : (p : ℕ → Bool) (xs : List ℕ) (x : ℕ) → filter p (xs ++ x ∷ []) ≡ filter p xs ++ cond (p x) (x ∷ []) []
filter_behind p [] x = elim (p x) as (λ b. cond b (x ∷ []) [] ≡ cond b (x ∷ []) []) [ true ↦ refl | false ↦ refl ]
filter_behind p (y ∷ ys) x =
    elim (p y) as (λ b. cond b (y ∷ filter p (ys ++ x ∷ [])) (filter p (ys ++ x ∷ [])) ≡ cond b (y ∷ filter p ys) (filter p ys) ++ cond (p x) (x ∷ []) [])
    [ true ↦ ap (λ (zs : List ℕ). y ∷ zs) (filter_behind p ys x) | false ↦ filter_behind p ys x ]

map_same : (xs : List ℕ) → map (λ (x : ℕ). x) xs ≡ xs
map_same [] = refl
map_same (x ∷ xs) = ap (λ (zs : List ℕ). x ∷ zs) (map_same xs)

numbers_more : (n : ℕ) → range_with_len 0 (n + 1) ≡ range_with_len 0 n ++ n ∷ []
numbers_more n =
    let e : 0 + n ≡ n = omega arith in
    sym (map_same (range_with_len 0 (n + 1)))
    ∙ map-range_with_len_more (λ (x : ℕ). x) 0 n n e
    ∙ ap (λ (zs : List ℕ). zs ++ n ∷ []) (map_same (range_with_len 0 n))

pub filter_more : (p : ℕ → Bool) (n : ℕ) → filter p (range_with_len 0 (n + 1)) ≡ filter p (range_with_len 0 n) ++ cond (p n) (n ∷ []) []
filter_more p n = ap (filter p) (numbers_more n) ∙ filter_behind p (range_with_len 0 n) n

pub map_more : (p : ℕ → Bool) (n : ℕ) → map p (range_with_len 0 (n + 1)) ≡ map p (range_with_len 0 n) ++ p n ∷ []
map_more p n = let e : 0 + n ≡ n = omega arith in map-range_with_len_more p 0 n n e

-- ---- a step of a loop over entries

pub next_behind : (es : List Entry) (i : ℕ) (e : Entry) → i < length es → e ≡ get_or es i e → reverse (take (i + 1) es) ≡ e ∷ reverse (take i es)
next_behind es i e below is = one_more es i e below ∙ ap (λ (x : Entry). x ∷ reverse (take i es)) (sym is)

pub wanted_here : (o : Options) (es : List Entry) (i : ℕ) (e : Entry) (taken : Bool) → i < length es → e ≡ get_or es i e → taken ≡ is_taken_behind o (reverse (take i es)) e → taken ≡ wanted o es i
wanted_here o es i e taken below is told =
    told ∙ sym (wanted_is o es i e below ∙ ap (λ (x : Entry). is_taken_behind o (reverse (take i es)) x) (sym is))

pub marks_next : (p : ℕ → Bool) (n : ℕ) (old new : List Bool) (b : Bool) → b ≡ p n → old ≡ map p (range_with_len 0 n) → new ≡ old ++ b ∷ [] → new ≡ map p (range_with_len 0 (n + 1))
marks_next p n old new b is olds news =
    news ∙ ap (λ (xs : List Bool). xs ++ b ∷ []) olds ∙ ap (λ (x : Bool). map p (range_with_len 0 n) ++ x ∷ []) is ∙ sym (map_more p n)

pub places_next_yes : (p : ℕ → Bool) (n : ℕ) (old new : List ℕ) (b : Bool) → b ≡ p n → b ≡ true → old ≡ filter p (range_with_len 0 n) → new ≡ old ++ n ∷ [] → new ≡ filter p (range_with_len 0 (n + 1))
places_next_yes p n old new b is here olds news =
    news ∙ ap (λ (xs : List ℕ). xs ++ n ∷ []) olds
    ∙ ap (λ (x : Bool). filter p (range_with_len 0 n) ++ cond x (n ∷ []) []) (sym here ∙ is) ∙ sym (filter_more p n)

pub places_next_no : (p : ℕ → Bool) (n : ℕ) (old : List ℕ) (b : Bool) → b ≡ p n → b ≡ false → old ≡ filter p (range_with_len 0 n) → old ≡ filter p (range_with_len 0 (n + 1))
places_next_no p n old b is absent olds =
    olds ∙ sym (append-nil (filter p (range_with_len 0 n)))
    ∙ ap (λ (x : Bool). filter p (range_with_len 0 n) ++ cond x (n ∷ []) []) (sym absent ∙ is) ∙ sym (filter_more p n)
