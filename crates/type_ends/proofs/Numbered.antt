-- Rows with their places, one by one.
use Rattle.std.proofs.Common.{◌≡◌, ℕ, zero, suc, ◌+◌, ◌<◌, List, [], ◌∷◌, ◌++◌, length, map, take, Some, get_or, refl, sym, ap, ◌∙◌, arith, zero-add, option_map}
use Rattle.std.specs.List.{enumerate_from, slice_get}
use Rattle.std.proofs.lemmas.List.{take_more, map-append, length-take-le}

numbered-append : {X : Type 0} (n : ℕ) (xs ys : List X) → enumerate_from n (xs ++ ys) ≡ enumerate_from n xs ++ enumerate_from (n + length xs) ys
numbered-append n [] ys = let none : n ≡ n + 0 = omega arith in ap (λ k. enumerate_from k ys) none
numbered-append {X} n (x ∷ xs) ys =
    let plus : n + 1 + length xs ≡ n + suc (length xs) = omega arith in
    ap (λ (rest : List (ℕ × X)). (n, x) ∷ rest) (numbered-append (n + 1) xs ys ∙ ap (λ k. enumerate_from (n + 1) xs ++ enumerate_from k ys) plus)

-- what rows up to a place give with their places, and what the row there gives
pub numbered_more : {X Y : Type 0} (f : ℕ → X → Y) (rows : List X) (i : ℕ) (row : X) → i < length rows → row ≡ get_or rows i row
    → map (λ (e : ℕ × X). f e.0 e.1) (enumerate_from 0 (take (i + 1) rows)) ≡ map (λ (e : ℕ × X). f e.0 e.1) (enumerate_from 0 (take i rows)) ++ f i row ∷ []
numbered_more {X} {Y} f rows i row h is =
    let g : ℕ × X → Y = λ e. f e.0 e.1 in
    let front = take i rows in
    ap (λ rs. map g (enumerate_from 0 rs)) (take_more rows i row h ∙ ap (λ r. front ++ r ∷ []) (sym is))
    ∙ ap (map g) (numbered-append 0 front (row ∷ []))
    ∙ map-append g (enumerate_from 0 front) (enumerate_from (0 + length front) (row ∷ []))
    ∙ ap (λ k. map g (enumerate_from 0 front) ++ f k row ∷ []) (zero-add (length front) ∙ length-take-le i rows (omega (arith, h)))

-- rows with their places, each at its own
pub numbered_get : {X : Type 0} (xs : List X) (n k : ℕ) → slice_get (enumerate_from n xs) k ≡ option_map (λ (x : X). (n + k, x)) (slice_get xs k)
numbered_get [] n k = refl
numbered_get (x ∷ xs) n zero = let here : n ≡ n + 0 = omega arith in ap (λ m. Some (m, x)) here
numbered_get {X} (x ∷ xs) n (suc k) = let next : n + 1 + k ≡ n + suc k = omega arith in numbered_get xs (n + 1) k ∙ ap (λ m. option_map (λ (x : X). (m, x)) (slice_get xs k)) next
