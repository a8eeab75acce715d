-- Objects with their places, one after another.
use Rattle.std.proofs.Common.{◌≡◌, ℕ, suc, ◌+◌, ◌<◌, ◌≤◌, List, [], ◌∷◌, ◌++◌, length, map, take, Option, Some, None, refl, sym, ap, append_assoc, ◌∙◌, arith}
use Rattle.std.proofs.Math.ListN.{get_or}
use Rattle.std.proofs.lemmas.List.{length-take-le, take_more, take_all, map-append, append-nil}
use Rattle.std.proofs.lemmas.Grind.{flat_map-append}
use Rattle.std.proofs.lemmas.List.Elements.{filter_map-append}
use Rattle.std.specs.List.{enumerate_from, filter_map, flat_map}
use Rattle.std.specs.Option.{option_to_list}

enumerate_push : {X : Type 0} (n : ℕ) (xs : List X) (x : X) → enumerate_from n (xs ++ x ∷ []) ≡ enumerate_from n xs ++ (n + length xs, x) ∷ []
enumerate_push {X} n [] x = let at : n ≡ n + 0 = omega arith in ap (λ (k : ℕ). (k, x) ∷ []) at
enumerate_push {X} n (y ∷ xs) x =
    let at : n + 1 + length xs ≡ n + suc (length xs) = omega arith in
    ap (λ (l : List (ℕ × X)). (n, y) ∷ l) (enumerate_push (n + 1) xs x ∙ ap (λ (k : ℕ). enumerate_from (n + 1) xs ++ (k, x) ∷ []) at)

-- up to a place, and the object there
pub placed_more : {X : Type 0} (xs : List X) (k : ℕ) (x d : X) → k < length xs → x ≡ get_or xs k d → enumerate_from 0 (take (k + 1) xs) ≡ enumerate_from 0 (take k xs) ++ (k, x) ∷ []
placed_more {X} xs k x d low is =
    let long : length (take k xs) ≡ k = length-take-le k xs (omega arith) in
    let at : 0 + length (take k xs) ≡ k = omega arith in
    ap (enumerate_from 0) (take_more xs k d low)
    ∙ enumerate_push 0 (take k xs) (get_or xs k d)
    ∙ ap (λ (n : ℕ). enumerate_from 0 (take k xs) ++ (n, get_or xs k d) ∷ []) at
    ∙ ap (λ (o : X). enumerate_from 0 (take k xs) ++ (k, o) ∷ []) (sym is)

pub lists_placed : {X D : Type 0} (f : ℕ × X → List D) (before after more : List D) (xs : List X) (k : ℕ) (x d : X) → before ≡ flat_map f (enumerate_from 0 (take k xs)) → after ≡ before ++ more → more ≡ f (k, x) → k < length xs → x ≡ get_or xs k d → after ≡ flat_map f (enumerate_from 0 (take (k + 1) xs))
lists_placed f before after more xs k x d so added given low is =
    added
    ∙ ap (λ b. b ++ more) so
    ∙ ap (λ m. flat_map f (enumerate_from 0 (take k xs)) ++ m) (given ∙ sym (append-nil (f (k, x))))
    ∙ sym (flat_map-append f (enumerate_from 0 (take k xs)) ((k, x) ∷ []))
    ∙ ap (flat_map f) (sym (placed_more xs k x d low is))

pub each_placed : {X D : Type 0} (f : ℕ × X → D) (before after : List D) (one : D) (xs : List X) (k : ℕ) (x d : X) → before ≡ map f (enumerate_from 0 (take k xs)) → after ≡ before ++ one ∷ [] → one ≡ f (k, x) → k < length xs → x ≡ get_or xs k d → after ≡ map f (enumerate_from 0 (take (k + 1) xs))
each_placed f before after one xs k x d so added given low is =
    added
    ∙ ap (λ b. b ++ one ∷ []) so
    ∙ ap (λ y. map f (enumerate_from 0 (take k xs)) ++ y ∷ []) given
    ∙ sym (map-append f (enumerate_from 0 (take k xs)) ((k, x) ∷ []))
    ∙ ap (map f) (sym (placed_more xs k x d low is))

pub all_placed : {X D : Type 0} (f : List (ℕ × X) → List D) (all : List D) (xs : List X) (k : ℕ) → all ≡ f (enumerate_from 0 (take k xs)) → length xs ≤ k → all ≡ f (enumerate_from 0 xs)
all_placed f all xs k so h = so ∙ ap (λ ys. f (enumerate_from 0 ys)) (take_all k xs h)

one_given : {A B : Type 0} (f : A → Option B) (a : A) (o : Option B) → o ≡ f a → option_to_list o ≡ filter_map f (a ∷ [])
one_given {A} {B} f a o e = ap option_to_list e ∙ by (f a) refl
  where
    by : (p : Option B) → f a ≡ p → option_to_list p ≡ filter_map f (a ∷ [])
    by None is = rw is refl
    by (Some b) is = rw is refl

pub some_placed : {X D : Type 0} (f : ℕ × X → Option D) (es before after : List D) (xs : List X) (k : ℕ) (x d : X) → before ≡ es ++ filter_map f (enumerate_from 0 (take k xs)) → after ≡ before ++ option_to_list (f (k, x)) → k < length xs → x ≡ get_or xs k d → after ≡ es ++ filter_map f (enumerate_from 0 (take (k + 1) xs))
some_placed f es before after xs k x d so added low is =
    added
    ∙ ap (λ b. b ++ option_to_list (f (k, x))) so
    ∙ append_assoc es (filter_map f (enumerate_from 0 (take k xs))) (option_to_list (f (k, x)))
    ∙ ap (λ more. es ++ more)
    (ap (λ m. filter_map f (enumerate_from 0 (take k xs)) ++ m) (one_given f (k, x) (f (k, x)) refl)
    ∙ sym (filter_map-append f (enumerate_from 0 (take k xs)) ((k, x) ∷ []))
    ∙ ap (filter_map f) (sym (placed_more xs k x d low is)))
