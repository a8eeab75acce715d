-- Digits one more.
use Rattle.std.proofs.Common.{◌≡◌, ℕ, ◌+◌, ◌-◌, ◌*◌, ◌<◌, min, List, [], ◌∷◌, ◌++◌, length, take, get_or, refl, ap, ◌∙◌, arith}
use Rattle.std.proofs.lemmas.List.{take_more}
use Rattle.list_files.specs.Lines.{value_onto, value}

value_behind : (n : ℕ) (xs : List ℕ) (x : ℕ) → value_onto n (xs ++ x ∷ []) ≡ value_onto n xs * 10 + (x - 48)
value_behind n [] x = refl
value_behind n (y ∷ ys) x = value_behind (n * 10 + (y - 48)) ys x

-- the number so far, where one past 32 bits counts as the first such
pub value_next : (digits : List ℕ) (i v w : ℕ) → i < length digits → v ≡ min (value (take i digits)) 4294967296 → w ≡ min (v * 10 + (get_or digits i 0 - 48)) 4294967296 →
    w ≡ min (value (take (i + 1) digits)) 4294967296
value_next digits i v w below so next =
    let more : value (take (i + 1) digits) ≡ value (take i digits) * 10 + (get_or digits i 0 - 48) =
    ap value (take_more digits i 0 below) ∙ value_behind 0 (take i digits) (get_or digits i 0) in
    omega (arith, more)
