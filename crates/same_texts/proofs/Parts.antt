-- A file that has the bytes of a text, piece by piece.
use Rattle.std.proofs.Common.{◌≡◌, ℕ, ◌+◌, ◌≤◌, List, [], ◌++◌, length, take, drop, Option, Some, None, option_map, unwrap_or, sym, ap, ◌∙◌, arith, take-add}
use Rattle.std.proofs.lemmas.List.{take_all}
use Rattle.dump_ports.specs.Tree.{FillsFront}

-- one piece more
pub one_more : (whole text buffer left : List ℕ) (done n : ℕ) → take done whole ≡ take done text → FillsFront (drop done whole) buffer n → left ≡ drop done text → take n buffer ≡ take n left → take (done + n) whole ≡ take (done + n) text
one_more whole text buffer left done n so_far fills is same =
    take-add done n whole
    ∙ ap (λ (xs : List ℕ). xs ++ take n (drop done whole)) so_far
    ∙ ap (λ (xs : List ℕ). take done text ++ xs) (sym fills.front ∙ same ∙ ap (take n) is)
    ∙ sym (take-add done n text)

-- all of a text was found
pub all_found : (whole text : List ℕ) (done : ℕ) → length text ≤ done → done ≤ length text → take done whole ≡ take done text → take (length text) whole ≡ text
all_found whole text done le ge so_far =
    let is : length text ≡ done = omega arith in
    ap (λ (n : ℕ). take n whole) is ∙ so_far ∙ take_all done text le

-- a file that is as long as a text, and begins with it, has this text
pub whole_text : (found : Option (List ℕ)) (text : List ℕ) → option_map (λ t. length t) found ≡ Some (length text) → take (length text) (unwrap_or found []) ≡ text → found ≡ Some text
whole_text None text long same = absurd cc
whole_text (Some whole) text long same =
    let as_long : length whole ≡ length text = cc in
    ap (λ (xs : List ℕ). Some xs) (sym (take_all (length text) whole (omega arith)) ∙ same)
