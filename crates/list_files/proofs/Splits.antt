-- Where a text is cut into lines.
use Rattle.std.proofs.Common.{◌≡◌, ℕ, ◌+◌, ◌-◌, ◌<◌, Bool, cond, not, true, false, List, [], ◌∷◌, length, take, drop, Some, None, refl, ap, ◌∙◌, sym, arith, length-drop}
use Rattle.std.specs.List.{slice_split, position_or_len, onto_first}
use Rattle.std.proofs.lemmas.List.Splits.{slice_split_first}
use Rattle.std.proofs.Math.Seq.{take-length}
use Rattle.list_files.specs.Lines.{lines, lines_behind, is_newline}

-- ---- lines

pub cut_at : (text first rest : List ℕ) (end : ℕ) → position_or_len is_newline text ≡ end → end < length text → first ≡ take end text → rest ≡ drop (end + 1) text →
    lines text ≡ first ∷ lines_behind (Some rest)
cut_at text first rest end at below is behind =
    let within : position_or_len is_newline text < length text = omega (arith, at) in
    slice_split_first is_newline text 0 within
    ∙ (λ i. take (at i) text ∷ slice_split is_newline (drop (at i + 1) text))
    ∙ (λ i. sym is i ∷ slice_split is_newline (sym behind i))

one_by : (p : ℕ → Bool) (b : ℕ) (rest : List ℕ) (q : Bool) → p b ≡ q → position_or_len p (b ∷ rest) ≡ length (b ∷ rest) → (position_or_len p rest ≡ length rest → slice_split p rest ≡ rest ∷ []) →
    cond (p b) ([] ∷ slice_split p rest) (onto_first b (slice_split p rest)) ≡ (b ∷ rest) ∷ []
one_by p b rest true e none others =
    let h : 0 ≡ length (b ∷ rest) = ap (λ (x : Bool). cond (not x) (1 + position_or_len p rest) 0) (sym e) ∙ none in
    absurd (omega (arith, h))
one_by p b rest false e none others =
    let h : 1 + position_or_len p rest ≡ length (b ∷ rest) = ap (λ (x : Bool). cond (not x) (1 + position_or_len p rest) 0) (sym e) ∙ none in
    let shorter : position_or_len p rest ≡ length rest = omega (arith, h) in
    rw e (ap (onto_first b) (others shorter))

one_line : (p : ℕ → Bool) (text : List ℕ) → position_or_len p text ≡ length text → slice_split p text ≡ text ∷ []
one_line p [] none = refl
one_line p (b ∷ rest) none = one_by p b rest (p b) refl none (λ h. one_line p rest h)

-- as code cuts it
pub cut_behind : (text : List ℕ) (end : ℕ) → end ≡ position_or_len is_newline text → end < length text →
    lines text ≡ take end text ∷ lines (take (length text - (end + 1)) (drop (end + 1) text))
cut_behind text end at below =
    let whole : take (length text - (end + 1)) (drop (end + 1) text) ≡ drop (end + 1) text =
    ap (λ (n : ℕ). take n (drop (end + 1) text)) (sym (length-drop (end + 1) text)) ∙ take-length (drop (end + 1) text) in
    cut_at text (take end text) (drop (end + 1) text) end (sym at) below refl refl
    ∙ ap (λ (rest : List ℕ). take end text ∷ lines rest) (sym whole)

pub uncut : (text : List ℕ) → position_or_len is_newline text ≡ length text → lines text ≡ text ∷ lines_behind None
uncut text none = one_line is_newline text none
