-- The lines of a text: the first that holds a row and what stands behind it; no line has a newline.
use Rattle.std.proofs.Common.{◌≡◌, ◌≢◌, ℕ, ◌-◌, Bool, true, false, cond, eqb, List, [], ◌∷◌, length, take, drop, refl, sym, ap, subst, ◌∙◌, arith}
use Rattle.std.specs.List.{All, onto_first, slice_range}
use Rattle.std.specs.Str.{bytes_eq}
use Rattle.std.proofs.lemmas.Bool.{false≢true, eq-eqb, false_from_ne_true}
use Rattle.std.proofs.lemmas.List.{take_rest}
use Rattle.std.proofs.lemmas.List.Elements.{All-cons}
use Rattle.std.proofs.lemmas.Slice.Eq.{bytes_eq-Decides}
use Rattle.copy_text.specs.Marks.{newline, end_mark}
use Rattle.copy_text.specs.Lines.{lines, before_end_mark, data_lines, IsNextLine}
use Rattle.copy_text.specs.declared.line.Line.TheVariants.{Row}

abbrev pub NoNewline : List ℕ → Type 0
NoNewline line = All (λ b. b ≢ newline) line

-- each of the lines has no newline
abbrev pub NoNewlines : List (List ℕ) → Type 0
NoNewlines [] = Unit {0}
NoNewlines (line ∷ more) = NoNewline line × NoNewlines more

no_newline-nil : NoNewline []
no_newline-nil k d lt = absurd (omega arith)

onto_first-no_newline : (b : ℕ) (ls : List (List ℕ)) → b ≢ newline → NoNewlines ls → NoNewlines (onto_first b ls)
onto_first-no_newline b [] differs none = (All-cons (λ b. b ≢ newline) b [] differs no_newline-nil, tt)
onto_first-no_newline b (line ∷ more) differs none = (All-cons (λ b. b ≢ newline) b line differs none.0, none.1)

put_first-no_newline : (b : ℕ) (ends : Bool) (ls : List (List ℕ)) → (ends ≡ false → b ≢ newline) → NoNewlines ls → NoNewlines (cond ends ([] ∷ ls) (onto_first b ls))
put_first-no_newline b true ls differs none = (no_newline-nil, none)
put_first-no_newline b false ls differs none = onto_first-no_newline b ls (differs refl) none

lines-no_newline : (text : List ℕ) → NoNewlines (lines text)
unfolding lines
lines-no_newline [] = tt
lines-no_newline (b ∷ rest) =
    put_first-no_newline b (eqb b newline) (lines rest) (λ no same. false≢true (sym no ∙ eq-eqb b newline same)) (lines-no_newline rest)

pub first_line-no_newline : (text line : List ℕ) (more : List (List ℕ)) → lines text ≡ line ∷ more → NoNewline line
first_line-no_newline text line more is =
    let P : List (List ℕ) → Type 0 = NoNewlines in
    (subst P is (lines-no_newline text)).0

-- a line that isn't the end mark stands before it
before_end_mark-more : (line : List ℕ) (more : List (List ℕ)) → line ≢ end_mark → before_end_mark (line ∷ more) ≡ line ∷ before_end_mark more
before_end_mark-more line more differs =
    let no : bytes_eq line end_mark ≡ false = false_from_ne_true _ (λ is. differs ((bytes_eq-Decides line end_mark).0 is)) in
    rw no refl

pub data_lines-first : (text : List ℕ) (start end next : ℕ) → IsNextLine text 0 (Row start end next)
    → data_lines text ≡ slice_range text start end ∷ data_lines (take (length text - next) (drop next text))
data_lines-first text start end next is =
    let line : List ℕ = slice_range text start end in
    let all : take (length text - next) (drop next text) ≡ drop next text = take_rest text next in
    ap before_end_mark is.6
    ∙ before_end_mark-more line (lines (drop next text)) is.5
    ∙ ap (λ (rest : List ℕ). line ∷ data_lines rest) (sym all)

before_end_mark-no_newline : (ls : List (List ℕ)) → NoNewlines ls → NoNewlines (before_end_mark ls)
before_end_mark-no_newline [] none = tt
before_end_mark-no_newline (line ∷ more) none = by (before_end_mark-no_newline more none.1) (bytes_eq line end_mark)
  where
    by : NoNewlines (before_end_mark more) → (ends : Bool) → NoNewlines (cond ends [] (line ∷ before_end_mark more))
    by again true = tt
    by again false = (none.0, again)

pub data_lines-no_newline : (text : List ℕ) → NoNewlines (data_lines text)
data_lines-no_newline text = before_end_mark-no_newline (lines text) (lines-no_newline text)
