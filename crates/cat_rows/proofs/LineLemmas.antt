-- The lines of a text: none has a newline, and the text that ends each line with one has just these lines.
use Rattle.std.proofs.Common.{◌≡◌, ◌≢◌, ℕ, Bool, true, false, cond, eqb, List, [], ◌∷◌, ◌++◌, drop, refl, sym, ap, subst, ◌∙◌, arith}
use Rattle.std.specs.List.{All, onto_first}
use Rattle.std.specs.Str.{bytes_eq}
use Rattle.std.proofs.lemmas.Bool.{false≢true, eqb-true, eq-eqb, false_from_ne_true}
use Rattle.std.proofs.lemmas.List.Elements.{All-cons, All-head, All-tail}
use Rattle.std.proofs.lemmas.Slice.Eq.{bytes_eq-Decides}
use Rattle.copy_text.specs.Marks.{newline, end_mark}
use Rattle.copy_text.specs.Lines.{lines, before_end_mark, IsNextLine}
use Rattle.copy_text.specs.declared.line.Line.{Line}
use Rattle.copy_text.specs.declared.line.Line.TheVariants.{Row, Stop, End}

abbrev pub NoNewline : List ℕ → Type 0
NoNewline line = All (λ b. b ≢ newline) line

-- each of the lines has no newline
abbrev pub NoNewlines : List (List ℕ) → Type 0
NoNewlines [] = Unit {0}
NoNewlines (line ∷ more) = NoNewline line × NoNewlines more

no_newline-nil : NoNewline []
no_newline-nil k d lt = absurd (omega arith)

onto_first-no_newline : (b : ℕ) (ls : List (List ℕ)) → b ≢ newline → NoNewlines ls → NoNewlines (onto_first b ls)
onto_first-no_newline b [] differs none = (All-cons (λ b. b ≢ newline) b [] differs no_newline-nil, tt)
onto_first-no_newline b (line ∷ more) differs none = (All-cons (λ b. b ≢ newline) b line differs none.0, none.1)

abbrev put_first : ℕ → Bool → List (List ℕ) → List (List ℕ)
put_first b ends ls = cond ends ([] ∷ ls) (onto_first b ls)

put_first-no_newline : (b : ℕ) (ends : Bool) (ls : List (List ℕ)) → (ends ≡ false → b ≢ newline) → NoNewlines ls → NoNewlines (put_first b ends ls)
put_first-no_newline b true ls differs none = (no_newline-nil, none)
put_first-no_newline b false ls differs none = onto_first-no_newline b ls (differs refl) none

pub lines-no_newline : (text : List ℕ) → NoNewlines (lines text)
unfolding lines
lines-no_newline [] = tt
lines-no_newline (b ∷ rest) =
    put_first-no_newline b (eqb b newline) (lines rest) (λ no same. false≢true (sym no ∙ eq-eqb b newline same)) (lines-no_newline rest)

-- the first of the lines from a place on
pub first_line-no_newline : (text : List ℕ) (line : List ℕ) (more : List (List ℕ)) → lines text ≡ line ∷ more → NoNewline line
first_line-no_newline text line more is =
    let P : List (List ℕ) → Type 0 = NoNewlines in
    (subst P is (lines-no_newline text)).0

-- a line that isn't the end mark stands before it
pub before_end_mark-more : (line : List ℕ) (more : List (List ℕ)) → line ≢ end_mark → before_end_mark (line ∷ more) ≡ line ∷ before_end_mark more
before_end_mark-more line more differs =
    let no : bytes_eq line end_mark ≡ false = false_from_ne_true _ (λ is. differs ((bytes_eq-Decides line end_mark).0 is)) in
    rw no refl

-- no rows stand where the next line is the end mark or the end
pub no_more_rows : (text : List ℕ) (at : ℕ) (line : Line) → IsNextLine text at line → ((start end next : ℕ) → line ≡ Row start end next → ⊥) → before_end_mark (lines (drop at text)) ≡ []
no_more_rows text at (Row start end next) is never = absurd (never start end next refl)
no_more_rows text at Stop is never = ap before_end_mark is.1
no_more_rows text at End is never = ap before_end_mark is.1

pub lines-append : (line rest : List ℕ) → NoNewline line → lines (line ++ newline ∷ rest) ≡ line ∷ lines rest
unfolding lines
lines-append [] rest none = refl
lines-append (b ∷ line) rest none =
    let differs : b ≢ newline = All-head (λ b. b ≢ newline) b line none in
    let no : eqb b newline ≡ false = false_from_ne_true _ (λ is. differs (eqb-true b newline is)) in
    rw (no, lines-append line rest (All-tail (λ b. b ≢ newline) b line none)) refl
