-- A whole line in front of a text, and a last line without a newline.
use Rattle.std.proofs.Common.{◌≡◌, ◌≢◌, ℕ, ◌<◌, true, false, List, [], ◌∷◌, ◌++◌, length, map, refl, ap, ◌∙◌, arith}
use Rattle.std.specs.List.{All, AllByRecursion, onto_first}
use Rattle.std.specs.Str.{bytes_eq}
use Rattle.std.proofs.lemmas.Bool.{cond-true, cond-false, ne_eqb}
use Rattle.std.proofs.lemmas.List.Elements.{recursion_from_All}
use Rattle.copy_text.specs.Marks.{newline, end_mark}
use Rattle.copy_text.specs.Reading.{row_of}
use Rattle.copy_text.specs.Lines.{lines, before_end_mark}
use Rattle.data_rows.specs.Rows.{read_lines}

abbrev pub NoNewline : List ℕ → Type 0
NoNewline line = All (λ b. b ≢ newline) line

front_by : (line behind : List ℕ) → AllByRecursion (λ b. b ≢ newline) line → lines (line ++ newline ∷ behind) ≡ line ∷ lines behind
unfolding lines
front_by [] behind none = refl
front_by (b ∷ line) behind none = cond-false _ _ _ (ne_eqb b newline none.0) ∙ ap (onto_first b) (front_by line behind none.1)

last_by : (line : List ℕ) → 0 < length line → AllByRecursion (λ b. b ≢ newline) line → lines line ≡ line ∷ []
unfolding lines
last_by [] some none = absurd (omega arith)
last_by (b ∷ []) some none = cond-false _ _ _ (ne_eqb b newline none.0)
last_by (b ∷ c ∷ line) some none = cond-false _ _ _ (ne_eqb b newline none.0) ∙ ap (onto_first b) (last_by (c ∷ line) (omega arith) none.1)

read_none : (line : List ℕ) (more : List (List ℕ)) → bytes_eq line end_mark ≡ true → map row_of (before_end_mark (line ∷ more)) ≡ []
read_none line more is = ap (map row_of) (cond-true _ _ _ is)

read_one : (line : List ℕ) (more : List (List ℕ)) → bytes_eq line end_mark ≡ false → map row_of (before_end_mark (line ∷ more)) ≡ row_of line ∷ map row_of (before_end_mark more)
read_one line more isnt = ap (map row_of) (cond-false _ _ _ isnt)

-- a whole line that holds a row
pub read_front : (line behind : List ℕ) → NoNewline line → bytes_eq line end_mark ≡ false → read_lines (line ++ newline ∷ behind) ≡ row_of line ∷ read_lines behind
read_front line behind none isnt =
    ap (λ (ls : List (List ℕ)). map row_of (before_end_mark ls)) (front_by line behind (recursion_from_All (λ b. b ≢ newline) line none)) ∙ read_one line (lines behind) isnt

-- the end mark as a whole line
pub read_stop : (line behind : List ℕ) → NoNewline line → bytes_eq line end_mark ≡ true → read_lines (line ++ newline ∷ behind) ≡ []
read_stop line behind none is =
    ap (λ (ls : List (List ℕ)). map row_of (before_end_mark ls)) (front_by line behind (recursion_from_All (λ b. b ≢ newline) line none)) ∙ read_none line (lines behind) is

-- a last line that holds a row
pub read_last : (line : List ℕ) → 0 < length line → NoNewline line → bytes_eq line end_mark ≡ false → read_lines line ≡ row_of line ∷ []
read_last line some none isnt =
    ap (λ (ls : List (List ℕ)). map row_of (before_end_mark ls)) (last_by line some (recursion_from_All (λ b. b ≢ newline) line none)) ∙ read_one line [] isnt

-- the end mark as the last line
pub read_last_stop : (line : List ℕ) → 0 < length line → NoNewline line → bytes_eq line end_mark ≡ true → read_lines line ≡ []
read_last_stop line some none is =
    ap (λ (ls : List (List ℕ)). map row_of (before_end_mark ls)) (last_by line some (recursion_from_All (λ b. b ≢ newline) line none)) ∙ read_none line [] is

no_lines : lines [] ≡ []
unfolding lines
no_lines = refl

-- no line is left
pub read_empty : (line : List ℕ) → line ≡ [] → read_lines line ≡ []
read_empty line is = ap read_lines is ∙ ap (λ (ls : List (List ℕ)). map row_of (before_end_mark ls)) no_lines
