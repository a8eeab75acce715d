-- The rows of a text, line by line.
use Rattle.ddl_scripts.proofs.Common.{◌≡◌, ◌≢◌, ℕ, suc, ◌+◌, ◌-◌, ◌<◌, ◌≤◌, min, Bool, cond, eqb, List, [], ◌∷◌, ◌++◌, length, take, drop, Result, refl, sym, ap, ◌∙◌, arith, inl, inr, append_assoc, append-nil, length-append, slice_range, IfOk, cases_Bool, cond-false, take_rest, length-drop, length-take, drop_all, bytes_eq-Decides, newline, end_mark, before_end_mark, line_at, IsNextLine, len_of, lines_nil, seam, seen, with_feeds, rows_in, copied, rows_from}
use Rattle.std.proofs.{Math.Nat.min-eq_right, lemmas.Bool.eqb-true}
use Rattle.std.specs.Str.{bytes_eq}
use Rattle.copy_text.specs.{declared.line.Line.TheVariants.Row, declared.line.Line.TheVariants.Stop, declared.line.Line.TheVariants.End, declared.line.Line.Line}
use Rattle.ddl_scripts.specs.declared.copy_rows.Rows.{Rows}

-- ---- the line at a place

-- a line feed stands behind a line, or the end of the text
feed_behind : (rest : List ℕ) → len_of rest < length rest → take (len_of rest + 1) rest ≡ take (len_of rest) rest ++ newline ∷ []
feed_behind [] lt = absurd (omega arith)
feed_behind (b ∷ rest) lt = elim (cases_Bool (eqb b newline)) [
  | inl is ↦ let z : len_of (b ∷ rest) ≡ 0 = rw is refl in let same : b ≡ newline = eqb-true b newline is in rw (z, same) refl
  | inr isnt ↦
      let z : len_of (b ∷ rest) ≡ suc (len_of rest) = rw isnt (omega arith) in
      let more = feed_behind rest (omega (arith, z)) in
      let next : suc (len_of rest) + 1 ≡ suc (len_of rest + 1) = omega arith in
      rw (z, next) (ap (λ (x : List ℕ). b ∷ x) more)
]

-- ---- rows

kept_line : (line : List ℕ) (more : List (List ℕ)) → line ≢ end_mark → before_end_mark (line ∷ more) ≡ line ∷ before_end_mark more
kept_line line more differs = elim (cases_Bool (bytes_eq line end_mark)) [
  | inl is ↦ absurd (differs ((bytes_eq-Decides line end_mark).0 is))
  | inr isnt ↦ cond-false _ _ _ isnt
]

first_row : (text : List ℕ) (at start end next : ℕ) → IsNextLine text at (Row start end next) → rows_in (drop at text) ≡ (slice_range text at end ++ newline ∷ []) ++ rows_in (drop next text)
unfolding rows_in
first_row text at start end next h = grind (arith, kept_line)

fed : (text : List ℕ) (at end next : ℕ) → at ≤ length text → end ≡ at + len_of (drop at text) → next ≡ end + 1 → end < length text → slice_range text at end ++ newline ∷ [] ≡ slice_range text at next
fed text at end next le e n lt = let rest = drop at text in ap (λ k. take k rest ++ newline ∷ []) (omega arith) ∙ sym (feed_behind rest (omega (arith, (length-drop at text)))) ∙ ap (λ k. take k rest) (sym (omega arith))

-- the rows from one place on, up to another, and those behind it
pub goes_on : (text : List ℕ) (from at start end next : ℕ) → from ≤ at → at ≤ length text → IsNextLine text at (Row start end next) → Row start end next ≡ line_at text at → end ≢ length text
    → rows_in (drop from text) ≡ slice_range text from at ++ rows_in (drop at text) → rows_in (drop from text) ≡ slice_range text from next ++ rows_in (drop next text)
unfolding line_at
goes_on text from at start end next low le h exact differs so_far =
    let row_by : (ends stops : Bool) (start end next a b c : ℕ) → Row start end next ≡ cond ends End (cond stops Stop (Row a b c)) → (end ≡ b) × (next ≡ c) = λ ends stops start end next a b c e. grind arith in
    let shape = (row_by (eqb at (length text)) (bytes_eq (take (len_of (drop at text)) (drop at text)) end_mark) start end next at (at + len_of (drop at text)) (min (at + len_of (drop at text) + 1) (length text)) exact) in
    let lt : end < length text = omega (arith, h.2, h.4, differs) in
    so_far ∙ ap (λ (x : List ℕ). slice_range text from at ++ x) (first_row text at start end next h ∙ ap (λ (x : List ℕ). x ++ rows_in (drop next text)) (fed text at end next le shape.0 (omega (arith, shape, lt)) lt))
    ∙ sym (append_assoc (slice_range text from at) (slice_range text at next) (rows_in (drop next text))) ∙ ap (λ (x : List ℕ). x ++ rows_in (drop next text)) (seam text from at next low (omega (arith, h.3)))

pub last_row : (text : List ℕ) (from at start end next : ℕ) → from ≤ at → at ≤ length text → IsNextLine text at (Row start end next) → Row start end next ≡ line_at text at → end ≡ length text
    → rows_in (drop from text) ≡ slice_range text from at ++ rows_in (drop at text) → rows_in (drop from text) ≡ drop from text ++ newline ∷ []
unfolding rows_in
last_row text from at start end next low le h exact same so_far =
    let nothing : rows_in [] ≡ [] = ap (λ ls. with_feeds (before_end_mark ls)) lines_nil in
    let none : drop next text ≡ [] = drop_all next text (omega (arith, h.2, same)) in
    let whole : slice_range text from at ++ slice_range text at end ≡ drop from text = seam text from at end low (omega (arith, h.1, h.0)) ∙ ap (λ n. slice_range text from n) same ∙ take_rest text from in
    so_far ∙ ap (λ (x : List ℕ). slice_range text from at ++ x) (first_row text at start end next h ∙ ap (λ (x : List ℕ). (slice_range text at end ++ newline ∷ []) ++ rows_in x) none ∙ ap (λ (x : List ℕ). (slice_range text at end ++ newline ∷ []) ++ x) nothing ∙ append-nil (slice_range text at end ++ newline ∷ []))
    ∙ sym (append_assoc (slice_range text from at) (slice_range text at end) (newline ∷ [])) ∙ ap (λ (x : List ℕ). x ++ newline ∷ []) whole

pub stops : (text : List ℕ) (at : ℕ) (line : Line) → IsNextLine text at line → line ≡ Stop → rows_in (drop at text) ≡ []
unfolding rows_in
stops text at line h e = grind arith

pub ends : (text : List ℕ) (at : ℕ) → IsNextLine text at End → rows_in (drop at text) ≡ []
unfolding rows_in
ends text at h = ap (λ ls. with_feeds (before_end_mark ls)) h.1

pub length_slice : (text : List ℕ) (a b : ℕ) → a ≤ b → b ≤ length text → length (slice_range text a b) ≡ b - a
length_slice text a b low high = let cut = length-drop a text in omega (arith, cut, length-take (b - a) (drop a text))

-- the rows up to where a line ends them
pub between : {E : Type 0} (text : List ℕ) (from at : ℕ) (r : Result Rows E) → from ≤ at → at ≤ length text → rows_in (drop from text) ≡ slice_range text from at ++ rows_in (drop at text) → rows_in (drop at text) ≡ []
    → IfOk r (λ r. seen r ≡ record { rows = slice_range text from at; end = min (at + 3) (length text) }) → IfOk r (λ r. rows_from text from ≡ seen r)
unfolding rows_from
between text from at r low high so_far none h =
    let rows : rows_in (drop from text) ≡ slice_range text from at = so_far ∙ ap (λ (x : List ℕ). slice_range text from at ++ x) none ∙ append-nil (slice_range text from at) in
    grind (arith, length_slice)

-- all that is left of the text, where its last line has no line feed
pub whole : (text : List ℕ) (from end : ℕ) (rows : List ℕ) → from ≤ length text → end ≡ length text → rows_in (drop from text) ≡ drop from text ++ newline ∷ [] → rows ≡ slice_range text from (length text) ++ newline ∷ []
    → rows_from text from ≡ record { rows = rows; end = end }
unfolding rows_from
whole text from end rows low same e made =
    let is : rows_in (drop from text) ≡ rows = e ∙ sym (made ∙ ap (λ (x : List ℕ). x ++ newline ∷ []) (take_rest text from)) in
    let size : length rows ≡ length text - from + 1 = omega (arith, ap (λ (x : List ℕ). length x) (sym is ∙ e), length-append (drop from text) (newline ∷ []), length-drop from text) in
    (ap (copied text from) is ∙ ap (λ n. record { rows = rows; end = n }) (min-eq_right (omega (arith, size)) ∙ sym same))
