-- Rows as a text: what is read are rows, and rows that are written are read back.
use Rattle.ddl_scripts.proofs.Common.{◌≡◌, ℕ, suc, ◌+◌, ◌≤◌, min, false, eqb, List, [], ◌∷◌, ◌++◌, length, drop, Ok, refl, sym, ap, ◌∙◌, arith, append_assoc, append-nil, length-append, onto_first, prefix_len, AllByRecursion as ByRecursion, drop-append_seam, drop-append-add, cond-false, length-drop, flat_map-cons, newline, end_mark, lines, before_end_mark, data_lines, lines_nil, is_between, with_feeds, rows_in, AreRows, Copied, copied, rows_from, rows_by, rows_at, rows_behind}
use Rattle.std.proofs.{lemmas.Grind.flat_map-append, lemmas.List.Sums.prefix_len-le-length}
use Rattle.std.specs.Str.{bytes_eq}

-- ---- lines

-- bytes without a line feed
abbrev Plain : List ℕ → Type 0
Plain line = ByRecursion (λ b. eqb b newline ≡ false) line

-- a line of a text, other than the line \.
abbrev IsLine : List ℕ → Type 0
IsLine line = Plain line × (bytes_eq line end_mark ≡ false)

lines_plain : (text : List ℕ) → ByRecursion Plain (lines text)
unfolding lines
lines_plain [] = tt
lines_plain (b ∷ rest) = grind (arith, (lines_plain rest))

before_are_lines : (ls : List (List ℕ)) → ByRecursion Plain ls → ByRecursion IsLine (before_end_mark ls)
before_are_lines [] all = tt
before_are_lines (l ∷ ls) all = grind (arith, (before_are_lines ls all.1))

-- the lines of a text up to the line \.
data_are_lines : (text : List ℕ) → ByRecursion IsLine (data_lines text)
data_are_lines text = before_are_lines (lines text) (lines_plain text)

-- a line with its line feed before more of a text
line_is_first : (line rest : List ℕ) → Plain line → lines (line ++ newline ∷ rest) ≡ line ∷ lines rest
unfolding lines
line_is_first [] rest plain = refl
line_is_first (b ∷ line) rest plain = rw plain.0 (ap (onto_first b) (line_is_first line rest plain.1))

lines_are_first : (ls : List (List ℕ)) (rest : List ℕ) → ByRecursion IsLine ls → data_lines (with_feeds ls ++ rest) ≡ ls ++ data_lines rest
lines_are_first [] rest all = refl
lines_are_first (l ∷ ls) rest all =
    let data_line : (line rest : List ℕ) → IsLine line → data_lines (line ++ newline ∷ rest) ≡ line ∷ data_lines rest = λ line rest is. ap before_end_mark (line_is_first line rest is.0) ∙ cond-false _ _ _ is.1 in
    let one : with_feeds (l ∷ ls) ≡ (l ++ newline ∷ []) ++ with_feeds ls = flat_map-cons (λ (line : List ℕ). line ++ newline ∷ []) l ls in
    let joined : ((l ++ newline ∷ []) ++ with_feeds ls) ++ rest ≡ l ++ (newline ∷ (with_feeds ls ++ rest)) = simp append_assoc in
    ap (λ (x : List ℕ). data_lines (x ++ rest)) one ∙ ap data_lines joined ∙ data_line l (with_feeds ls ++ rest) all.0 ∙ ap (λ (x : List (List ℕ)). l ∷ x) (lines_are_first ls rest all.1)

-- ---- rows

no_lines : data_lines [] ≡ []
no_lines = ap before_end_mark lines_nil

-- rows before more of a text
rows_are_first : (rows rest : List ℕ) → AreRows rows → rows_in (rows ++ rest) ≡ rows ++ rows_in rest
unfolding rows_in
rows_are_first rows rest are =
    let ls = data_lines rows in
    ap (λ (x : List ℕ). rows_in (x ++ rest)) (sym are) ∙ ap with_feeds (lines_are_first ls rest (data_are_lines rows)) ∙ flat_map-append (λ (line : List ℕ). line ++ newline ∷ []) ls (data_lines rest) ∙ ap (λ (x : List ℕ). x ++ rows_in rest) are

pub rows_again : (bytes : List ℕ) → AreRows (rows_in bytes)
unfolding rows_in
rows_again bytes =
    let ls = data_lines bytes in
    ap (λ (x : List ℕ). rows_in x) (sym (append-nil (with_feeds ls))) ∙ ap with_feeds (lines_are_first ls [] (data_are_lines bytes) ∙ ap (λ (x : List (List ℕ)). ls ++ x) no_lines ∙ append-nil ls)

-- ---- rows behind a place

pub read_are_rows : (text : List ℕ) (at : ℕ) (c : Copied) → rows_behind text at ≡ Ok c → AreRows c.rows
unfolding rows_at rows_behind rows_from rows_in
read_are_rows text at c e = let place = at + prefix_len is_between (drop at text) in (grind (arith, rows_again, no_lines))

pub rows_bounds : (text : List ℕ) (at : ℕ) (c : Copied) → at ≤ length text → rows_behind text at ≡ Ok c → (at ≤ c.end) × (c.end ≤ length text)
unfolding rows_behind rows_at rows_from
rows_bounds text at c le e =
    let by_bounds : (text : List ℕ) (at : ℕ) (rest : List ℕ) (c : Copied) → at ≤ length text → rows_by text at rest ≡ Ok c → (at ≤ c.end) × (c.end ≤ length text) = λ text at rest c le e. grind arith in
    let place = at + prefix_len is_between (drop at text) in
    let found = by_bounds text place (drop place text) c (omega (arith, prefix_len-le-length is_between (drop at text), length-drop at text)) e in
    (omega (arith, found.0), found.1)

-- ---- written rows

abbrev copied_as : List ℕ → ℕ → Copied
copied_as rows n = record { rows = rows; end = n }

pub rows_read_back : (front rows rest : List ℕ) → AreRows rows → rows_behind (front ++ (newline ∷ (rows ++ (end_mark ++ (newline ∷ rest))))) (length front)
    ≡ Ok (record { rows = rows; end = length front + 1 + length rows + 3 })
unfolding is_between rows_at rows_behind rows_from rows_in lines
rows_read_back front rows rest are =
    let ended : (rest : List ℕ) → data_lines (end_mark ++ newline ∷ rest) ≡ [] = λ rest. refl in
    let behind : List ℕ = rows ++ (end_mark ++ (newline ∷ rest)) in
    let text : List ℕ = front ++ (newline ∷ behind) in
    let at = length front in
    let feed : drop at text ≡ newline ∷ behind = drop-append_seam front (newline ∷ behind) in
    let read : rows_in behind ≡ rows = rows_are_first rows (end_mark ++ (newline ∷ rest)) are ∙ ap (λ (x : List (List ℕ)). rows ++ with_feeds x) (ended rest) ∙ append-nil rows in
    let high : min (at + 1 + length rows + 3) (length text) ≡ at + 1 + length rows + 3 = omega (arith, (length-append front (newline ∷ behind) ∙ ap (λ n. at + suc n) (length-append rows (end_mark ++ (newline ∷ rest))))) in
    (grind arith) ∙ ap (λ (x : List ℕ). Ok (copied text (at + 1) x)) (ap rows_in (drop-append-add front (newline ∷ behind) 1) ∙ read) ∙ ap (λ n. Ok (copied_as rows n)) high
