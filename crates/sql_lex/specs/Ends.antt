-- Where a run, a quoted text, a comment or a number ends that has begun in a text.
-- Each takes what is still to come of the text and the place of its first byte, and answers a place of the text.
use Rattle.std.specs.Prelude.{ℕ, ◌+◌, ◌-◌, Bool, ◌||◌, ◌&&◌, not, ◌==◌, List, [], ◌∷◌, drop, Option, Some, None, if◌then◌else◌}
use Rattle.std.specs.List.{prefix_len}
use Rattle.sql_lex.specs.Bytes.{is_digit}

-- a run of bytes of one class ends before the first byte that isn't of it
unfoldable pub run_end : (ℕ → Bool) → ℕ → List ℕ → ℕ
run_end p at rest = at + prefix_len p rest

-- Read from the left each quote closes the quotes or opens them again, so a doubled one leaves them open. They are
-- closed for good before the first other byte, or at the end of the text. None: they stay open.
unfoldable pub quote_end : ℕ → Bool → ℕ → List ℕ → Option ℕ
quote_end q inside at [] = if inside then None else Some at
quote_end q inside at (b ∷ rest) =
    if inside || b == q then quote_end q (not (inside && b == q)) (at + 1) rest else Some at

-- The same with single quotes where a backslash takes the next byte, whatever it is.
unfoldable pub escape_end : Bool → Bool → ℕ → List ℕ → Option ℕ
escape_end taken inside at [] = if taken || inside then None else Some at
escape_end taken inside at (b ∷ rest) =
    if taken || inside || b == 39
    then escape_end (not taken && inside && b == 92) (taken || not (inside && b == 39)) (at + 1) rest
    else Some at

-- A comment opens one more with `/*` and closes one with `*/`, and ends where none is open. `before` is the byte
-- before, or 0 where that has been part of such a mark. None: it stays open.
unfoldable pub comment_end : ℕ → ℕ → ℕ → List ℕ → Option ℕ
comment_end depth before at [] = None
comment_end depth before at (b ∷ rest) =
    let opens = before == 47 && b == 42 in
    let closes = before == 42 && b == 47 in
    if closes && depth == 1 then Some (at + 1)
    else comment_end (if opens then depth + 1 else (if closes then depth - 1 else depth)) (if opens || closes then 0 else b) (at + 1) rest

-- behind the digits of a number a dot and a digit go on with it
unfoldable pub fraction_end : ℕ → List ℕ → ℕ
fraction_end at [] = at
fraction_end at (b ∷ []) = at
fraction_end at (b ∷ c ∷ rest) = if b == 46 && is_digit c then run_end is_digit (at + 2) rest else at

unfoldable pub number_end : ℕ → List ℕ → ℕ
number_end at rest = fraction_end (at + prefix_len is_digit rest) (drop (prefix_len is_digit rest) rest)
