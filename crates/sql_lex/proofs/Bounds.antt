-- What stands at a place ends behind it and within the text.
use Rattle.std.proofs.Common.{◌≡◌, ℕ, suc, ◌+◌, ◌-◌, ◌<◌, ◌≤◌, Bool, true, false, not, cond, ◌||◌, ◌&&◌, List, [], ◌∷◌, length, get_or, drop, take, Option, Some, None, Result, Ok, Err, refl, sym, ap, subst, arith}
use Rattle.std.specs.Prelude.{◌==◌, IfSome}
use Rattle.std.specs.List.{prefix_len}
use Rattle.std.specs.Str.{is_utf8}
use Rattle.std.proofs.lemmas.Bool.{cond_both, and_parts}
use Rattle.std.proofs.lemmas.List.{length-drop}
use Rattle.std.proofs.lemmas.List.Sums.{prefix_len-le-length}
use Rattle.sql_lex.specs.declared.fault.LexFault.{LexFault}
use Rattle.sql_lex.specs.declared.fault.LexFault.TheVariants.{BadByte}
use Rattle.sql_lex.specs.declared.token.TokenKind.{TokenKind}
use Rattle.sql_lex.specs.declared.token.TokenKind.TheVariants.{QuotedName, Literal}
use Rattle.sql_lex.specs.declared.piece.Piece.{Piece}
use Rattle.sql_lex.specs.Bytes.{is_blank, is_digit, begins_word, in_word, is_sign, marks_escapes, in_line, next_is}
use Rattle.sql_lex.specs.Ends.{run_end, quote_end, escape_end, comment_end, fraction_end, number_end}
use Rattle.sql_lex.specs.Pieces.{begins_line, closed, begun, in_utf8, piece_at, place_of}
use Rattle.sql_lex.proofs.Scans.{next_is_some}

-- a place from one place up to another
pub record IsWithin (from to end : ℕ) : Type 0 where
  pub low : from ≤ end
  pub high : end ≤ to

pub IsWithin-wider : (a b c d end : ℕ) → a ≤ c → d ≤ b → IsWithin c d end → IsWithin a b end
IsWithin-wider a b c d end le ge h = let low = h.low in let high = h.high in record { low = omega arith; high = omega arith }

IfSome-wider : (a b c d : ℕ) (o : Option ℕ) → a ≤ c → d ≤ b → IfSome o (IsWithin c d) → IfSome o (IsWithin a b)
IfSome-wider a b c d None le ge h = tt
IfSome-wider a b c d (Some end) le ge h = IsWithin-wider a b c d end le ge h

pub run_within : (p : ℕ → Bool) (at : ℕ) (rest : List ℕ) → IsWithin at (at + length rest) (run_end p at rest)
unfolding run_end
run_within p at rest = let le = prefix_len-le-length p rest in record { low = omega arith; high = omega arith }

pub quote_within : (q : ℕ) (inside : Bool) (at : ℕ) (rest : List ℕ) → IfSome (quote_end q inside at rest) (IsWithin at (at + length rest))
unfolding quote_end
quote_within q true at [] = tt
quote_within q false at [] = record { low = omega arith; high = omega arith }
quote_within q inside at (b ∷ rest) =
    cond_both (inside || b == q) (quote_end q (not (inside && b == q)) (at + 1) rest) (Some at) (λ o. IfSome o (IsWithin at (at + length (b ∷ rest))))
    (λ _. IfSome-wider at (at + length (b ∷ rest)) (at + 1) (at + 1 + length rest) (quote_end q (not (inside && b == q)) (at + 1) rest) (omega arith) (omega arith) (quote_within q (not (inside && b == q)) (at + 1) rest))
    (λ _. record { low = omega arith; high = omega arith })

pub escape_within : (taken inside : Bool) (at : ℕ) (rest : List ℕ) → IfSome (escape_end taken inside at rest) (IsWithin at (at + length rest))
unfolding escape_end
escape_within true inside at [] = tt
escape_within false true at [] = tt
escape_within false false at [] = record { low = omega arith; high = omega arith }
escape_within taken inside at (b ∷ rest) =
    let more = escape_end (not taken && inside && b == 92) (taken || not (inside && b == 39)) (at + 1) rest in
    cond_both (taken || inside || b == 39) more (Some at) (λ o. IfSome o (IsWithin at (at + length (b ∷ rest))))
    (λ _. IfSome-wider at (at + length (b ∷ rest)) (at + 1) (at + 1 + length rest) more (omega arith) (omega arith) (escape_within (not taken && inside && b == 92) (taken || not (inside && b == 39)) (at + 1) rest))
    (λ _. record { low = omega arith; high = omega arith })

pub comment_within : (depth before at : ℕ) (rest : List ℕ) → IfSome (comment_end depth before at rest) (IsWithin at (at + length rest))
unfolding comment_end
comment_within depth before at [] = tt
comment_within depth before at (b ∷ rest) =
    let opens = before == 47 && b == 42 in
    let closes = before == 42 && b == 47 in
    let deeper = cond opens (depth + 1) (cond closes (depth - 1) depth) in
    let now = cond (opens || closes) 0 b in
    cond_both (closes && depth == 1) (Some (at + 1)) (comment_end deeper now (at + 1) rest) (λ o. IfSome o (IsWithin at (at + length (b ∷ rest))))
    (λ _. record { low = omega arith; high = omega arith })
    (λ _. IfSome-wider at (at + length (b ∷ rest)) (at + 1) (at + 1 + length rest) (comment_end deeper now (at + 1) rest) (omega arith) (omega arith) (comment_within deeper now (at + 1) rest))

pub fraction_within : (at : ℕ) (rest : List ℕ) → IsWithin at (at + length rest) (fraction_end at rest)
unfolding fraction_end
fraction_within at [] = record { low = omega arith; high = omega arith }
fraction_within at (b ∷ []) = record { low = omega arith; high = omega arith }
fraction_within at (b ∷ c ∷ rest) =
    cond_both (b == 46 && is_digit c) (run_end is_digit (at + 2) rest) at (IsWithin at (at + length (b ∷ c ∷ rest)))
    (λ _. IsWithin-wider at (at + length (b ∷ c ∷ rest)) (at + 2) (at + 2 + length rest) (run_end is_digit (at + 2) rest) (omega arith) (omega arith) (run_within is_digit (at + 2) rest))
    (λ _. record { low = omega arith; high = omega arith })

pub number_within : (at : ℕ) (rest : List ℕ) → IsWithin at (at + length rest) (number_end at rest)
unfolding number_end
number_within at rest =
    let n = prefix_len is_digit rest in
    let le = prefix_len-le-length is_digit rest in
    IsWithin-wider at (at + length rest) (at + n) (at + n + length (drop n rest)) (fraction_end (at + n) (drop n rest)) (omega arith) (omega (arith, length-drop n rest)) (fraction_within (at + n) (drop n rest))

-- a piece ends behind its place and up to `high`, and a fault is at its place
abbrev pub IsSound : ℕ → ℕ → Result Piece LexFault → Type 0
IsSound at high (Ok piece) = IsWithin (at + 1) high piece.end
IsSound at high (Err fault) = place_of fault ≡ at

closed_within : (kind : Option TokenKind) (at low high : ℕ) (o : Option ℕ) → at < low → IfSome o (IsWithin low high) → IsSound at high (closed kind at o)
unfolding closed
closed_within kind at low high None lt h = refl
closed_within kind at low high (Some end) lt h = IsWithin-wider (at + 1) high low high end (omega arith) (omega arith) h

pub begun_within : (line : Bool) (at b : ℕ) (rest : List ℕ) → IsSound at (at + 1 + length rest) (begun line at b rest)
unfolding begun
begun_within line at b rest =
    let high : ℕ = at + 1 + length rest in
    let P : Result Piece LexFault → Type 0 = IsSound at high in
    let behind : (p : ℕ → Bool) → next_is p rest ≡ true → at + 2 + length (drop 1 rest) ≤ high =
    λ p e. let more = next_is_some p rest e in let whole : length rest ≡ suc (length more.1) = ap length more.2 in omega (arith, length-drop 1 rest) in
    let quotes : (q : ℕ) → IfSome (quote_end q true (at + 1) rest) (IsWithin (at + 1) high) = λ q. quote_within q true (at + 1) rest in
    cond_both (is_blank b) _ _ P (λ _. run_within is_blank (at + 1) rest) (λ _.
    cond_both (marks_escapes b && next_is (λ c. c == 39) rest) _ _ P
    (λ e. closed_within (Some Literal) at (at + 2) high _ (omega arith) (IfSome-wider (at + 2) high (at + 2) (at + 2 + length (drop 1 rest)) _ (omega arith) (behind (λ c. c == 39) (and_parts _ _ e).1) (escape_within false true (at + 2) (drop 1 rest)))) (λ _.
    cond_both (begins_word b) _ _ P (λ _. run_within in_word (at + 1) rest) (λ _.
    cond_both (is_digit b) _ _ P (λ _. number_within (at + 1) rest) (λ _.
    cond_both (b == 34) _ _ P (λ _. closed_within (Some QuotedName) at (at + 1) high _ (omega arith) (quotes 34)) (λ _.
    cond_both (b == 39) _ _ P (λ _. closed_within (Some Literal) at (at + 1) high _ (omega arith) (quotes 39)) (λ _.
    cond_both (b == 45 && next_is (λ c. c == 45) rest) _ _ P (λ _. run_within in_line (at + 1) rest) (λ _.
    cond_both (b == 47 && next_is (λ c. c == 42) rest) _ _ P
    (λ e. closed_within None at (at + 2) high _ (omega arith) (IfSome-wider (at + 2) high (at + 2) (at + 2 + length (drop 1 rest)) _ (omega arith) (behind (λ c. c == 42) (and_parts _ _ e).1) (comment_within 1 0 (at + 2) (drop 1 rest)))) (λ _.
    cond_both (b == 92 && line) _ _ P (λ _. run_within in_line (at + 1) rest) (λ _.
    cond_both (is_sign b) _ _ P (λ _. record { low = omega arith; high = omega arith }) (λ _. refl))))))))))

utf8_within : (at high : ℕ) (rest : List ℕ) (r : Result Piece LexFault) → IsSound at high r → IsSound at high (in_utf8 at rest r)
unfolding in_utf8
utf8_within at high rest (Err fault) h = h
utf8_within at high rest (Ok piece) h = cond_both (is_utf8 (take (piece.end - at) rest)) (Ok piece) (Err (BadByte at)) (IsSound at high) (λ _. h) (λ _. refl)

pub piece_within : (text : List ℕ) (at : ℕ) → at < length text → IsSound at (length text) (piece_at text at)
unfolding piece_at
piece_within text at lt =
    let h = begun_within (begins_line text at) at (get_or text at 0) (drop (at + 1) text) in
    let high : at + 1 + length (drop (at + 1) text) ≡ length text = omega (arith, length-drop (at + 1) text) in
    utf8_within at (length text) (drop at text) _ (subst (λ n. IsSound at n (begun (begins_line text at) at (get_or text at 0) (drop (at + 1) text))) high h)

-- the same of what a function found
pub begun_ok : (text : List ℕ) (at : ℕ) (piece : Piece) → at < length text → Ok piece ≡ begun (begins_line text at) at (get_or text at 0) (drop (at + 1) text) → (at < piece.end) × (piece.end ≤ length text)
begun_ok text at piece lt e =
    let high : at + 1 + length (drop (at + 1) text) ≡ length text = omega (arith, length-drop (at + 1) text) in
    let h : IsSound at (at + 1 + length (drop (at + 1) text)) (Ok piece) = subst (IsSound at (at + 1 + length (drop (at + 1) text))) (sym e) (begun_within (begins_line text at) at (get_or text at 0) (drop (at + 1) text)) in
    let low = h.low in
    let top = h.high in
    (omega arith, omega arith)

pub piece_ok : (text : List ℕ) (at : ℕ) (piece : Piece) → at < length text → Ok piece ≡ piece_at text at → (at < piece.end) × (piece.end ≤ length text)
piece_ok text at piece lt e =
    let h : IsSound at (length text) (Ok piece) = subst (IsSound at (length text)) (sym e) (piece_within text at lt) in
    let low = h.low in
    (omega arith, h.high)

pub piece_err : (text : List ℕ) (at : ℕ) (fault : LexFault) → at < length text → Err fault ≡ piece_at text at → place_of fault ≡ at
piece_err text at fault lt e = subst (IsSound at (length text)) (sym e) (piece_within text at lt)
