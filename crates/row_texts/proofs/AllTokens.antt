-- The tokens up to the first semicolon are all tokens of a text where blanks and comments alone stand behind them.
use Rattle.std.proofs.Common.{◌≡◌, ℕ, zero, suc, ◌+◌, ◌-◌, ◌<◌, ◌≤◌, Bool, true, false, cond, List, [], ◌∷◌, length, Option, Some, None, option_map, Result, Ok, Err, refl, sym, ap, ◌∙◌, arith}
use Rattle.sql_lex.specs.declared.token.Token.{Token}
use Rattle.sql_lex.specs.declared.fault.LexFault.{LexFault}
use Rattle.sql_lex.specs.Next.{◌>>=◌, listed, next_token_of, tokens_within, tokens_of}
use Rattle.sql_lex.proofs.Passing.{next_at_end, lies_behind}
use Rattle.cat_model.specs.Values.{Bytes}
use Rattle.ddl_part_laws.specs.pieces.Piece.{Piece}
use Rattle.ddl_part_laws.specs.Collecting.{Collected, preceded, nothing_more, collected_by, collected_within, collected}
use Rattle.ddl_part_laws.specs.Lexemes.{Lexeme, is_sign_kind}
use Rattle.ddl_part_laws.specs.Pieces.{lexeme_of, lexemes}
use Rattle.row_texts.specs.Tokens.{pieces_from, are_none, is_ended_once, tokens_behind, all_tokens, is_no_token, is_end}

-- what was collected, where it is all
abbrev if_all : Bool → List Lexeme → Option (List Lexeme)
if_all b ts = cond {A = Option (List Lexeme)} b (Some ts) None

abbrev shown : Bytes → Collected → Option (List Lexeme)
shown text c = if_all (is_end text c.end) (lexemes text c.pieces)

abbrev piece : ℕ → Token → Piece
piece at t = record { from = at; token = t }

-- ---- one token more

abbrev with_first : Lexeme → Option (List Lexeme) → Option (List Lexeme)
with_first x o = option_map (λ ts. x ∷ ts) o

first_of_all : (x : Lexeme) (ts : List Lexeme) (b : Bool) → if_all b (x ∷ ts) ≡ with_first x (if_all b ts)
first_of_all x ts true = refl
first_of_all x ts false = refl

-- in front of tokens, one that isn't a semicolon
abbrev fronted : Bytes → ℕ → Token → Result (List Token) LexFault → Option (List Lexeme)
fronted text at t r = tokens_behind text at (r >>= λ ts. Ok (t ∷ ts))

first_token : (text : Bytes) (at : ℕ) (t : Token) (r : Result (List Token) LexFault) → is_sign_kind 59 t.kind ≡ false → fronted text at t r ≡ with_first (lexeme_of text (piece at t)) (tokens_behind text t.end r)
first_token text at t (Err fault) e = refl
first_token text at t (Ok ts) e =
    ap (λ b. if_all (cond b (are_none ts) (is_ended_once ts)) (lexeme_of text (piece at t) ∷ lexemes text (pieces_from t.end ts))) e
    ∙ first_of_all (lexeme_of text (piece at t)) (lexemes text (pieces_from t.end ts)) (is_ended_once ts)

-- ---- behind a semicolon

abbrev alone : Bytes → Lexeme → ℕ → Result (List Token) LexFault → Option (List Lexeme)
alone text x at (Ok ts) = if_all (are_none ts) (x ∷ lexemes text (pieces_from at ts))
alone text x at (Err fault) = None

not_alone : (text : Bytes) (x : Lexeme) (at : ℕ) (t : Token) (r : Result (List Token) LexFault) → alone text x at (r >>= λ ts. Ok (t ∷ ts)) ≡ None
not_alone text x at t (Ok ts) = refl
not_alone text x at t (Err fault) = refl

alone_by : (later : ℕ → Result (List Token) LexFault) (text : Bytes) (x : Lexeme) (at : ℕ) (r : Result (Option Token) LexFault) → alone text x at (r >>= listed later) ≡ if_all (is_no_token r) (x ∷ [])
alone_by later text x at (Ok None) = refl
alone_by later text x at (Ok (Some t)) = not_alone text x at t (later t.end)
alone_by later text x at (Err fault) = refl

alone_is : (m : ℕ) (text : Bytes) (x : Lexeme) (at : ℕ) → at ≤ length text → length text - at ≤ m → alone text x at (tokens_within m text at) ≡ if_all (is_end text at) (x ∷ [])
unfolding tokens_within
alone_is zero text x at le few = ap (λ r. if_all (is_no_token r) (x ∷ [])) (sym (next_at_end text at (omega arith)))
alone_is (suc m) text x at le few = alone_by (tokens_within m text) text x at (next_token_of text at)

-- a semicolon in front of tokens
semicolon : (text : Bytes) (at : ℕ) (t : Token) (r : Result (List Token) LexFault) → is_sign_kind 59 t.kind ≡ true → fronted text at t r ≡ alone text (lexeme_of text (piece at t)) t.end r
semicolon text at t (Err fault) e = refl
semicolon text at t (Ok ts) e = ap (λ b. if_all (cond b (are_none ts) (is_ended_once ts)) (lexeme_of text (piece at t) ∷ lexemes text (pieces_from t.end ts))) e

-- ---- token by token

abbrev parted : Bytes → ℕ → Token → Collected → Bool → Option (List Lexeme)
parted text at t later semicolon = shown text (preceded (piece at t) (cond semicolon (nothing_more t.end None) later))

by_token : (n m : ℕ) (text : Bytes) (at : ℕ) (t : Token) → t.end ≤ length text → length text - t.end ≤ m → shown text (collected_within n text t.end) ≡ tokens_behind text t.end (tokens_within m text t.end) → (b : Bool) → is_sign_kind 59 t.kind ≡ b
    → parted text at t (collected_within n text t.end) b ≡ fronted text at t (tokens_within m text t.end)
by_token n m text at t le few later true e =
    sym (semicolon text at t (tokens_within m text t.end) e ∙ alone_is m text (lexeme_of text (piece at t)) t.end le few)
by_token n m text at t le few later false e =
    first_of_all (lexeme_of text (piece at t)) (lexemes text (collected_within n text t.end).pieces) (is_end text (collected_within n text t.end).end)
    ∙ ap (with_first (lexeme_of text (piece at t))) later
    ∙ sym (first_token text at t (tokens_within m text t.end) e)

by_next : (n m : ℕ) (text : Bytes) (at : ℕ) → at ≤ length text → length text - at ≤ suc m → (r : Result (Option Token) LexFault) → next_token_of text at ≡ r
    → ((end : ℕ) → end ≤ length text → at < end → shown text (collected_within n text end) ≡ tokens_behind text end (tokens_within m text end))
    → shown text (collected_by (collected_within n text) at r) ≡ tokens_behind text at (r >>= listed (tokens_within m text))
by_next n m text at le few (Err fault) is later = ap (λ r. if_all (is_no_token r) []) is
by_next n m text at le few (Ok None) is later = ap (λ r. if_all (is_no_token r) []) is
by_next n m text at le few (Ok (Some t)) is later =
    let lies = lies_behind text at (Ok (Some t)) le (sym is) in
    let beyond : at < t.end = omega (arith, lies.0, lies.1) in
    by_token n m text at t lies.2 (omega (arith, beyond)) (later t.end lies.2 beyond) (is_sign_kind 59 t.kind) refl

shown_within : (n m : ℕ) (text : Bytes) (at : ℕ) → at ≤ length text → length text - at < n → length text - at ≤ m → shown text (collected_within n text at) ≡ tokens_behind text at (tokens_within m text at)
unfolding collected_within tokens_within
shown_within zero m text at le enough few = absurd (omega arith)
shown_within (suc n) zero text at le enough few =
    let is = next_at_end text at (omega arith) in
    ap (λ r. shown text (collected_by (collected_within n text) at r)) is ∙ ap (λ r. if_all (is_no_token r) []) is
shown_within (suc n) (suc m) text at le enough few =
    by_next n m text at le few (next_token_of text at) refl (λ end high beyond. shown_within n m text end high (omega arith) (omega arith))

pub all_collected : (text : Bytes) → shown text (collected text 0) ≡ all_tokens text
unfolding collected tokens_of all_tokens
all_collected text = shown_within (length text + 1) (length text) text 0 (omega arith) (omega arith) (omega arith)

-- by what the code collected
pub if_all_collected : (text : Bytes) (pieces : List Piece) (end : ℕ) (fault : Option LexFault) (b : Bool) → collected text 0 ≡ record { pieces = pieces; end = end; fault = fault } → is_end text end ≡ b → all_tokens text ≡ if_all b (lexemes text pieces)
if_all_collected text pieces end fault b are is = sym (all_collected text) ∙ ap (shown text) are ∙ ap (λ b. if_all b (lexemes text pieces)) is
