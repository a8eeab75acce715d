-- The first token at or after a place of a text, and the tokens of a whole text.
-- White space and comments are passed over. A token is what stands behind them.
use Rattle.std.specs.Prelude.{◌≡◌, ℕ, zero, suc, ◌-◌, ◌==◌, List, [], ◌∷◌, length, ◌<◌, ◌≤◌, ⊤, Option, Some, None, Result, Ok, Err, if◌then◌else◌}
use Rattle.sql_lex.specs.declared.fault.LexFault.{LexFault}
use Rattle.sql_lex.specs.declared.fault.TokensError.{TokensError}
use Rattle.sql_lex.specs.declared.fault.TokensError.TheVariants as errors
use Rattle.sql_lex.specs.declared.token.TokenKind.{TokenKind}
use Rattle.sql_lex.specs.declared.token.Token.{Token}
use Rattle.sql_lex.specs.Pieces.{piece_at, place_of}

infixl 10 ◌>>=◌
-- a fault is the answer
abbrev pub ◌>>=◌ : {A B : Type 0} → Result A LexFault → (A → Result B LexFault) → Result B LexFault
(Ok x) >>= f = f x
(Err fault) >>= f = Err fault

-- a token is the answer; behind white space and behind a comment `later` says it
abbrev pub or_later : (ℕ → Result (Option Token) LexFault) → ℕ → ℕ → Option TokenKind → Result (Option Token) LexFault
or_later later at end None = later end
or_later later at end (Some kind) = Ok (Some (record { kind = kind; start = at; end = end }))

-- the first token in at most n pieces
unfoldable pub next_within : ℕ → List ℕ → ℕ → Result (Option Token) LexFault
next_within zero text at = Ok None
next_within (suc n) text at =
    if at == length text then Ok None
    else (piece_at text at >>= λ piece. or_later (next_within n text) at piece.end piece.kind)

-- the first token at or after a place; each piece has a byte at least
unfoldable pub next_token_of : List ℕ → ℕ → Result (Option Token) LexFault
next_token_of text at = next_within (length text - at) text at

-- the tokens behind a place where `later` says those behind the first
abbrev pub listed : (ℕ → Result (List Token) LexFault) → Option Token → Result (List Token) LexFault
listed later None = Ok []
listed later (Some t) = later t.end >>= λ ts. Ok (t ∷ ts)

-- at most n tokens behind a place
unfoldable pub tokens_within : ℕ → List ℕ → ℕ → Result (List Token) LexFault
tokens_within zero text at = Ok []
tokens_within (suc n) text at = next_token_of text at >>= listed (tokens_within n text)

-- the tokens of a text; each has a byte at least
unfoldable pub tokens_of : List ℕ → Result (List Token) LexFault
tokens_of text = tokens_within (length text) text 0

-- what a call returned, seen by view, is what the text gives, unless memory ran out
abbrev pub Gives : {X Y : Type 0} → (X → Y) → Result X TokensError → Result Y LexFault → Type 0
Gives view (Ok x) given = given ≡ Ok (view x)
Gives view (Err errors.Memory) given = ⊤
Gives view (Err (errors.Lex fault)) given = given ≡ Err fault

-- The tokens of a text from a place on, said without a function: each is the first behind the one before, and behind
-- the last there is none.
abbrev pub AreTokens : List ℕ → ℕ → List Token → Type 0
AreTokens text at [] = next_token_of text at ≡ Ok None
AreTokens text at (t ∷ ts) = (next_token_of text at ≡ Ok (Some t)) × AreTokens text t.end ts

-- behind these tokens the text has a fault
abbrev pub AreTokensBefore : LexFault → List ℕ → ℕ → List Token → Type 0
AreTokensBefore fault text at [] = next_token_of text at ≡ Err fault
AreTokensBefore fault text at (t ∷ ts) = (next_token_of text at ≡ Ok (Some t)) × AreTokensBefore fault text t.end ts

-- a token behind a place lies in the text, and a fault is at a byte of it
abbrev pub LiesBehind : List ℕ → ℕ → Result (Option Token) LexFault → Type 0
LiesBehind text at (Ok None) = ⊤
LiesBehind text at (Ok (Some t)) = (at ≤ t.start) × (t.start < t.end) × (t.end ≤ length text)
LiesBehind text at (Err fault) = (at ≤ place_of fault) × (place_of fault < length text)

-- a token with a byte at least that ends in the text
abbrev pub LiesIn : List ℕ → Token → Type 0
LiesIn text t = (t.start < t.end) × (t.end ≤ length text)

-- tokens behind a place, each behind the one before
abbrev pub AreInOrder : ℕ → List Token → Type 0
AreInOrder at [] = ⊤
AreInOrder at (t ∷ ts) = (at ≤ t.start) × (t.start < t.end) × AreInOrder t.end ts
