-- Pieces are passed over up to the first token.
use Rattle.std.proofs.Common.{◌≡◌, ℕ, zero, suc, ◌-◌, ◌<◌, ◌≤◌, List, [], ◌∷◌, ◌++◌, append_assoc, length, Option, Some, None, Result, Ok, Err, refl, sym, ap, subst, ◌∙◌, inl, inr, arith}
use Rattle.std.proofs.lemmas.Bool.{cases_lt, eq-eqb, ne_eqb}
use Rattle.std.proofs.lemmas.List.{append-nil}
use Rattle.sql_lex.specs.declared.fault.LexFault.{LexFault}
use Rattle.sql_lex.specs.declared.token.TokenKind.{TokenKind}
use Rattle.sql_lex.specs.declared.token.Token.{Token}
use Rattle.sql_lex.specs.declared.piece.Piece.{Piece}
use Rattle.sql_lex.specs.Pieces.{piece_at}
use Rattle.sql_lex.specs.Next.{◌>>=◌, or_later, next_within, next_token_of, listed, tokens_within, tokens_of, AreTokens, AreTokensBefore, LiesBehind}
use Rattle.sql_lex.proofs.Bounds.{piece_ok, piece_err}

-- one piece on, where the text goes on
pub one_piece : (n : ℕ) (text : List ℕ) (at : ℕ) (r : Result Piece LexFault) → at < length text → r ≡ piece_at text at → next_within (suc n) text at ≡ (r >>= λ piece. or_later (next_within n text) at piece.end piece.kind)
unfolding next_within
one_piece n text at r lt e = rw (ne_eqb at (length text) (λ (e : at ≡ length text). omega arith), ← e) refl

pub at_end : (n : ℕ) (text : List ℕ) (at : ℕ) → at ≡ length text → next_within n text at ≡ Ok None
unfolding next_within
at_end zero text at e = refl
at_end (suc n) text at e = rw (eq-eqb at (length text) e) refl

pub at_fault : (n : ℕ) (text : List ℕ) (at : ℕ) (fault : LexFault) → at < length text → length text - at ≤ n → Err fault ≡ piece_at text at → next_within n text at ≡ Err fault
at_fault zero text at fault lt le e = absurd (omega arith)
at_fault (suc n) text at fault lt le e = one_piece n text at (Err fault) lt e

pub at_token : (n : ℕ) (text : List ℕ) (at : ℕ) (piece : Piece) (kind : TokenKind) → at < length text → length text - at ≤ n → Ok piece ≡ piece_at text at → piece.kind ≡ Some kind
    → next_within n text at ≡ Ok (Some (record { kind = kind; start = at; end = piece.end }))
at_token zero text at piece kind lt le e k = absurd (omega arith)
at_token (suc n) text at piece kind lt le e k = one_piece n text at (Ok piece) lt e ∙ rw k refl

at_gap : (n : ℕ) (text : List ℕ) (at : ℕ) (piece : Piece) → at < length text → Ok piece ≡ piece_at text at → piece.kind ≡ None → next_within (suc n) text at ≡ next_within n text piece.end
at_gap n text at piece lt e k = one_piece n text at (Ok piece) lt e ∙ rw k refl

later_same : (m n : ℕ) (text : List ℕ) (at end : ℕ) (kind : Option TokenKind) → (kind ≡ None → next_within m text end ≡ next_within n text end) → or_later (next_within m text) at end kind ≡ or_later (next_within n text) at end kind
later_same m n text at end None h = h refl
later_same m n text at end (Some kind) h = refl

bind_same : (f g : Piece → Result (Option Token) LexFault) (r : Result Piece LexFault) → ((piece : Piece) → Ok piece ≡ r → f piece ≡ g piece) → (r >>= f) ≡ (r >>= g)
bind_same f g (Ok piece) h = h piece refl
bind_same f g (Err fault) h = refl

-- more pieces than the text can have are as good as enough
pub enough : (m n : ℕ) (text : List ℕ) (at : ℕ) → at ≤ length text → length text - at ≤ m → length text - at ≤ n → next_within m text at ≡ next_within n text at
enough zero n text at le a b = at_end zero text at (omega arith) ∙ sym (at_end n text at (omega arith))
enough (suc m) zero text at le a b = at_end (suc m) text at (omega arith) ∙ sym (at_end zero text at (omega arith))
enough (suc m) (suc n) text at le a b =
    elim (cases_lt at (length text)) [
      | inl lt ↦ one_piece m text at (piece_at text at) lt refl
          ∙ bind_same (λ piece. or_later (next_within m text) at piece.end piece.kind) (λ piece. or_later (next_within n text) at piece.end piece.kind) (piece_at text at) (λ piece e.
          let end = piece_ok text at piece lt e in
          later_same m n text at piece.end piece.kind (λ _. enough m n text piece.end end.1 (omega arith) (omega arith)))
          ∙ sym (one_piece n text at (piece_at text at) lt refl)
      | inr ge ↦ at_end (suc m) text at (omega arith) ∙ sym (at_end (suc n) text at (omega arith))
    ]

-- what a call of `next_token` answers, by what stands at its place
pub next_at_end : (text : List ℕ) (at : ℕ) → at ≡ length text → next_token_of text at ≡ Ok None
unfolding next_token_of
next_at_end text at e = at_end (length text - at) text at e

pub next_at_fault : (text : List ℕ) (at : ℕ) (fault : LexFault) → at < length text → Err fault ≡ piece_at text at → next_token_of text at ≡ Err fault
unfolding next_token_of
next_at_fault text at fault lt e = at_fault (length text - at) text at fault lt (omega arith) e

pub next_at_token : (text : List ℕ) (at : ℕ) (piece : Piece) (kind : TokenKind) → at < length text → Ok piece ≡ piece_at text at → piece.kind ≡ Some kind
    → next_token_of text at ≡ Ok (Some (record { kind = kind; start = at; end = piece.end }))
unfolding next_token_of
next_at_token text at piece kind lt e k = at_token (length text - at) text at piece kind lt (omega arith) e k

pub next_at_gap : (text : List ℕ) (at : ℕ) (piece : Piece) → at < length text → Ok piece ≡ piece_at text at → piece.kind ≡ None → next_token_of text at ≡ next_token_of text piece.end
unfolding next_token_of
next_at_gap text at piece lt e k =
    let end = piece_ok text at piece lt e in
    let one : length text - at ≡ suc (length text - at - 1) = omega arith in
    ap (λ n. next_within n text at) one ∙ at_gap (length text - at - 1) text at piece lt e k
    ∙ enough (length text - at - 1) (length text - piece.end) text piece.end end.1 (omega arith) (omega arith)

-- ---- where what is found lies

lies_further : (text : List ℕ) (at more : ℕ) (r : Result (Option Token) LexFault) → at ≤ more → LiesBehind text more r → LiesBehind text at r
lies_further text at more (Ok None) le h = tt
lies_further text at more (Ok (Some t)) le h = (omega (arith, h.0), h.1, h.2)
lies_further text at more (Err fault) le h = (omega (arith, h.0), h.1)

lies_later : (later : ℕ → Result (Option Token) LexFault) (text : List ℕ) (at end : ℕ) (kind : Option TokenKind) → at < end → end ≤ length text → LiesBehind text end (later end) → LiesBehind text at (or_later later at end kind)
lies_later later text at end None low high h = lies_further text at end (later end) (omega arith) h
lies_later later text at end (Some kind) low high h = (omega arith, low, high)

lies_piece : (later : ℕ → Result (Option Token) LexFault) (text : List ℕ) (at : ℕ) (r : Result Piece LexFault) → at < length text → r ≡ piece_at text at → ((end : ℕ) → end ≤ length text → LiesBehind text end (later end))
    → LiesBehind text at (r >>= λ piece. or_later later at piece.end piece.kind)
lies_piece later text at (Ok piece) lt e h =
    let end = piece_ok text at piece lt e in
    lies_later later text at piece.end piece.kind end.0 end.1 (h piece.end end.1)
lies_piece later text at (Err fault) lt e h = let at_place = piece_err text at fault lt e in (omega arith, omega arith)

lies_within : (n : ℕ) (text : List ℕ) (at : ℕ) → at ≤ length text → LiesBehind text at (next_within n text at)
unfolding next_within
lies_within zero text at le = tt
lies_within (suc n) text at le =
    elim (cases_lt at (length text)) [
      | inl lt ↦ subst (LiesBehind text at) (sym (one_piece n text at (piece_at text at) lt refl)) (lies_piece (next_within n text) text at (piece_at text at) lt refl (λ end high. lies_within n text end high))
      | inr ge ↦ subst (LiesBehind text at) (sym (at_end (suc n) text at (omega arith))) tt
    ]

-- a token lies behind the place that it was looked for at, and within the text
pub lies_behind : (text : List ℕ) (at : ℕ) (r : Result (Option Token) LexFault) → at ≤ length text → r ≡ next_token_of text at → LiesBehind text at r
unfolding next_token_of
lies_behind text at r le e = subst (LiesBehind text at) (sym e) (lies_within (length text - at) text at le)

-- ---- the tokens of a whole text

bind_listed : (later : ℕ → Result (List Token) LexFault) (r : Result (Option Token) LexFault) (t : Token) (ts : List Token) → r ≡ Ok (Some t) → later t.end ≡ Ok ts → (r >>= listed later) ≡ Ok (t ∷ ts)
bind_listed later r t ts e more = rw (e, more) refl

bind_failed : (later : ℕ → Result (List Token) LexFault) (r : Result (Option Token) LexFault) (t : Token) (fault : LexFault) → r ≡ Ok (Some t) → later t.end ≡ Err fault → (r >>= listed later) ≡ Err fault
bind_failed later r t fault e more = rw (e, more) refl

-- where tokens follow one another they are the answer
pub are_listed : (n : ℕ) (text : List ℕ) (at : ℕ) (ts : List Token) → at ≤ length text → length text - at ≤ n → AreTokens text at ts → tokens_within n text at ≡ Ok ts
unfolding tokens_within
are_listed zero text at [] le few h = refl
are_listed zero text at (t ∷ ts) le few h = let lies = lies_behind text at (Ok (Some t)) le (sym h.0) in absurd (omega (arith, lies.0, lies.1, lies.2))
are_listed (suc n) text at [] le few h = rw h refl
are_listed (suc n) text at (t ∷ ts) le few h =
    let lies = lies_behind text at (Ok (Some t)) le (sym h.0) in
    bind_listed (tokens_within n text) (next_token_of text at) t ts h.0 (are_listed n text t.end ts lies.2 (omega (arith, lies.0, lies.1)) h.1)

pub are_failed : (n : ℕ) (text : List ℕ) (at : ℕ) (fault : LexFault) (ts : List Token) → at ≤ length text → length text - at ≤ n → AreTokensBefore fault text at ts → tokens_within n text at ≡ Err fault
unfolding tokens_within
are_failed zero text at fault [] le few h = let lies = lies_behind text at (Err fault) le (sym h) in absurd (omega (arith, lies.0, lies.1))
are_failed zero text at fault (t ∷ ts) le few h = let lies = lies_behind text at (Ok (Some t)) le (sym h.0) in absurd (omega (arith, lies.0, lies.1, lies.2))
are_failed (suc n) text at fault [] le few h = rw h refl
are_failed (suc n) text at fault (t ∷ ts) le few h =
    let lies = lies_behind text at (Ok (Some t)) le (sym h.0) in
    bind_failed (tokens_within n text) (next_token_of text at) t fault h.0 (are_failed n text t.end fault ts lies.2 (omega (arith, lies.0, lies.1)) h.1)

-- tokens so far: what follows them makes a list of tokens of the whole text
pub record AreSoFar (text : List ℕ) (front : List Token) (at : ℕ) : Type 0 where
  pub ok : (ts : List Token) → AreTokens text at ts → AreTokens text 0 (front ++ ts)
  pub err : (fault : LexFault) (ts : List Token) → AreTokensBefore fault text at ts → AreTokensBefore fault text 0 (front ++ ts)

pub so_far-nil : (text : List ℕ) → AreSoFar text [] 0
so_far-nil text = record { ok = λ ts h. h; err = λ fault ts h. h }

pub so_far-push : (text : List ℕ) (front : List Token) (at : ℕ) (t : Token) → Ok (Some t) ≡ next_token_of text at → AreSoFar text front at → AreSoFar text (front ++ t ∷ []) t.end
so_far-push text front at t e h = record {
  ok = λ ts more. subst (AreTokens text 0) (sym (append_assoc front (t ∷ []) ts)) (h.ok (t ∷ ts) (sym e, more));
  err = λ fault ts more. subst (AreTokensBefore fault text 0) (sym (append_assoc front (t ∷ []) ts)) (h.err fault (t ∷ ts) (sym e, more));
}

pub so_far-done : (text : List ℕ) (front : List Token) (at : ℕ) → Ok None ≡ next_token_of text at → AreSoFar text front at → tokens_of text ≡ Ok front
unfolding tokens_of
so_far-done text front at e h = are_listed (length text) text 0 front (omega arith) (omega arith) (subst (AreTokens text 0) (append-nil front) (h.ok [] (sym e)))

pub so_far-failed : (text : List ℕ) (front : List Token) (at : ℕ) (fault : LexFault) → Err fault ≡ next_token_of text at → AreSoFar text front at → tokens_of text ≡ Err fault
unfolding tokens_of
so_far-failed text front at fault e h = are_failed (length text) text 0 fault (front ++ []) (omega arith) (omega arith) (h.err fault [] (sym e))
