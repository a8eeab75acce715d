-- The first token behind a place is the one that is due, and the one that is due is found.
use Rattle.std.proofs.Common.{◌≡◌, ℕ, zero, suc, ◌+◌, ◌-◌, ◌<◌, ◌≤◌, Bool, true, false, cond, List, [], ◌∷◌, ◌++◌, length, get_or, drop, take, Option, Some, None, Result, Ok, Err, refl, sym, ap, subst, ◌∙◌, inl, inr, arith}
use Rattle.std.specs.Prelude.{◌↔◌, All}
use Rattle.std.specs.List.{AllByRecursion}
use Rattle.std.proofs.lemmas.List.Elements.{All-from_recursion}
use Rattle.std.specs.Str.{is_utf8}
use Rattle.std.proofs.lemmas.Bool.{cases_Bool, cases_lt}
use Rattle.std.proofs.lemmas.List.{take_at, drop_more, length-drop}
use Rattle.sql_lex.specs.declared.fault.LexFault.{LexFault}
use Rattle.sql_lex.specs.declared.fault.LexFault.TheVariants.{Unclosed, BadByte}
use Rattle.sql_lex.specs.declared.token.TokenKind.{TokenKind}
use Rattle.sql_lex.specs.declared.token.Token.{Token}
use Rattle.sql_lex.specs.declared.piece.Piece.{Piece}
use Rattle.sql_lex.specs.Pieces.{begins_line, begun, in_utf8, piece_at, place_of}
use Rattle.sql_lex.specs.Next.{◌>>=◌, or_later, next_within, next_token_of, listed, tokens_within, tokens_of, AreTokens, AreTokensBefore, LiesIn, AreInOrder}
use Rattle.sql_lex.specs.Spelling.{opens_here}
use Rattle.sql_lex.specs.Answers.{PieceIn, SoundIn, Between, nothing, gap, Nothing, Fails, IsNext}
use Rattle.sql_lex.proofs.Bounds.{piece_ok}
use Rattle.sql_lex.proofs.PieceLaws.{begun_found, begun_only, begun_fault, IsFaultAt}
use Rattle.sql_lex.proofs.Passing.{at_end, next_at_end, next_at_fault, next_at_token, next_at_gap, one_piece, lies_behind, are_listed, are_failed}

abbrev begun_at : List ℕ → ℕ → Result Piece LexFault
begun_at text at = begun (begins_line text at) at (get_or text at 0) (drop (at + 1) text)

piece_in : (text : List ℕ) (at : ℕ) (piece : Piece) → at < length text → begun_at text at ≡ Ok piece → PieceIn text piece.kind at piece.end
piece_in text at piece lt e =
    let h = begun_found (begins_line text at) at (get_or text at 0) (drop (at + 1) text) piece e in
    record { word = h.word; rest = h.more; bytes = drop_more text at 0 lt ∙ h.bytes; ends = h.place; is = h.is }

pub piece_word : (text : List ℕ) (kind : Option TokenKind) (at end : ℕ) (p : PieceIn text kind at end) → take (end - at) (drop at text) ≡ p.word
piece_word text kind at end p =
    let ends = p.ends in
    let len : end - at ≡ length p.word = omega arith in
    ap (λ n. take n (drop at text)) len ∙ ap (take (length p.word)) p.bytes ∙ take_at p.word p.rest (length p.word) refl

-- what a piece in a text is found as, and that it isn't empty
record InFound (text : List ℕ) (kind : Option TokenKind) (at end : ℕ) : Type 0 where
  room : at < length text
  found : begun_at text at ≡ Ok (record { kind = kind; end = end })

in_found : (text : List ℕ) (kind : Option TokenKind) (at end : ℕ) → PieceIn text kind at end → InFound text kind at end
in_found text kind at end p =
    let h = begun_only (begins_line text at) at kind p.word p.rest p.is in
    let cells : drop at text ≡ h.first ∷ (h.rest ++ p.rest) = p.bytes ∙ ap (λ (w : List ℕ). w ++ p.rest) h.bytes in
    let lens : length (drop at text) ≡ suc (length (h.rest ++ p.rest)) = ap length cells in
    let room : at < length text = omega (arith, length-drop at text) in
    let both : get_or text at 0 ∷ drop (at + 1) text ≡ h.first ∷ (h.rest ++ p.rest) = sym (drop_more text at 0 room) ∙ cells in
    let first : get_or text at 0 ≡ h.first = cc in
    let rest : drop (at + 1) text ≡ h.rest ++ p.rest = cc in
    record {
      room = room;
      found = ap (λ b. begun (begins_line text at) at b (drop (at + 1) text)) first ∙ ap (begun (begins_line text at) at h.first) rest ∙ h.found ∙ ap (λ n. Ok (record { kind = kind; end = n })) (sym p.ends);
    }

-- ---- a place

abbrev done : Piece → Result Piece LexFault
done piece = Ok piece

abbrev failed : LexFault → Result Piece LexFault
failed fault = Err fault

ok_is : (x y : Piece) → done x ≡ done y → x ≡ y
ok_is x y e = cc

err_is : (x y : LexFault) → failed x ≡ failed y → x ≡ y
err_is x y e = cc

utf8_ok : (text : List ℕ) (at : ℕ) (piece : Piece) (r : Result Piece LexFault) → at < length text → r ≡ begun_at text at → in_utf8 at (drop at text) r ≡ done piece → SoundIn text piece.kind at piece.end
unfolding in_utf8
utf8_ok text at piece (Err fault) lt e f = absurd cc
utf8_ok text at piece (Ok made) lt e f =
    elim (cases_Bool (is_utf8 (take (made.end - at) (drop at text)))) [
      | inl is ↦
          let same : made ≡ piece = ok_is made piece (rw is at f) in
          let p = piece_in text at made lt (sym e) in
          let s : SoundIn text made.kind at made.end = record { piece = p; utf8 = ap is_utf8 (sym (piece_word text made.kind at made.end p)) ∙ is } in
          subst (λ (x : Piece). SoundIn text x.kind at x.end) same s
      | inr isnt ↦ absurd (let k : failed (BadByte at) ≡ done piece = rw isnt at f in cc)
    ]

-- no piece stands where a fault is found
none_stands : (text : List ℕ) (at : ℕ) (fault : LexFault) → failed fault ≡ begun_at text at → Nothing text at
none_stands text at fault e kind end p = let k : failed fault ≡ done (record { kind = kind; end = end }) = e ∙ (in_found text kind at end p).found in cc

fault_is : (text : List ℕ) (at : ℕ) (fault : LexFault) → at < length text → failed fault ≡ begun_at text at → (place_of fault ≡ at) × Fails text fault
fault_is text at (Unclosed place) lt e =
    let h : IsFaultAt at (opens_here (get_or text at 0 ∷ drop (at + 1) text)) (failed (Unclosed place)) = subst (IsFaultAt at (opens_here (get_or text at 0 ∷ drop (at + 1) text))) (sym e) (begun_fault (begins_line text at) at (get_or text at 0) (drop (at + 1) text)) in
    let opens = ap opens_here (drop_more text at 0 lt) ∙ h.1 in
    (h.0, subst (λ k. Fails text (Unclosed k)) (sym h.0) (lt, opens, none_stands text at (Unclosed place) e))
fault_is text at (BadByte place) lt e =
    let h : IsFaultAt at (opens_here (get_or text at 0 ∷ drop (at + 1) text)) (failed (BadByte place)) = subst (IsFaultAt at (opens_here (get_or text at 0 ∷ drop (at + 1) text))) (sym e) (begun_fault (begins_line text at) at (get_or text at 0) (drop (at + 1) text)) in
    let opens = ap opens_here (drop_more text at 0 lt) ∙ h.1 in
    (h.0, subst (λ k. Fails text (BadByte k)) (sym h.0) (lt, inl (opens, none_stands text at (BadByte place) e)))

utf8_err : (text : List ℕ) (at : ℕ) (fault : LexFault) (r : Result Piece LexFault) → at < length text → r ≡ begun_at text at → in_utf8 at (drop at text) r ≡ failed fault → (place_of fault ≡ at) × Fails text fault
unfolding in_utf8
utf8_err text at fault (Err other) lt e f =
    let same : other ≡ fault = err_is other fault f in
    fault_is text at fault lt (ap failed (sym same) ∙ e)
utf8_err text at fault (Ok made) lt e f =
    elim (cases_Bool (is_utf8 (take (made.end - at) (drop at text)))) [
      | inl is ↦ absurd (let k : done made ≡ failed fault = rw is at f in cc)
      | inr isnt ↦
          let same : BadByte at ≡ fault = err_is (BadByte at) fault (rw isnt at f) in
          let p = piece_in text at made lt (sym e) in
          subst (λ (x : LexFault). (place_of x ≡ at) × Fails text x) same (refl, (lt, inr (made.kind, made.end, p, ap is_utf8 (sym (piece_word text made.kind at made.end p)) ∙ isnt)))
    ]

place_ok : (text : List ℕ) (at : ℕ) (piece : Piece) → at < length text → piece_at text at ≡ done piece → SoundIn text piece.kind at piece.end
unfolding piece_at
place_ok text at piece lt e = utf8_ok text at piece (begun_at text at) lt refl e

place_err : (text : List ℕ) (at : ℕ) (fault : LexFault) → at < length text → piece_at text at ≡ failed fault → (place_of fault ≡ at) × Fails text fault
unfolding piece_at
place_err text at fault lt e = utf8_err text at fault (begun_at text at) lt refl e

-- the same the other way
ok_place : (text : List ℕ) (kind : Option TokenKind) (at end : ℕ) → SoundIn text kind at end → piece_at text at ≡ done (record { kind = kind; end = end })
unfolding piece_at in_utf8
ok_place text kind at end s =
    let h = in_found text kind at end s.piece in
    let utf8 : is_utf8 (take (end - at) (drop at text)) ≡ true = ap is_utf8 (piece_word text kind at end s.piece) ∙ s.utf8 in
    rw h.found (rw utf8 refl)

bad_place : (text : List ℕ) (kind : Option TokenKind) (at end : ℕ) (p : PieceIn text kind at end) → is_utf8 p.word ≡ false → piece_at text at ≡ failed (BadByte at)
unfolding piece_at in_utf8
bad_place text kind at end p bad =
    let h = in_found text kind at end p in
    let utf8 : is_utf8 (take (end - at) (drop at text)) ≡ false = ap is_utf8 (piece_word text kind at end p) ∙ bad in
    rw h.found (rw utf8 refl)

piece_is : (text : List ℕ) (at : ℕ) (r : Result Piece LexFault) → r ≡ begun_at text at → piece_at text at ≡ in_utf8 at (drop at text) r
unfolding piece_at
piece_is text at r e = ap (in_utf8 at (drop at text)) (sym e)

nothing_fails : (text : List ℕ) (at : ℕ) (opens_now : Bool) (r : Result Piece LexFault) → at < length text → r ≡ begun_at text at → Nothing text at → opens_here (drop at text) ≡ opens_now
    → in_utf8 at (drop at text) r ≡ cond opens_now (failed (Unclosed at)) (failed (BadByte at))
unfolding in_utf8
nothing_fails text at opens_now (Ok piece) lt e none o = absurd (none piece.kind piece.end (piece_in text at piece lt (sym e)))
nothing_fails text at opens_now (Err (Unclosed place)) lt e none o =
    let h : IsFaultAt at (opens_here (get_or text at 0 ∷ drop (at + 1) text)) (failed (Unclosed place)) = subst (IsFaultAt at (opens_here (get_or text at 0 ∷ drop (at + 1) text))) (sym e) (begun_fault (begins_line text at) at (get_or text at 0) (drop (at + 1) text)) in
    let t : opens_now ≡ true = sym o ∙ ap opens_here (drop_more text at 0 lt) ∙ h.1 in
    ap (λ k. failed (Unclosed k)) h.0 ∙ ap (λ b. cond b (failed (Unclosed at)) (failed (BadByte at))) (sym t)
nothing_fails text at opens_now (Err (BadByte place)) lt e none o =
    let h : IsFaultAt at (opens_here (get_or text at 0 ∷ drop (at + 1) text)) (failed (BadByte place)) = subst (IsFaultAt at (opens_here (get_or text at 0 ∷ drop (at + 1) text))) (sym e) (begun_fault (begins_line text at) at (get_or text at 0) (drop (at + 1) text)) in
    let t : opens_now ≡ false = sym o ∙ ap opens_here (drop_more text at 0 lt) ∙ h.1 in
    ap (λ k. failed (BadByte k)) h.0 ∙ ap (λ b. cond b (failed (Unclosed at)) (failed (BadByte at))) (sym t)

err_place : (text : List ℕ) (fault : LexFault) → Fails text fault → (place_of fault < length text) × (piece_at text (place_of fault) ≡ failed fault)
err_place text (Unclosed at) (lt, opens, none) = (lt, piece_is text at (begun_at text at) refl ∙ nothing_fails text at true (begun_at text at) lt refl none opens)
err_place text (BadByte at) (lt, inl (opens, none)) = (lt, piece_is text at (begun_at text at) refl ∙ nothing_fails text at false (begun_at text at) lt refl none opens)
err_place text (BadByte at) (lt, inr (kind, end, p, bad)) = (lt, bad_place text kind at end p bad)

-- ---- behind a place

next_gap : (text : List ℕ) (at end : ℕ) (r : Result (Option Token) LexFault) → SoundIn text None at end → IsNext text end r → IsNext text at r
next_gap text at end (Ok None) s h = gap at end (length text) s h
next_gap text at end (Ok (Some t)) s h = (gap at end t.start s h.0, h.1, h.2)
next_gap text at end (Err (Unclosed place)) s h = (gap at end place s h.0, h.1)
next_gap text at end (Err (BadByte place)) s h = (gap at end place s h.0, h.1)

next_here : (text : List ℕ) (at : ℕ) (fault : LexFault) → place_of fault ≡ at → Fails text fault → IsNext text at (Err fault)
next_here text at (Unclosed place) e h = (subst (λ k. Between text k place) e (nothing place), h)
next_here text at (BadByte place) e h = (subst (λ k. Between text k place) e (nothing place), h)

abbrev from_piece : ℕ → List ℕ → ℕ → Result Piece LexFault → Result (Option Token) LexFault
from_piece n text at r = r >>= λ piece. or_later (next_within n text) at piece.end piece.kind

next_kind : (n : ℕ) (text : List ℕ) (at end : ℕ) (kind : Option TokenKind) → at < length text → SoundIn text kind at end → (kind ≡ None → IsNext text end (next_within n text end)) → IsNext text at (or_later (next_within n text) at end kind)
next_kind n text at end None lt s h = next_gap text at end (next_within n text end) s (h refl)
next_kind n text at end (Some kind) lt s h = (nothing at, lt, s)

next_piece : (n : ℕ) (text : List ℕ) (at : ℕ) (r : Result Piece LexFault) → at < length text → piece_at text at ≡ r → ((end : ℕ) → at < end → end ≤ length text → IsNext text end (next_within n text end)) → IsNext text at (from_piece n text at r)
next_piece n text at (Ok piece) lt e later =
    let end = piece_ok text at piece lt (sym e) in
    next_kind n text at piece.end piece.kind lt (place_ok text at piece lt e) (λ _. later piece.end end.0 end.1)
next_piece n text at (Err fault) lt e later = let h = place_err text at fault lt e in next_here text at fault h.0 h.1

within_found : (n : ℕ) (text : List ℕ) (at : ℕ) → at ≤ length text → length text - at ≤ n → IsNext text at (next_within n text at)
within_found zero text at le few = subst (IsNext text at) (sym (at_end zero text at (omega arith))) (let e : at ≡ length text = omega arith in subst (λ k. Between text at k) e (nothing at))
within_found (suc n) text at le few =
    elim (cases_lt at (length text)) [
      | inl lt ↦ subst (IsNext text at) (sym (one_piece n text at (piece_at text at) lt refl)) (next_piece n text at (piece_at text at) lt refl (λ end low high. within_found n text end high (omega arith)))
      | inr ge ↦ subst (IsNext text at) (sym (at_end (suc n) text at (omega arith))) (let e : at ≡ length text = omega arith in subst (λ k. Between text at k) e (nothing at))
    ]

-- what is found is due
pub next_found : (text : List ℕ) (at : ℕ) → at ≤ length text → IsNext text at (next_token_of text at)
unfolding next_token_of
next_found text at le = within_found (length text - at) text at le (omega arith)

-- white space and comments make no difference
between_same : (text : List ℕ) {at to : ℕ} → Between text at to → next_token_of text at ≡ next_token_of text to
between_same text (nothing at) = refl
between_same text (gap at end to s more) =
    let h = in_found text None at end s.piece in
    next_at_gap text at (record { kind = None; end = end }) h.room (sym (ok_place text None at end s)) refl ∙ between_same text more

-- what is due is found
pub next_only : (text : List ℕ) (at : ℕ) (r : Result (Option Token) LexFault) → IsNext text at r → next_token_of text at ≡ r
next_only text at (Ok None) h = between_same text h ∙ next_at_end text (length text) refl
next_only text at (Ok (Some t)) h = between_same text h.0 ∙ next_at_token text t.start (record { kind = Some t.kind; end = t.end }) t.kind h.1 (sym (ok_place text (Some t.kind) t.start t.end h.2)) refl
next_only text at (Err (Unclosed place)) h = let e = err_place text (Unclosed place) h.1 in between_same text h.0 ∙ next_at_fault text place (Unclosed place) e.0 (sym e.1)
next_only text at (Err (BadByte place)) h = let e = err_place text (BadByte place) h.1 in between_same text h.0 ∙ next_at_fault text place (BadByte place) e.0 (sym e.1)

pub sound_room : (text : List ℕ) (kind : Option TokenKind) (at end : ℕ) → SoundIn text kind at end → at < length text
sound_room text kind at end s = (in_found text kind at end s.piece).room

pub gap_same : (text : List ℕ) (at end : ℕ) → SoundIn text None at end → next_token_of text at ≡ next_token_of text end
gap_same text at end s = between_same text (gap at end end s (nothing end))

-- ---- the tokens of a text

-- ---- the tokens of a text

abbrev list_done : List Token → Result (List Token) LexFault
list_done ts = Ok ts

abbrev list_failed : LexFault → Result (List Token) LexFault
list_failed fault = Err fault

list_is : (xs ys : List Token) → list_done xs ≡ list_done ys → xs ≡ ys
list_is xs ys e = cc

fault_same : (x y : LexFault) → list_failed x ≡ list_failed y → x ≡ y
fault_same x y e = cc

one_more : (text : List ℕ) (at : ℕ) (t : Token) (ts : List Token) (r : Result (List Token) LexFault) → next_token_of text at ≡ Ok (Some t) → (r >>= λ more. Ok (t ∷ more)) ≡ list_done ts → ((more : List Token) → r ≡ list_done more → AreTokens text t.end more) → AreTokens text at ts
one_more text at t ts (Ok more) e f later = subst (AreTokens text at) (list_is (t ∷ more) ts f) (e, later more refl)
one_more text at t ts (Err fault) e f later = absurd cc

by_first : (later : ℕ → Result (List Token) LexFault) (text : List ℕ) (at : ℕ) (ts : List Token) (r : Result (Option Token) LexFault) → next_token_of text at ≡ r → (r >>= listed later) ≡ list_done ts
    → ((t : Token) (more : List Token) → next_token_of text at ≡ Ok (Some t) → later t.end ≡ list_done more → AreTokens text t.end more) → AreTokens text at ts
by_first later text at ts (Ok None) e f more = subst (AreTokens text at) (list_is [] ts f) e
by_first later text at ts (Ok (Some t)) e f more = one_more text at t ts (later t.end) e f (λ us. more t us e)
by_first later text at ts (Err fault) e f more = absurd cc

pub tokens_found : (n : ℕ) (text : List ℕ) (at : ℕ) (ts : List Token) → at ≤ length text → length text - at ≤ n → tokens_within n text at ≡ list_done ts → AreTokens text at ts
unfolding tokens_within
tokens_found zero text at ts le few e = subst (AreTokens text at) (list_is [] ts e) (next_at_end text at (omega arith))
tokens_found (suc n) text at ts le few e = by_first (tokens_within n text) text at ts (next_token_of text at) refl e (λ t more is f.
    let lies = lies_behind text at (Ok (Some t)) le (sym is) in
    tokens_found n text t.end more lies.2 (omega (arith, lies.0, lies.1)) f)

fails_more : (text : List ℕ) (at : ℕ) (t : Token) (fault : LexFault) (r : Result (List Token) LexFault) → next_token_of text at ≡ Ok (Some t) → (r >>= λ more. Ok (t ∷ more)) ≡ list_failed fault
    → (r ≡ list_failed fault → (ts : List Token) × AreTokensBefore fault text t.end ts) → (ts : List Token) × AreTokensBefore fault text at ts
fails_more text at t fault (Ok more) e f later = absurd cc
fails_more text at t fault (Err other) e f later = let h = later f in (t ∷ h.0, (e, h.1))

fails_first : (later : ℕ → Result (List Token) LexFault) (text : List ℕ) (at : ℕ) (fault : LexFault) (r : Result (Option Token) LexFault) → next_token_of text at ≡ r → (r >>= listed later) ≡ list_failed fault
    → ((t : Token) → next_token_of text at ≡ Ok (Some t) → later t.end ≡ list_failed fault → (ts : List Token) × AreTokensBefore fault text t.end ts) → (ts : List Token) × AreTokensBefore fault text at ts
fails_first later text at fault (Ok None) e f more = absurd cc
fails_first later text at fault (Ok (Some t)) e f more = fails_more text at t fault (later t.end) e f (more t e)
fails_first later text at fault (Err other) e f more = ([], e ∙ ap (λ (x : LexFault). Err x) (fault_same other fault f))

pub fault_found : (n : ℕ) (text : List ℕ) (at : ℕ) (fault : LexFault) → at ≤ length text → length text - at ≤ n → tokens_within n text at ≡ list_failed fault → (ts : List Token) × AreTokensBefore fault text at ts
unfolding tokens_within
fault_found zero text at fault le few e = absurd cc
fault_found (suc n) text at fault le few e = fails_first (tokens_within n text) text at fault (next_token_of text at) refl e (λ t is f.
    let lies = lies_behind text at (Ok (Some t)) le (sym is) in
    fault_found n text t.end fault lies.2 (omega (arith, lies.0, lies.1)) f)

pub tokens_are : (text : List ℕ) (ts : List Token) → (tokens_of text ≡ list_done ts) ↔ AreTokens text 0 ts
unfolding tokens_of
tokens_are text ts = (tokens_found (length text) text 0 ts (omega arith) (omega arith), are_listed (length text) text 0 ts (omega arith) (omega arith))

pub tokens_fail : (text : List ℕ) (fault : LexFault) → (tokens_of text ≡ list_failed fault) ↔ ((ts : List Token) × AreTokensBefore fault text 0 ts)
unfolding tokens_of
tokens_fail text fault = (fault_found (length text) text 0 fault (omega arith) (omega arith), λ h. are_failed (length text) text 0 fault h.0 (omega arith) (omega arith) h.1)

pub sound_found : (text : List ℕ) (kind : Option TokenKind) (at end : ℕ) → SoundIn text kind at end → begun (begins_line text at) at (get_or text at 0) (drop (at + 1) text) ≡ Ok (record { kind = kind; end = end })
sound_found text kind at end s = (in_found text kind at end s.piece).found

-- ---- where tokens lie

lie_in : (text : List ℕ) (at : ℕ) (ts : List Token) → at ≤ length text → AreTokens text at ts → AllByRecursion (LiesIn text) ts
lie_in text at [] le h = tt
lie_in text at (t ∷ ts) le h =
    let lies = lies_behind text at (Ok (Some t)) le (sym h.0) in
    ((lies.1, lies.2), lie_in text t.end ts lies.2 h.1)

pub all_lie_in : (text : List ℕ) (ts : List Token) → tokens_of text ≡ Ok ts → All (LiesIn text) ts
all_lie_in text ts e = All-from_recursion (LiesIn text) ts (lie_in text 0 ts (omega arith) ((tokens_are text ts).0 e))

in_order : (text : List ℕ) (at : ℕ) (ts : List Token) → at ≤ length text → AreTokens text at ts → AreInOrder at ts
in_order text at [] le h = tt
in_order text at (t ∷ ts) le h =
    let lies = lies_behind text at (Ok (Some t)) le (sym h.0) in
    (lies.0, lies.1, in_order text t.end ts lies.2 h.1)

pub all_in_order : (text : List ℕ) (ts : List Token) → tokens_of text ≡ Ok ts → AreInOrder 0 ts
all_in_order text ts e = in_order text 0 ts (omega arith) ((tokens_are text ts).0 e)
