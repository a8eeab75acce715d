-- No longer front of what stands at a place spells a token than the one that is found.
use Rattle.std.proofs.Common.{◌≡◌, ℕ, ◌+◌, ◌≤◌, Bool, true, false, ◌&&◌, List, [], ◌∷◌, ◌++◌, append_assoc, length, length-append, get_or, drop, Option, Some, Result, Ok, refl, sym, ap, subst, ◌∙◌, inl, inr, arith}
use Rattle.std.specs.Prelude.{◌==◌, IfSome}
use Rattle.std.specs.List.{prefix_len, list_all}
use Rattle.std.proofs.lemmas.Bool.{cases_Bool, eqb-true, eq-eqb, and_parts}
use Rattle.std.proofs.lemmas.List.{drop_at, drop_more}
use Rattle.sql_lex.specs.declared.fault.LexFault.{LexFault}
use Rattle.sql_lex.specs.declared.token.TokenKind.{TokenKind}
use Rattle.sql_lex.specs.declared.token.TokenKind.TheVariants.{Word, QuotedName, Literal, Number, Sign, MetaLine}
use Rattle.sql_lex.specs.declared.token.Token.{Token}
use Rattle.sql_lex.specs.declared.piece.Piece.{Piece}
use Rattle.sql_lex.specs.Bytes.{is_blank, is_digit, begins_word, in_word, is_sign, marks_escapes, in_line, next_is}
use Rattle.sql_lex.specs.Ends.{run_end, quote_end, escape_end, fraction_end, number_end}
use Rattle.sql_lex.specs.Pieces.{begins_line, closed, begun}
use Rattle.sql_lex.specs.Next.{next_token_of}
use Rattle.sql_lex.specs.Written.{doubled, quoted}
use Rattle.sql_lex.specs.Spelling.{Spells, IsWord, AreDigits, IsEscapedText, none, plain, quote, taken}
use Rattle.sql_lex.specs.Answers.{SoundIn, IsNext}
use Rattle.sql_lex.proofs.Bounds.{IsWithin, quote_within, escape_within, fraction_within, begun_within, IsSound}
use Rattle.sql_lex.proofs.EndLaws.{run_only, doubled_plain, doubled_quote}
use Rattle.sql_lex.proofs.PieceLaws.{closed_ok, word_free, quote_no_word, digit_free, begun_34, begun_39, begun_mark, begun_92, quoted_is}
use Rattle.sql_lex.proofs.TextLaws.{next_found, sound_found, sound_room}

abbrev done : Piece → Result Piece LexFault
done piece = Ok piece

ok_is : (x y : Piece) → done x ≡ done y → x ≡ y
ok_is x y e = cc

-- ---- ends

run_reaches : (p : ℕ → Bool) (run rest : List ℕ) → list_all p run ≡ true → length run ≤ prefix_len p (run ++ rest)
run_reaches p [] rest e = omega arith
run_reaches p (b ∷ run) rest e =
    let parts = and_parts (p b) (list_all p run) e in
    let more = run_reaches p run rest parts.1 in
    rw parts.0 (omega arith)

run_end_reaches : (p : ℕ → Bool) (at : ℕ) (run rest : List ℕ) → list_all p run ≡ true → at + length run ≤ run_end p at (run ++ rest)
unfolding run_end
run_end_reaches p at run rest e = let more = run_reaches p run rest e in omega arith

quote_reaches : (q at : ℕ) (text more : List ℕ) → quote_end q true at (doubled q text ++ (q ∷ more)) ≡ quote_end q false (at + length (doubled q text) + 1) more
unfolding quote_end doubled
quote_reaches q at [] more = rw (eq-eqb q q refl) (ap (λ k. quote_end q false k more) (omega arith))
quote_reaches q at (b ∷ text) more =
    elim (cases_Bool (b == q)) [
      | inl is ↦ let two = doubled_quote q b text (eqb-true b q is) in
          let len = ap length two in
          ap (λ (r : List ℕ). quote_end q true at (r ++ (q ∷ more))) two ∙ rw (is, eq-eqb q q refl) (quote_reaches q (at + 1 + 1) text more ∙ ap (λ k. quote_end q false k more) (omega arith))
      | inr isnt ↦ let one = doubled_plain q b text isnt in
          let len = ap length one in
          ap (λ (r : List ℕ). quote_end q true at (r ++ (q ∷ more))) one ∙ rw isnt (quote_reaches q (at + 1) text more ∙ ap (λ k. quote_end q false k more) (omega arith))
    ]

escape_reaches : (at : ℕ) {text : List ℕ} (more : List ℕ) → IsEscapedText text → escape_end false true at (text ++ (39 ∷ more)) ≡ escape_end false false (at + length text + 1) more
unfolding escape_end
escape_reaches at more none = ap (λ k. escape_end false false k more) (omega arith)
escape_reaches at more (plain b f g h) = rw (f, g) (escape_reaches (at + 1) more h ∙ ap (λ k. escape_end false false k more) (omega arith))
escape_reaches at more (quote h) = escape_reaches (at + 1 + 1) more h ∙ ap (λ k. escape_end false false k more) (omega arith)
escape_reaches at more (taken b h) = escape_reaches (at + 1 + 1) more h ∙ ap (λ k. escape_end false false k more) (omega arith)

some_within : (low high end : ℕ) (o : Option ℕ) → o ≡ Some end → IfSome o (IsWithin low high) → low ≤ end
some_within low high end o e h = let k : IsWithin low high end = subst (λ x. IfSome x (IsWithin low high)) e h in k.low

-- ---- kinds

closed_reaches : (kind : Option TokenKind) (at low high : ℕ) (o : Option ℕ) (piece : Piece) → closed kind at o ≡ done piece → IfSome o (IsWithin low high) → low ≤ piece.end
closed_reaches kind at low high o piece e h =
    let c = closed_ok kind at o piece e in
    let low_end = some_within low high c.0 o c.1 h in
    let is : piece.end ≡ c.0 = ap (λ (x : Piece). x.end) c.2 in
    omega arith

pub record Reaches (at_line : Bool) (at : ℕ) (word more : List ℕ) : Type 0 where
  pub first : ℕ
  pub rest : List ℕ
  pub bytes : word ≡ first ∷ rest
  pub reaches : (piece : Piece) → begun at_line at first (rest ++ more) ≡ done piece → at + length word ≤ piece.end

word_alone : (run more : List ℕ) → list_all in_word run ≡ true → next_is (λ c. c == 39) (run ++ more) ≡ true → run ≡ []
unfolding next_is
word_alone [] more a e = refl
word_alone (c ∷ run) more a e = absurd (let t : true ≡ false = sym (and_parts (in_word c) (list_all in_word run) a).0 ∙ quote_no_word c e in cc)

word_reaches : (at_line : Bool) (at : ℕ) (word more : List ℕ) → IsWord word → Reaches at_line at word more
unfolding begun
word_reaches at_line at [] more h = absurd h
word_reaches at_line at (b ∷ run) more h = record {
  first = b;
  rest = run;
  bytes = refl;
  reaches = λ piece e.
      elim (cases_Bool (marks_escapes b && next_is (λ c. c == 39) (run ++ more))) [
        | inl is ↦
            let none_more = ap length (word_alone run more h.1 (and_parts (marks_escapes b) (next_is (λ c. c == 39) (run ++ more)) is).1) in
            let far : at + 2 ≤ piece.end = closed_reaches (Some Literal) at (at + 2) _ _ piece (rw (word_free b h.0, is) at e) (escape_within false true (at + 2) (drop 1 (run ++ more))) in
            omega arith
        | inr isnt ↦
            let is : record { kind = Some Word; end = run_end in_word (at + 1) (run ++ more) } ≡ piece = ok_is _ piece (rw (word_free b h.0, isnt, h.0) at e) in
            let same : run_end in_word (at + 1) (run ++ more) ≡ piece.end = ap (λ (x : Piece). x.end) is in
            let far = run_end_reaches in_word (at + 1) run more h.1 in
            omega arith
      ];
}

quoted_reaches : (q at : ℕ) (text more : List ℕ) (piece : Piece) (kind : Option TokenKind) → closed kind at (quote_end q true (at + 1) ((doubled q text ++ q ∷ []) ++ more)) ≡ done piece → at + length (quoted q text) ≤ piece.end
unfolding quoted
quoted_reaches q at text more piece kind e =
    let len = length-append (doubled q text) (q ∷ []) in
    let place : quote_end q true (at + 1) ((doubled q text ++ q ∷ []) ++ more) ≡ quote_end q false (at + 1 + length (doubled q text) + 1) more =
    ap (quote_end q true (at + 1)) (append_assoc (doubled q text) (q ∷ []) more) ∙ quote_reaches q (at + 1) text more in
    let far : at + 1 + length (doubled q text) + 1 ≤ piece.end = closed_reaches kind at _ _ _ piece (ap (closed kind at) (sym place) ∙ e) (quote_within q false (at + 1 + length (doubled q text) + 1) more) in
    omega arith

name_reaches : (at_line : Bool) (at : ℕ) (text more : List ℕ) → Reaches at_line at (quoted 34 text) more
name_reaches at_line at text more = record { first = 34; rest = doubled 34 text ++ 34 ∷ []; bytes = quoted_is 34 text; reaches = λ piece e. quoted_reaches 34 at text more piece (Some QuotedName) (sym (begun_34 at_line at _) ∙ e) }

literal_reaches : (at_line : Bool) (at : ℕ) (text more : List ℕ) → Reaches at_line at (quoted 39 text) more
literal_reaches at_line at text more = record { first = 39; rest = doubled 39 text ++ 39 ∷ []; bytes = quoted_is 39 text; reaches = λ piece e. quoted_reaches 39 at text more piece (Some Literal) (sym (begun_39 at_line at _) ∙ e) }

escaped_reaches : (at_line : Bool) (at mark : ℕ) (text more : List ℕ) → marks_escapes mark ≡ true → IsEscapedText text → Reaches at_line at (mark ∷ 39 ∷ (text ++ 39 ∷ [])) more
escaped_reaches at_line at mark text more m h = record {
  first = mark;
  rest = 39 ∷ (text ++ 39 ∷ []);
  bytes = refl;
  reaches = λ piece e.
      let len = length-append text (39 ∷ []) in
      let place : escape_end false true (at + 2) ((text ++ 39 ∷ []) ++ more) ≡ escape_end false false (at + 2 + length text + 1) more =
      ap (escape_end false true (at + 2)) (append_assoc text (39 ∷ []) more) ∙ escape_reaches (at + 2) more h in
      let far : at + 2 + length text + 1 ≤ piece.end = closed_reaches (Some Literal) at _ _ _ piece (ap (closed (Some Literal) at) (sym place) ∙ sym (begun_mark at_line at mark ((text ++ 39 ∷ []) ++ more) m) ∙ e) (escape_within false false (at + 2 + length text + 1) more) in
      omega arith;
}

meta_reaches : (at_line : Bool) (at : ℕ) (line more : List ℕ) → list_all in_line line ≡ true → Reaches at_line at (92 ∷ line) more
unfolding begun is_blank marks_escapes begins_word is_digit is_sign
meta_reaches true at line more a = record {
  first = 92;
  rest = line;
  bytes = refl;
  reaches = λ piece e.
      let is = ok_is _ piece (sym (begun_92 at (line ++ more)) ∙ e) in
      let same : run_end in_line (at + 1) (line ++ more) ≡ piece.end = ap (λ (x : Piece). x.end) is in
      let far = run_end_reaches in_line (at + 1) line more a in
      omega arith;
}
meta_reaches false at line more a = record { first = 92; rest = line; bytes = refl; reaches = λ piece e. absurd cc }

number_from : (at b : ℕ) (at_line : Bool) (tail : List ℕ) (piece : Piece) → is_digit b ≡ true → begun at_line at b tail ≡ done piece → number_end (at + 1) tail ≡ piece.end
unfolding begun
number_from at b at_line tail piece digit e =
    let free = digit_free b digit in
    let is : record { kind = Some Number; end = number_end (at + 1) tail } ≡ piece = ok_is _ piece (rw (free.0, free.1.0, free.1.1, digit) at e) in
    ap (λ (x : Piece). x.end) is

digits_reach : (at_line : Bool) (at : ℕ) (word more : List ℕ) → AreDigits word → Reaches at_line at word more
unfolding number_end
digits_reach at_line at [] more h = absurd (omega (arith, h.0))
digits_reach at_line at (b ∷ run) more h =
    let parts = and_parts (is_digit b) (list_all is_digit run) h.1 in
    record {
      first = b;
      rest = run;
      bytes = refl;
      reaches = λ piece e.
          let n = prefix_len is_digit (run ++ more) in
          let end = number_from at b at_line (run ++ more) piece parts.0 e in
          let far = run_reaches is_digit run more parts.1 in
          let low = (fraction_within (at + 1 + n) (drop n (run ++ more))).low in
          omega arith;
    }

parts_reach : (at_line : Bool) (at : ℕ) (whole parts more : List ℕ) → AreDigits whole → AreDigits parts → Reaches at_line at (whole ++ (46 ∷ parts)) more
unfolding number_end fraction_end is_digit next_is
parts_reach at_line at [] parts more h g = absurd (omega (arith, h.0))
parts_reach at_line at (b ∷ whole) [] more h g = absurd (omega (arith, g.0))
parts_reach at_line at (b ∷ whole) (d ∷ parts) more h g =
    let first = and_parts (is_digit b) (list_all is_digit whole) h.1 in
    let second = and_parts (is_digit d) (list_all is_digit parts) g.1 in
    let tail : List ℕ = 46 ∷ d ∷ (parts ++ more) in
    let n : prefix_len is_digit (whole ++ tail) ≡ length whole = run_only is_digit whole tail first.1 refl in
    let joined : (whole ++ (46 ∷ d ∷ parts)) ++ more ≡ whole ++ tail = append_assoc whole (46 ∷ d ∷ parts) more in
    let sum : length (whole ++ (46 ∷ d ∷ parts)) ≡ length whole + length (46 ∷ d ∷ parts) = length-append whole (46 ∷ d ∷ parts) in
    let end_is : number_end (at + 1) ((whole ++ (46 ∷ d ∷ parts)) ++ more) ≡ run_end is_digit (at + 1 + length whole + 2) (parts ++ more) =
    ap (number_end (at + 1)) joined ∙ rw (n, drop_at whole tail (length whole) refl, second.0) refl in
    record {
      first = b;
      rest = whole ++ (46 ∷ d ∷ parts);
      bytes = refl;
      reaches = λ piece e.
          let end = sym end_is ∙ number_from at b at_line ((whole ++ (46 ∷ d ∷ parts)) ++ more) piece first.0 e in
          let far = run_end_reaches is_digit (at + 1 + length whole + 2) parts more second.1 in
          omega arith;
    }

sign_reaches : (at_line : Bool) (at b : ℕ) (more : List ℕ) → Reaches at_line at (b ∷ []) more
sign_reaches at_line at b more = record {
  first = b;
  rest = [];
  bytes = refl;
  reaches = λ piece e. let h : IsSound at (at + 1 + length more) (done piece) = subst (IsSound at (at + 1 + length more)) e (begun_within at_line at b more) in let low = h.low in omega arith;
}

as_bytes : (at_line : Bool) (at : ℕ) (word spelled more : List ℕ) → word ≡ spelled → Reaches at_line at spelled more → Reaches at_line at word more
as_bytes at_line at word spelled more e h = subst (λ (w : List ℕ). Reaches at_line at w more) (sym e) h

spelling_reaches : (at_line : Bool) (at : ℕ) (kind : TokenKind) (word more : List ℕ) → Spells kind word → Reaches at_line at word more
spelling_reaches at_line at Word word more h = word_reaches at_line at word more h
spelling_reaches at_line at QuotedName word more (text, is) = as_bytes at_line at word (quoted 34 text) more is (name_reaches at_line at text more)
spelling_reaches at_line at Literal word more (inl (text, is)) = as_bytes at_line at word (quoted 39 text) more is (literal_reaches at_line at text more)
spelling_reaches at_line at Literal word more (inr (mark, text, m, h, is)) = as_bytes at_line at word (mark ∷ 39 ∷ (text ++ 39 ∷ [])) more is (escaped_reaches at_line at mark text more m h)
spelling_reaches at_line at Number word more (inl h) = digits_reach at_line at word more h
spelling_reaches at_line at Number word more (inr (whole, parts, h, g, is)) = as_bytes at_line at word (whole ++ (46 ∷ parts)) more is (parts_reach at_line at whole parts more h g)
spelling_reaches at_line at (Sign b) word more (s, is) = as_bytes at_line at word (b ∷ []) more is (sign_reaches at_line at b more)
spelling_reaches at_line at MetaLine word more (line, a, is) = as_bytes at_line at word (92 ∷ line) more is (meta_reaches at_line at line more a)

-- ---- a text

piece_longest : (text : List ℕ) (kind other : TokenKind) (at end : ℕ) (word more : List ℕ) → SoundIn text (Some kind) at end → drop at text ≡ word ++ more → Spells other word → at + length word ≤ end
piece_longest text kind other at end word more s e h =
    let r = spelling_reaches (begins_line text at) at other word more h in
    let room = sound_room text (Some kind) at end s in
    let cells : get_or text at 0 ∷ drop (at + 1) text ≡ r.first ∷ (r.rest ++ more) = sym (drop_more text at 0 room) ∙ e ∙ ap (λ (w : List ℕ). w ++ more) r.bytes in
    let first : get_or text at 0 ≡ r.first = cc in
    let rest : drop (at + 1) text ≡ r.rest ++ more = cc in
    r.reaches (record { kind = Some kind; end = end })
    (ap (begun (begins_line text at) at r.first) (sym rest) ∙ ap (λ b. begun (begins_line text at) at b (drop (at + 1) text)) (sym first) ∙ sound_found text (Some kind) at end s)

pub longest : (text : List ℕ) (at : ℕ) (t : Token) → at ≤ length text → next_token_of text at ≡ Ok (Some t) → (kind : TokenKind) (word rest : List ℕ) → drop t.start text ≡ word ++ rest → Spells kind word → t.start + length word ≤ t.end
longest text at t le e kind word rest bytes h =
    let found : IsNext text at (Ok (Some t)) = subst (IsNext text at) e (next_found text at le) in
    piece_longest text t.kind kind t.start t.end word rest found.2 bytes h
