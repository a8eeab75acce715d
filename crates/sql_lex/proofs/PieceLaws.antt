-- What is found at a place is what stands there, and what stands there is found.
use Rattle.std.proofs.Common.{◌≡◌, ℕ, ◌+◌, ◌<◌, Bool, true, false, not, ◌||◌, ◌&&◌, List, [], ◌∷◌, ◌++◌, append_assoc, length, length-append, drop, take, Option, Some, None, Result, Ok, Err, refl, sym, ap, subst, ◌∙◌, inl, inr, arith}
use Rattle.std.specs.Prelude.{◌==◌, codes}
use Rattle.std.specs.List.{prefix_len, list_all, list_any}
use Rattle.std.proofs.lemmas.Bool.{cases_Bool, eqb-true, ne_eqb, and_parts, and_from, and_left, and_right, or_parts, or_cases, or_from, or_left, or_right, not-true, cond_both}
use Rattle.std.proofs.lemmas.Bool.Decides.{nat_tests}
use Rattle.std.proofs.lemmas.List.{take-append-drop, length-take-le}
use Rattle.std.proofs.lemmas.List.Sums.{prefix_len-le-length}
use Rattle.sql_lex.specs.declared.fault.LexFault.{LexFault}
use Rattle.sql_lex.specs.declared.fault.LexFault.TheVariants.{Unclosed, BadByte}
use Rattle.sql_lex.specs.declared.token.TokenKind.{TokenKind}
use Rattle.sql_lex.specs.declared.token.TokenKind.TheVariants.{Word, QuotedName, Literal, Number, Sign, MetaLine}
use Rattle.sql_lex.specs.declared.piece.Piece.{Piece}
use Rattle.sql_lex.specs.Bytes.{is_blank, is_digit, begins_word, in_word, is_sign, marks_escapes, in_line, next_is}
use Rattle.sql_lex.specs.Ends.{run_end, quote_end, escape_end, comment_end, number_end}
use Rattle.sql_lex.specs.Pieces.{closed, begun}
use Rattle.sql_lex.specs.Written.{doubled, quoted}
use Rattle.sql_lex.specs.Spelling.{Spells, IsWord, IsNumber, IsEscapedText, Closes, goes_on, IsGap, IsPiece, opens_here}
use Rattle.sql_lex.proofs.EndLaws.{run_found, run_only, quote_found, quote_only, escape_found, escape_only, behind, comment_found, comment_only, number_found, number_only}
use Rattle.sql_lex.proofs.Scans.{next_is_some}

-- ---- what is found

pub record PieceFound (line : Bool) (at b : ℕ) (rest : List ℕ) (piece : Piece) : Type 0 where
  pub word : List ℕ
  pub more : List ℕ
  pub bytes : b ∷ rest ≡ word ++ more
  pub place : piece.end ≡ at + length word
  pub is : IsPiece line piece.kind word more

abbrev done : Piece → Result Piece LexFault
done x = Ok x

ok_is : (x y : Piece) → done x ≡ done y → x ≡ y
ok_is x y e = cc

-- a run of bytes behind the first byte
record RunBehind (p : ℕ → Bool) (at b : ℕ) (rest : List ℕ) : Type 0 where
  run : List ℕ
  more : List ℕ
  bytes : b ∷ rest ≡ (b ∷ run) ++ more
  place : run_end p (at + 1) rest ≡ at + length (b ∷ run)
  all : list_all p run ≡ true
  ends : next_is p more ≡ false
  whole : run ≡ [] → more ≡ rest

run_behind : (p : ℕ → Bool) (at b : ℕ) (rest : List ℕ) → RunBehind p at b rest
unfolding run_end
run_behind p at b rest =
    let n = prefix_len p rest in
    let h = run_found p rest in
    let le = prefix_len-le-length p rest in
    let len : length (take n rest) ≡ n = length-take-le n rest le in
    record {
      run = take n rest;
      more = drop n rest;
      bytes = ap (λ (r : List ℕ). b ∷ r) (sym (take-append-drop n rest));
      place = omega arith;
      all = h.run;
      ends = h.ends;
      whole = λ e. ap (λ (r : List ℕ). r ++ drop n rest) (sym e) ∙ take-append-drop n rest;
    }

blank_found : (line : Bool) (at b : ℕ) (rest : List ℕ) → is_blank b ≡ true → PieceFound line at b rest (record { kind = None; end = run_end is_blank (at + 1) rest })
blank_found line at b rest e =
    let h = run_behind is_blank at b rest in
    record { word = b ∷ h.run; more = h.more; bytes = h.bytes; place = h.place; is = inl ((omega arith, and_from (is_blank b) (list_all is_blank h.run) e h.all), h.ends) }

alone : (b : ℕ) (run more rest : List ℕ) → (run ≡ [] → more ≡ rest) → (marks_escapes b && next_is (λ c. c == 39) rest) ≡ false → (length (b ∷ run) == 1 && next_is marks_escapes (b ∷ run) && next_is (λ c. c == 39) more) ≡ false
unfolding next_is
alone b [] more rest whole e = ap (λ (r : List ℕ). marks_escapes b && next_is (λ c. c == 39) r) (whole refl) ∙ e
alone b (c ∷ run) more rest whole e = rw (ne_eqb (length (b ∷ c ∷ run)) 1 (λ (k : length (b ∷ c ∷ run) ≡ 1). omega arith)) refl

word_found : (line : Bool) (at b : ℕ) (rest : List ℕ) → begins_word b ≡ true → (marks_escapes b && next_is (λ c. c == 39) rest) ≡ false → PieceFound line at b rest (record { kind = Some Word; end = run_end in_word (at + 1) rest })
unfolding goes_on
word_found line at b rest e f =
    let h = run_behind in_word at b rest in
    record {
      word = b ∷ h.run;
      more = h.more;
      bytes = h.bytes;
      place = h.place;
      is = record { spells = (e, h.all); ends = or_from (next_is in_word h.more) _ h.ends (alone b h.run h.more rest h.whole f); line = λ k. absurd cc };
    }

digit_found : (line : Bool) (at b : ℕ) (rest : List ℕ) → is_digit b ≡ true → PieceFound line at b rest (record { kind = Some Number; end = number_end (at + 1) rest })
unfolding goes_on
digit_found line at b rest e =
    let h = number_found at b rest e in
    record { word = h.word; more = h.more; bytes = h.bytes; place = h.place; is = record { spells = h.number; ends = h.ends; line = λ k. absurd cc } }

pub closed_ok : (kind : Option TokenKind) (at : ℕ) (o : Option ℕ) (piece : Piece) → closed kind at o ≡ Ok piece → (end : ℕ) × (o ≡ Some end) × (piece ≡ record { kind = kind; end = end })
unfolding closed
closed_ok kind at None piece e = absurd cc
closed_ok kind at (Some end) piece e = (end, refl, sym (ok_is (record { kind = kind; end = end }) piece e))

pub quoted_is : (q : ℕ) (text : List ℕ) → quoted q text ≡ q ∷ (doubled q text ++ q ∷ [])
unfolding quoted
quoted_is q text = refl

name_found : (line : Bool) (at : ℕ) (rest : List ℕ) (end : ℕ) → quote_end 34 true (at + 1) rest ≡ Some end → PieceFound line at 34 rest (record { kind = Some QuotedName; end = end })
unfolding goes_on quoted
name_found line at rest end e =
    let h = quote_found 34 true (at + 1) rest end e in
    let len = length-append (doubled 34 h.0) (34 ∷ []) in
    record {
      word = quoted 34 h.0;
      more = h.1;
      bytes = ap (λ (r : List ℕ). 34 ∷ r) (h.2 ∙ sym (append_assoc (doubled 34 h.0) (34 ∷ []) h.1));
      place = h.4 ∙ omega arith;
      is = record { spells = (h.0, refl); ends = h.3; line = λ k. absurd cc };
    }

literal_found : (line : Bool) (at : ℕ) (rest : List ℕ) (end : ℕ) → quote_end 39 true (at + 1) rest ≡ Some end → PieceFound line at 39 rest (record { kind = Some Literal; end = end })
unfolding goes_on quoted
literal_found line at rest end e =
    let h = quote_found 39 true (at + 1) rest end e in
    let len = length-append (doubled 39 h.0) (39 ∷ []) in
    record {
      word = quoted 39 h.0;
      more = h.1;
      bytes = ap (λ (r : List ℕ). 39 ∷ r) (h.2 ∙ sym (append_assoc (doubled 39 h.0) (39 ∷ []) h.1));
      place = h.4 ∙ omega arith;
      is = record { spells = inl (h.0, refl); ends = h.3; line = λ k. absurd cc };
    }

escaped_found : (line : Bool) (at b : ℕ) (rest : List ℕ) (end : ℕ) → marks_escapes b ≡ true → next_is (λ c. c == 39) rest ≡ true → escape_end false true (at + 2) (drop 1 rest) ≡ Some end
    → PieceFound line at b rest (record { kind = Some Literal; end = end })
unfolding goes_on
escaped_found line at b rest end mark quote e =
    let q = next_is_some (λ c. c == 39) rest quote in
    let is39 : rest ≡ 39 ∷ q.1 = q.2 ∙ ap (λ c. c ∷ q.1) (eqb-true q.0 39 q.3) in
    let h = escape_found false true (at + 2) (drop 1 rest) end e in
    let len = length-append h.0 (39 ∷ []) in
    let tail : drop 1 rest ≡ q.1 = ap (drop 1) is39 in
    record {
      word = b ∷ 39 ∷ (h.0 ++ 39 ∷ []);
      more = h.1;
      bytes = ap (λ (r : List ℕ). b ∷ r) is39 ∙ ap (λ (r : List ℕ). b ∷ 39 ∷ r) (sym tail ∙ h.2 ∙ sym (append_assoc h.0 (39 ∷ []) h.1));
      place = h.5 ∙ omega arith;
      is = record { spells = inr (b, h.0, mark, h.3, refl); ends = h.4; line = λ k. absurd cc };
    }

line_run : (run more tail : List ℕ) → 45 ∷ tail ≡ run ++ more → next_is in_line more ≡ false → list_all in_line run ≡ true → (line : List ℕ) × (run ≡ 45 ∷ line) × (list_all in_line line ≡ true)
unfolding in_line next_is
line_run [] more tail e f a = let t : true ≡ false = ap (next_is in_line) e ∙ f in absurd cc
line_run (c ∷ line) more tail e f a = (line, (let is : c ≡ 45 = cc in ap (λ k. k ∷ line) is), (and_parts (in_line c) (list_all in_line line) a).1)

line_comment_found : (at_line : Bool) (at : ℕ) (rest : List ℕ) → next_is (λ c. c == 45) rest ≡ true → PieceFound at_line at 45 rest (record { kind = None; end = run_end in_line (at + 1) rest })
line_comment_found at_line at rest second =
    let q = next_is_some (λ c. c == 45) rest second in
    let h = run_behind in_line at 45 rest in
    let is45 : 45 ∷ rest ≡ 45 ∷ 45 ∷ q.1 = ap (λ (r : List ℕ). 45 ∷ r) (q.2 ∙ ap (λ c. c ∷ q.1) (eqb-true q.0 45 q.3)) in
    let tail : 45 ∷ q.1 ≡ h.run ++ h.more = ap (drop 1) (sym is45 ∙ h.bytes) in
    let r = line_run h.run h.more q.1 tail h.ends h.all in
    record {
      word = 45 ∷ h.run;
      more = h.more;
      bytes = h.bytes;
      place = h.place;
      is = inr (inl ((r.0, r.2, ap (λ (w : List ℕ). 45 ∷ w) r.1), h.ends));
    }

block_comment_found : (at_line : Bool) (at : ℕ) (rest : List ℕ) (end : ℕ) → next_is (λ c. c == 42) rest ≡ true → comment_end 1 0 (at + 2) (drop 1 rest) ≡ Some end
    → PieceFound at_line at 47 rest (record { kind = None; end = end })
block_comment_found at_line at rest end star e =
    let q = next_is_some (λ c. c == 42) rest star in
    let is42 : rest ≡ 42 ∷ q.1 = q.2 ∙ ap (λ c. c ∷ q.1) (eqb-true q.0 42 q.3) in
    let tail : drop 1 rest ≡ q.1 = ap (drop 1) is42 in
    let h = behind 0 (at + 2) end (drop 1 rest) (comment_found 0 0 (at + 2) (drop 1 rest) end e) in
    record {
      word = 47 ∷ 42 ∷ h.0;
      more = h.1;
      bytes = ap (λ (r : List ℕ). 47 ∷ r) is42 ∙ ap (λ (r : List ℕ). 47 ∷ 42 ∷ r) (sym tail ∙ h.2);
      place = h.4 ∙ omega arith;
      is = inr (inr (h.0, h.3, refl));
    }

meta_found : (at : ℕ) (rest : List ℕ) → PieceFound true at 92 rest (record { kind = Some MetaLine; end = run_end in_line (at + 1) rest })
unfolding goes_on
meta_found at rest =
    let h = run_behind in_line at 92 rest in
    record { word = 92 ∷ h.run; more = h.more; bytes = h.bytes; place = h.place; is = record { spells = (h.run, h.all, refl); ends = h.ends; line = λ k. refl } }

sign_found : (at_line : Bool) (at b : ℕ) (rest : List ℕ) → is_sign b ≡ true → (b == 45 && next_is (λ c. c == 45) rest) ≡ false → (b == 47 && next_is (λ c. c == 42) rest) ≡ false
    → PieceFound at_line at b rest (record { kind = Some (Sign b); end = at + 1 })
unfolding goes_on
sign_found at_line at b rest e f g =
    record { word = b ∷ []; more = rest; bytes = refl; place = omega arith; is = record { spells = (e, refl); ends = or_from (b == 45 && next_is (λ c. c == 45) rest) (b == 47 && next_is (λ c. c == 42) rest) f g; line = λ k. absurd cc } }

-- a token that must be closed, and is
closed_found : (at_line : Bool) (at b : ℕ) (rest : List ℕ) (kind : Option TokenKind) (o : Option ℕ) (piece : Piece) → closed kind at o ≡ Ok piece
    → ((end : ℕ) → o ≡ Some end → PieceFound at_line at b rest (record { kind = kind; end = end })) → PieceFound at_line at b rest piece
closed_found at_line at b rest kind o piece e f =
    let h = closed_ok kind at o piece e in
    subst (PieceFound at_line at b rest) (sym h.2) (f h.0 h.1)

at_byte : (at_line : Bool) (at b c : ℕ) (rest : List ℕ) (piece : Piece) → (b == c) ≡ true → PieceFound at_line at c rest piece → PieceFound at_line at b rest piece
at_byte at_line at b c rest piece e h = subst (λ k. PieceFound at_line at k rest piece) (sym (eqb-true b c e)) h

pub begun_found : (at_line : Bool) (at b : ℕ) (rest : List ℕ) (piece : Piece) → begun at_line at b rest ≡ Ok piece → PieceFound at_line at b rest piece
unfolding begun
begun_found at_line at b rest piece e =
    let same = λ (made : Piece) (found : PieceFound at_line at b rest made) (k : done made ≡ done piece). subst (PieceFound at_line at b rest) (ok_is made piece k) found in
    elim (cases_Bool (is_blank b)) [
      | inl t ↦ same _ (blank_found at_line at b rest t) (rw t at e)
      | inr n0 ↦
          elim (cases_Bool (marks_escapes b && next_is (λ c. c == 39) rest)) [
            | inl t ↦ let both = and_parts (marks_escapes b) (next_is (λ c. c == 39) rest) t in
                closed_found at_line at b rest (Some Literal) (escape_end false true (at + 2) (drop 1 rest)) piece (rw (n0, t) at e) (λ end h. escaped_found at_line at b rest end both.0 both.1 h)
            | inr n1 ↦
                elim (cases_Bool (begins_word b)) [
                  | inl t ↦ same _ (word_found at_line at b rest t n1) (rw (n0, n1, t) at e)
                  | inr n2 ↦
                      elim (cases_Bool (is_digit b)) [
                        | inl t ↦ same _ (digit_found at_line at b rest t) (rw (n0, n1, n2, t) at e)
                        | inr n3 ↦
                            elim (cases_Bool (b == 34)) [
                              | inl t ↦ closed_found at_line at b rest (Some QuotedName) (quote_end 34 true (at + 1) rest) piece (rw (n0, n1, n2, n3, t) at e) (λ end h. at_byte at_line at b 34 rest _ t (name_found at_line at rest end h))
                              | inr n4 ↦
                                  elim (cases_Bool (b == 39)) [
                                    | inl t ↦ closed_found at_line at b rest (Some Literal) (quote_end 39 true (at + 1) rest) piece (rw (n0, n1, n2, n3, n4, t) at e) (λ end h. at_byte at_line at b 39 rest _ t (literal_found at_line at rest end h))
                                    | inr n5 ↦
                                        elim (cases_Bool (b == 45 && next_is (λ c. c == 45) rest)) [
                                          | inl t ↦ let both = and_parts (b == 45) (next_is (λ c. c == 45) rest) t in
                                              same _ (at_byte at_line at b 45 rest _ both.0 (line_comment_found at_line at rest both.1)) (rw (n0, n1, n2, n3, n4, n5, t) at e)
                                          | inr n6 ↦
                                              elim (cases_Bool (b == 47 && next_is (λ c. c == 42) rest)) [
                                                | inl t ↦ let both = and_parts (b == 47) (next_is (λ c. c == 42) rest) t in
                                                    closed_found at_line at b rest None (comment_end 1 0 (at + 2) (drop 1 rest)) piece (rw (n0, n1, n2, n3, n4, n5, n6, t) at e) (λ end h. at_byte at_line at b 47 rest _ both.0 (block_comment_found at_line at rest end both.1 h))
                                                | inr n7 ↦
                                                    elim (cases_Bool (b == 92 && at_line)) [
                                                      | inl t ↦ let both = and_parts (b == 92) at_line t in
                                                          subst (λ l. PieceFound l at b rest piece) (sym both.1) (subst (PieceFound true at b rest) (ok_is _ piece (rw (n0, n1, n2, n3, n4, n5, n6, n7, t) at e)) (at_byte true at b 92 rest _ both.0 (meta_found at rest)))
                                                      | inr n8 ↦
                                                          elim (cases_Bool (is_sign b)) [
                                                            | inl t ↦ same _ (sign_found at_line at b rest t n6 n7) (rw (n0, n1, n2, n3, n4, n5, n6, n7, n8, t) at e)
                                                            | inr n9 ↦
                                                                absurd (let wrong : Err (BadByte at) ≡ done piece = rw (n0, n1, n2, n3, n4, n5, n6, n7, n8, n9) at e in cc)
                                                          ]
                                                    ]
                                              ]
                                        ]
                                  ]
                            ]
                      ]
                ]
          ]
    ]

-- ---- what stands there is found

-- the bytes of a list that one of them is
elem_passes : (P : ℕ → Bool) (b : ℕ) (xs : List ℕ) → list_any (λ s. b == s) xs ≡ true → list_all P xs ≡ true → P b ≡ true
elem_passes P b [] e f = absurd cc
elem_passes P b (x ∷ xs) e f =
    let parts = and_parts (P x) (list_all P xs) f in
    elim (or_cases (b == x) (list_any (λ s. b == s) xs) e) [
      | inl is ↦ ap P (eqb-true b x is) ∙ parts.0
      | inr more ↦ elem_passes P b xs more parts.1
    ]

-- a byte that is none of those that begin another piece
abbrev is_sign_alone : ℕ → Bool
is_sign_alone b = not (is_blank b) && (not (marks_escapes b) && (not (begins_word b) && (not (is_digit b) && (not (b == 34) && (not (b == 39) && not (b == 92))))))

sign_alone : (b : ℕ) → is_sign b ≡ true → is_sign_alone b ≡ true
unfolding is_sign is_blank marks_escapes begins_word is_digit
sign_alone b e = elem_passes is_sign_alone b (codes "+-*/<>=~!@#%^&|?:;,.()[]") e refl

pub word_free : (b : ℕ) → begins_word b ≡ true → is_blank b ≡ false
unfolding begins_word is_blank
word_free b e = grind (arith, nat_tests)

pub digit_free : (b : ℕ) → is_digit b ≡ true → (is_blank b ≡ false) × ((marks_escapes b ≡ false) × (begins_word b ≡ false))
unfolding begins_word is_blank is_digit marks_escapes
digit_free b e = (grind (arith, nat_tests), (grind (arith, nat_tests), grind (arith, nat_tests)))

mark_free : (b : ℕ) → marks_escapes b ≡ true → is_blank b ≡ false
unfolding marks_escapes is_blank
mark_free b e = grind (arith, nat_tests)

pub quote_no_word : (b : ℕ) → (b == 39) ≡ true → in_word b ≡ false
unfolding in_word begins_word is_digit
quote_no_word b e = ap in_word (eqb-true b 39 e)

minus_in_line : in_line 45 ≡ true
unfolding in_line
minus_in_line = refl

pub record PieceOnly (at_line : Bool) (at : ℕ) (kind : Option TokenKind) (word more : List ℕ) : Type 0 where
  pub first : ℕ
  pub rest : List ℕ
  pub bytes : word ≡ first ∷ rest
  pub found : begun at_line at first (rest ++ more) ≡ Ok (record { kind = kind; end = at + length word })

run_place : (p : ℕ → Bool) (at b : ℕ) (run more : List ℕ) → list_all p run ≡ true → next_is p more ≡ false → run_end p (at + 1) (run ++ more) ≡ at + length (b ∷ run)
unfolding run_end
run_place p at b run more a e = ap (λ n. at + 1 + n) (run_only p run more a e) ∙ omega arith

piece_end : (kind : Option TokenKind) (a b : ℕ) → a ≡ b → done (record { kind = kind; end = a }) ≡ done (record { kind = kind; end = b })
piece_end kind a b e = ap (λ n. done (record { kind = kind; end = n })) e

blank_only : (at_line : Bool) (at : ℕ) (word more : List ℕ) → 0 < length word → list_all is_blank word ≡ true → next_is is_blank more ≡ false → PieceOnly at_line at None word more
unfolding begun
blank_only at_line at [] more some a e = absurd (omega arith)
blank_only at_line at (b ∷ run) more some a e =
    let parts = and_parts (is_blank b) (list_all is_blank run) a in
    record { first = b; rest = run; bytes = refl; found = rw parts.0 (piece_end None _ _ (run_place is_blank at b run more parts.1 e)) }

no_mark : (b : ℕ) (run more : List ℕ) → list_all in_word run ≡ true → (length (b ∷ run) == 1 && next_is marks_escapes (b ∷ run) && next_is (λ c. c == 39) more) ≡ false → (marks_escapes b && next_is (λ c. c == 39) (run ++ more)) ≡ false
unfolding next_is
no_mark b [] more a e = e
no_mark b (c ∷ run) more a e =
    elim (cases_Bool (c == 39)) [
      | inl is ↦ let t : true ≡ false = sym (and_parts (in_word c) (list_all in_word run) a).0 ∙ quote_no_word c is in absurd cc
      | inr isnt ↦ and_right (marks_escapes b) (c == 39) isnt
    ]

word_only : (at_line : Bool) (at : ℕ) (word more : List ℕ) → IsWord word → goes_on Word word more ≡ false → PieceOnly at_line at (Some Word) word more
unfolding begun goes_on
word_only at_line at [] more h e = absurd h
word_only at_line at (b ∷ run) more h e =
    let ends = or_parts (next_is in_word more) (length (b ∷ run) == 1 && next_is marks_escapes (b ∷ run) && next_is (λ c. c == 39) more) e in
    record {
      first = b;
      rest = run;
      bytes = refl;
      found = rw (word_free b h.0, no_mark b run more h.1 ends.1, h.0) (piece_end (Some Word) _ _ (run_place in_word at b run more h.1 ends.0));
    }

digits_found : (at_line : Bool) (at : ℕ) (word more : List ℕ) → IsNumber word → goes_on Number word more ≡ false → PieceOnly at_line at (Some Number) word more
unfolding begun goes_on
digits_found at_line at word more h e =
    let n = number_only at word more h e in
    let free = digit_free n.first n.digit in
    record {
      first = n.first;
      rest = n.rest;
      bytes = n.bytes;
      found = rw (free.0, free.1.0, free.1.1, n.digit) (piece_end (Some Number) _ _ n.place);
    }

closed_some : (kind : Option TokenKind) (at end : ℕ) (o : Option ℕ) → o ≡ Some end → closed kind at o ≡ done (record { kind = kind; end = end })
unfolding closed
closed_some kind at end o e = rw e refl

pub begun_34 : (at_line : Bool) (at : ℕ) (rest : List ℕ) → begun at_line at 34 rest ≡ closed (Some QuotedName) at (quote_end 34 true (at + 1) rest)
unfolding begun is_blank marks_escapes begins_word is_digit
begun_34 at_line at rest = refl

pub begun_39 : (at_line : Bool) (at : ℕ) (rest : List ℕ) → begun at_line at 39 rest ≡ closed (Some Literal) at (quote_end 39 true (at + 1) rest)
unfolding begun is_blank marks_escapes begins_word is_digit
begun_39 at_line at rest = refl

begun_45 : (at_line : Bool) (at : ℕ) (rest : List ℕ) → next_is (λ c. c == 45) rest ≡ true → begun at_line at 45 rest ≡ done (record { kind = None; end = run_end in_line (at + 1) rest })
unfolding begun is_blank marks_escapes begins_word is_digit
begun_45 at_line at rest e = rw e refl

begun_47 : (at_line : Bool) (at : ℕ) (rest : List ℕ) → next_is (λ c. c == 42) rest ≡ true → begun at_line at 47 rest ≡ closed None at (comment_end 1 0 (at + 2) (drop 1 rest))
unfolding begun is_blank marks_escapes begins_word is_digit
begun_47 at_line at rest e = rw e refl

pub begun_92 : (at : ℕ) (rest : List ℕ) → begun true at 92 rest ≡ done (record { kind = Some MetaLine; end = run_end in_line (at + 1) rest })
unfolding begun is_blank marks_escapes begins_word is_digit
begun_92 at rest = refl

pub begun_mark : (at_line : Bool) (at b : ℕ) (rest : List ℕ) → marks_escapes b ≡ true → begun at_line at b (39 ∷ rest) ≡ closed (Some Literal) at (escape_end false true (at + 2) rest)
unfolding begun next_is
begun_mark at_line at b rest e = rw (mark_free b e, e) refl

begun_sign : (at_line : Bool) (at b : ℕ) (rest : List ℕ) → is_sign b ≡ true → (b == 45 && next_is (λ c. c == 45) rest) ≡ false → (b == 47 && next_is (λ c. c == 42) rest) ≡ false → begun at_line at b rest ≡ done (record { kind = Some (Sign b); end = at + 1 })
unfolding begun
begun_sign at_line at b rest e f g =
    let p0 = and_parts (not (is_blank b)) (not (marks_escapes b) && (not (begins_word b) && (not (is_digit b) && (not (b == 34) && (not (b == 39) && not (b == 92)))))) (sign_alone b e) in
    let p1 = and_parts (not (marks_escapes b)) (not (begins_word b) && (not (is_digit b) && (not (b == 34) && (not (b == 39) && not (b == 92))))) p0.1 in
    let p2 = and_parts (not (begins_word b)) (not (is_digit b) && (not (b == 34) && (not (b == 39) && not (b == 92)))) p1.1 in
    let p3 = and_parts (not (is_digit b)) (not (b == 34) && (not (b == 39) && not (b == 92))) p2.1 in
    let p4 = and_parts (not (b == 34)) (not (b == 39) && not (b == 92)) p3.1 in
    let p5 = and_parts (not (b == 39)) (not (b == 92)) p4.1 in
    let blank = not-true (is_blank b) p0.0 in
    let mark = and_left (marks_escapes b) (next_is (λ c. c == 39) rest) (not-true (marks_escapes b) p1.0) in
    let word = not-true (begins_word b) p2.0 in
    let digit = not-true (is_digit b) p3.0 in
    let name = not-true (b == 34) p4.0 in
    let quote = not-true (b == 39) p5.0 in
    let meta = and_left (b == 92) at_line (not-true (b == 92) p5.1) in
    rw (blank, mark, word, digit, name, quote, f, g, meta, e) refl

quoted_place : (q at : ℕ) (text more : List ℕ) → next_is (λ c. c == q) more ≡ false → quote_end q true (at + 1) ((doubled q text ++ q ∷ []) ++ more) ≡ Some (at + length (quoted q text))
unfolding quoted
quoted_place q at text more e =
    let len = length-append (doubled q text) (q ∷ []) in
    ap (quote_end q true (at + 1)) (append_assoc (doubled q text) (q ∷ []) more) ∙ quote_only q (at + 1) text more e ∙ ap Some (omega arith)

name_only : (at_line : Bool) (at : ℕ) (text more : List ℕ) → next_is (λ c. c == 34) more ≡ false → PieceOnly at_line at (Some QuotedName) (quoted 34 text) more
name_only at_line at text more e = record {
  first = 34;
  rest = doubled 34 text ++ 34 ∷ [];
  bytes = quoted_is 34 text;
  found = begun_34 at_line at _ ∙ closed_some (Some QuotedName) at _ _ (quoted_place 34 at text more e);
}

literal_only : (at_line : Bool) (at : ℕ) (text more : List ℕ) → next_is (λ c. c == 39) more ≡ false → PieceOnly at_line at (Some Literal) (quoted 39 text) more
literal_only at_line at text more e = record {
  first = 39;
  rest = doubled 39 text ++ 39 ∷ [];
  bytes = quoted_is 39 text;
  found = begun_39 at_line at _ ∙ closed_some (Some Literal) at _ _ (quoted_place 39 at text more e);
}

escaped_only : (at_line : Bool) (at mark : ℕ) (text more : List ℕ) → marks_escapes mark ≡ true → IsEscapedText text → next_is (λ c. c == 39) more ≡ false → PieceOnly at_line at (Some Literal) (mark ∷ 39 ∷ (text ++ 39 ∷ [])) more
escaped_only at_line at mark text more m h e =
    let len = length-append text (39 ∷ []) in
    let place : escape_end false true (at + 2) ((text ++ 39 ∷ []) ++ more) ≡ Some (at + length (mark ∷ 39 ∷ (text ++ 39 ∷ []))) =
    ap (escape_end false true (at + 2)) (append_assoc text (39 ∷ []) more) ∙ escape_only (at + 2) more e h ∙ ap Some (omega arith) in
    record { first = mark; rest = 39 ∷ (text ++ 39 ∷ []); bytes = refl; found = begun_mark at_line at mark ((text ++ 39 ∷ []) ++ more) m ∙ closed_some (Some Literal) at _ _ place }

line_comment_only : (at_line : Bool) (at : ℕ) (line more : List ℕ) → list_all in_line line ≡ true → next_is in_line more ≡ false → PieceOnly at_line at None (45 ∷ 45 ∷ line) more
unfolding next_is
line_comment_only at_line at line more a e =
    record { first = 45; rest = 45 ∷ line; bytes = refl; found = begun_45 at_line at (45 ∷ (line ++ more)) refl ∙ piece_end None _ _ (run_place in_line at 45 (45 ∷ line) more (and_from (in_line 45) (list_all in_line line) minus_in_line a) e) }

block_comment_only : (at_line : Bool) (at : ℕ) (text more : List ℕ) → Closes 1 text → PieceOnly at_line at None (47 ∷ 42 ∷ text) more
unfolding next_is
block_comment_only at_line at text more h =
    let place : comment_end 1 0 (at + 2) (text ++ more) ≡ Some (at + length (47 ∷ 42 ∷ text)) = comment_only (at + 2) more h ∙ ap Some (omega arith) in
    record { first = 47; rest = 42 ∷ text; bytes = refl; found = begun_47 at_line at (42 ∷ (text ++ more)) refl ∙ closed_some None at _ _ place }

meta_only : (at : ℕ) (line more : List ℕ) → list_all in_line line ≡ true → next_is in_line more ≡ false → PieceOnly true at (Some MetaLine) (92 ∷ line) more
meta_only at line more a e =
    record { first = 92; rest = line; bytes = refl; found = begun_92 at (line ++ more) ∙ piece_end (Some MetaLine) _ _ (run_place in_line at 92 line more a e) }

sign_only : (at_line : Bool) (at b : ℕ) (more : List ℕ) → is_sign b ≡ true → goes_on (Sign b) (b ∷ []) more ≡ false → PieceOnly at_line at (Some (Sign b)) (b ∷ []) more
unfolding goes_on
sign_only at_line at b more e f =
    let ends = or_parts (b == 45 && next_is (λ c. c == 45) more) (b == 47 && next_is (λ c. c == 42) more) f in
    record { first = b; rest = []; bytes = refl; found = begun_sign at_line at b more e ends.0 ends.1 ∙ piece_end (Some (Sign b)) _ _ (omega arith) }

-- a piece is the same as its bytes are
as_word : (at_line : Bool) (at : ℕ) (kind : Option TokenKind) (word spelled more : List ℕ) → word ≡ spelled → PieceOnly at_line at kind spelled more → PieceOnly at_line at kind word more
as_word at_line at kind word spelled more e h = subst (λ (w : List ℕ). PieceOnly at_line at kind w more) (sym e) h

lexeme_only : (at_line : Bool) (at : ℕ) (kind : TokenKind) (word more : List ℕ) → Spells kind word → goes_on kind word more ≡ false → (kind ≡ MetaLine → at_line ≡ true) → PieceOnly at_line at (Some kind) word more
unfolding goes_on
lexeme_only at_line at Word word more h e line = word_only at_line at word more h e
lexeme_only at_line at QuotedName word more (text, is) e line = as_word at_line at (Some QuotedName) word (quoted 34 text) more is (name_only at_line at text more e)
lexeme_only at_line at Literal word more (inl (text, is)) e line = as_word at_line at (Some Literal) word (quoted 39 text) more is (literal_only at_line at text more e)
lexeme_only at_line at Literal word more (inr (mark, text, m, h, is)) e line = as_word at_line at (Some Literal) word (mark ∷ 39 ∷ (text ++ 39 ∷ [])) more is (escaped_only at_line at mark text more m h e)
lexeme_only at_line at Number word more h e line = digits_found at_line at word more h e
lexeme_only at_line at (Sign b) word more (s, is) e line = as_word at_line at (Some (Sign b)) word (b ∷ []) more is (sign_only at_line at b more s e)
lexeme_only at_line at MetaLine word more (rest, a, is) e line =
    subst (λ l. PieceOnly l at (Some MetaLine) word more) (sym (line refl)) (as_word true at (Some MetaLine) word (92 ∷ rest) more is (meta_only at rest more a e))

gap_only : (at_line : Bool) (at : ℕ) (word more : List ℕ) → IsGap word more → PieceOnly at_line at None word more
gap_only at_line at word more (inl (blanks, e)) = blank_only at_line at word more blanks.0 blanks.1 e
gap_only at_line at word more (inr (inl ((line, a, is), e))) = as_word at_line at None word (45 ∷ 45 ∷ line) more is (line_comment_only at_line at line more a e)
gap_only at_line at word more (inr (inr (text, h, is))) = as_word at_line at None word (47 ∷ 42 ∷ text) more is (block_comment_only at_line at text more h)

pub begun_only : (at_line : Bool) (at : ℕ) (kind : Option TokenKind) (word more : List ℕ) → IsPiece at_line kind word more → PieceOnly at_line at kind word more
begun_only at_line at None word more h = gap_only at_line at word more h
begun_only at_line at (Some kind) word more h = lexeme_only at_line at kind word more h.spells h.ends h.line

-- ---- faults

-- a fault is at its place, and says whether something opens there
abbrev pub IsFaultAt : ℕ → Bool → Result Piece LexFault → Type 0
IsFaultAt at opens_now (Ok piece) = Unit {0}
IsFaultAt at opens_now (Err (Unclosed place)) = (place ≡ at) × (opens_now ≡ true)
IsFaultAt at opens_now (Err (BadByte place)) = (place ≡ at) × (opens_now ≡ false)

closed_fault : (kind : Option TokenKind) (at : ℕ) (opens_now : Bool) (o : Option ℕ) → opens_now ≡ true → IsFaultAt at opens_now (closed kind at o)
unfolding closed
closed_fault kind at opens_now None e = (refl, e)
closed_fault kind at opens_now (Some end) e = tt

pub begun_fault : (at_line : Bool) (at b : ℕ) (rest : List ℕ) → IsFaultAt at (opens_here (b ∷ rest)) (begun at_line at b rest)
unfolding begun opens_here
begun_fault at_line at b rest =
    let name = b == 34 in
    let quote = b == 39 in
    let escapes = marks_escapes b && next_is (λ c. c == 39) rest in
    let comment = b == 47 && next_is (λ c. c == 42) rest in
    let P : Result Piece LexFault → Type 0 = IsFaultAt at (name || quote || escapes || comment) in
    cond_both (is_blank b) _ _ P (λ _. tt) (λ _.
    cond_both escapes _ _ P (λ e. closed_fault (Some Literal) at _ _ (or_left (name || quote || escapes) comment (or_right (name || quote) escapes e))) (λ n1.
    cond_both (begins_word b) _ _ P (λ _. tt) (λ _.
    cond_both (is_digit b) _ _ P (λ _. tt) (λ _.
    cond_both name _ _ P (λ e. closed_fault (Some QuotedName) at _ _ (or_left (name || quote || escapes) comment (or_left (name || quote) escapes (or_left name quote e)))) (λ n4.
    cond_both quote _ _ P (λ e. closed_fault (Some Literal) at _ _ (or_left (name || quote || escapes) comment (or_left (name || quote) escapes (or_right name quote e)))) (λ n5.
    cond_both (b == 45 && next_is (λ c. c == 45) rest) _ _ P (λ _. tt) (λ _.
    cond_both comment _ _ P (λ e. closed_fault None at _ _ (or_right (name || quote || escapes) comment e)) (λ n7.
    cond_both (b == 92 && at_line) _ _ P (λ _. tt) (λ _.
    cond_both (is_sign b) _ _ P (λ _. tt) (λ _.
    (refl, or_from (name || quote || escapes) comment (or_from (name || quote) escapes (or_from name quote n4 n5) n1) n7)))))))))))
