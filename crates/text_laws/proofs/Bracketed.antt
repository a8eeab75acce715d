-- An expression that begins with a bracket begins with the token of one.
use Rattle.std.proofs.Common.{◌≡◌, ℕ, ◌<◌, true, List, [], ◌∷◌, ◌++◌, append-nil, append_assoc, length, length-append, drop, Some, refl, sym, ap, subst, ◌∙◌, inl, inr, arith}
use Rattle.std.specs.List.{list_all}
use Rattle.std.proofs.lemmas.Bool.{and_parts, false≢true, eqb-true}
use Rattle.sql_lex.specs.declared.token.TokenKind.{TokenKind}
use Rattle.sql_lex.specs.declared.token.TokenKind.TheVariants.{Word, QuotedName, Literal, Number, Sign, MetaLine}
use Rattle.sql_lex.specs.Bytes.{is_blank, is_digit, begins_word, marks_escapes}
use Rattle.sql_lex.specs.Spelling.{Spells, IsGap}
use Rattle.sql_lex.specs.Written.{quoted}
use Rattle.ddl_laws.specs.Collecting.{collected}
use Rattle.ddl_laws.specs.Lexemes.{Lexeme, spelled, is_sign, is_sign_kind, starts, start_of}
use Rattle.ddl_laws.specs.Pieces.{lexemes}
use Rattle.ddl_laws.proofs.Kept.{Gaps, no_gap, one_gap, AllCame, have_come, whole_text}
use Rattle.ddl_laws.specs.Respelling.{IsExpressionText, IsBracketText}
use Rattle.row_texts.specs.declared.index_text.IndexText.{IndexText}
use Rattle.row_texts.specs.IndexTexts.{is_bracketed}

abbrev first_byte : List ℕ → ℕ
first_byte [] = 0
first_byte (b ∷ bs) = b

-- an opening bracket is no digit
no_digit : (digits rest word : List ℕ) → 0 < length digits → list_all is_digit digits ≡ true → 40 ∷ word ≡ digits ++ rest → ⊥
unfolding is_digit
no_digit [] rest word some all e = omega arith
no_digit (b ∷ digits) rest word some all e =
    let same : b ≡ 40 = sym (ap first_byte e) in
    let is : is_digit 40 ≡ true = subst (λ n. is_digit n ≡ true) same (and_parts (is_digit b) (list_all is_digit digits) all).0 in
    false≢true is

-- a token that begins with an opening bracket
bracket_kind : (kind : TokenKind) (word : List ℕ) → Spells kind (40 ∷ word) → is_sign_kind 40 kind ≡ true
unfolding begins_word is_digit marks_escapes quoted
bracket_kind (Sign b) word spells = let same : b ≡ 40 = sym (ap first_byte spells.1) in rw same refl
bracket_kind Word word spells = absurd (false≢true spells.0)
bracket_kind QuotedName word spells = absurd (let e : 40 ≡ 34 = ap first_byte spells.1 in omega (arith, e))
bracket_kind MetaLine word spells = absurd (let e : 40 ≡ 92 = ap first_byte spells.2 in omega (arith, e))
bracket_kind Literal word (inl quote) = absurd (let e : 40 ≡ 39 = ap first_byte quote.1 in omega (arith, e))
bracket_kind Literal word (inr e) = let same : e.0 ≡ 40 = sym (ap first_byte e.4) in absurd (false≢true (subst (λ b. marks_escapes b ≡ true) same e.2))
bracket_kind Number word (inl digits) = absurd (no_digit (40 ∷ word) [] word digits.0 digits.1 (sym (append-nil (40 ∷ word))))
bracket_kind Number word (inr n) = absurd (no_digit n.0 (46 ∷ n.1) word n.2.0 n.2.1 n.4)

-- nothing spells no token
nothing_spelled : (kind : TokenKind) → Spells kind [] → ⊥
unfolding quoted
nothing_spelled Word spells = spells
nothing_spelled QuotedName spells = cc spells.1
nothing_spelled MetaLine spells = cc spells.2
nothing_spelled Literal (inl quote) = cc quote.1
nothing_spelled Literal (inr e) = cc e.4
nothing_spelled Number (inl digits) = omega (arith, digits.0)
nothing_spelled Number (inr n) = let sizes : 0 ≡ length (n.0 ++ 46 ∷ n.1) = ap (λ (x : List ℕ). length x) n.4 in omega (arith, sizes, length-append n.0 (46 ∷ n.1))
nothing_spelled (Sign b) spells = cc spells.1

word_opens : (kind : TokenKind) (word rest text : List ℕ) → Spells kind word → 40 ∷ text ≡ word ++ rest → is_sign_kind 40 kind ≡ true
word_opens kind [] rest text spells e = absurd (nothing_spelled kind spells)
word_opens kind (b ∷ word) rest text spells e = let same : b ≡ 40 = sym (ap first_byte e) in bracket_kind kind word (subst (λ n. Spells kind (n ∷ word)) same spells)

-- white space and comments begin with another byte
no_blank : (blanks rest text : List ℕ) → 0 < length blanks → list_all is_blank blanks ≡ true → 40 ∷ text ≡ blanks ++ rest → ⊥
unfolding is_blank
no_blank [] rest text some all e = omega arith
no_blank (b ∷ blanks) rest text some all e =
    let same : b ≡ 40 = sym (ap first_byte e) in
    false≢true (subst (λ n. is_blank n ≡ true) same (and_parts (is_blank b) (list_all is_blank blanks) all).0)

no_gap_so : (g rest behind text : List ℕ) → IsGap g behind → 40 ∷ text ≡ g ++ rest → ⊥
no_gap_so g rest behind text (inl blanks) e = no_blank g rest text blanks.0.0 blanks.0.1 e
no_gap_so g rest behind text (inr (inl comment)) e = let h : 40 ≡ 45 = ap first_byte (e ∙ ap (λ (x : List ℕ). x ++ rest) comment.0.2) in omega (arith, h)
no_gap_so g rest behind text (inr (inr block)) e = let h : 40 ≡ 47 = ap first_byte (e ∙ ap (λ (x : List ℕ). x ++ rest) block.2) in omega (arith, h)

-- nothing stands before it
no_gap_before : (gap rest text behind : List ℕ) → Gaps gap behind → 40 ∷ text ≡ gap ++ rest → gap ≡ []
no_gap_before _ rest text behind (no_gap _) e = refl
no_gap_before _ rest text behind (one_gap g more _ is utf8 gaps) e = absurd (no_gap_so g (more ++ rest) _ text is (e ∙ append_assoc g more rest))

-- the first token of what begins with an opening bracket
first_opens : (ts : List Lexeme) (r text rest : List ℕ) → AllCame ts r → 40 ∷ text ≡ spelled ts ++ rest → 0 < length ts → starts (is_sign 40) ts ≡ true
unfolding is_sign
first_opens [] r text rest came e some = absurd (omega arith)
first_opens (t ∷ ts) r text rest came e some =
    let behind = (t.word ++ spelled ts) ++ rest in
    let whole : 40 ∷ text ≡ t.gap ++ behind = e ∙ append_assoc t.gap (t.word ++ spelled ts) rest in
    let alone : t.gap ≡ [] = no_gap_before t.gap behind text _ came.0.gap whole in
    word_opens t.kind t.word (spelled ts ++ rest) text came.0.spells (whole ∙ ap (λ (x : List ℕ). x ++ behind) alone ∙ append_assoc t.word (spelled ts) rest)

some_token : (ts : List Lexeme) → start_of ts ≡ Some 0 → 0 < length ts
some_token [] e = absurd cc
some_token (t ∷ ts) e = omega arith

bracketed_starts : (v : List ℕ) → IsExpressionText v → is_bracketed v ≡ true → starts (is_sign 40) (lexemes v (collected v 0).pieces) ≡ true
bracketed_starts [] is e = absurd (false≢true e)
bracketed_starts (b ∷ v) is e =
    let same : b ≡ 40 = eqb-true b 40 e in
    let text = b ∷ v in
    let ts = lexemes text (collected text 0).pieces in
    let whole : 40 ∷ v ≡ spelled ts ++ drop (collected text 0).end text = ap (λ (n : ℕ). n ∷ v) (sym same) ∙ whole_text text 0 (omega arith) in
    first_opens ts (drop (collected text 0).end text) v (drop (collected text 0).end text) (have_come text 0 (omega arith)) whole (some_token ts is.first)

pub bracket_can : (said : IndexText) → IsExpressionText said.rest → is_bracketed said.rest ≡ true → IsBracketText said.rest
bracket_can said is e = (is, bracketed_starts said.rest is e)
