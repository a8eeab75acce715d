-- A part of the grammar with the texts of its values: what can be written lies in tokens that spell it, wherever they
-- are put, and what tokens of a text spell has a property. A law for each way to put parts together.
use Rattle.ddl_forms.proofs.Common.{◌≡◌, ℕ, Bool, true, false, not, cond, ◌&&◌, ◌||◌, List, [], ◌∷◌, ◌++◌, length, length-append, append_assoc, append-nil, Option, Some, None, Result, Ok, refl, sym, ap, subst, ◌∙◌, ◌⊎◌, inl, inr, arith, ◌==◌, and_parts, not-true, nat_tests, list_all, AllByRecursion, IsUtf8, is_utf8, chars, str_to_ascii_lowercase, encode, TokenKind, Word, Literal, Sign, is_digit, begins_word, in_word, is_keyword_of, IsWord, written_name, written_literal, written_kind, IsName, QName, path, joined, Lexeme, never, is_word, is_sign, is_sign_kind, spelled, source, Part, Items, Many, no_more, Machine, runs_of, one, many, mark, stop, seen, choose, nothing, wider, ◌then◌, ◌▸◌, ◌◂◌, name, name_value, literal, literal_value, qualified, lexemes, collected, semicolon, IsPath, IsRunText, passes_true, one_more, passes, IsTextOf}
use Rattle.ddl_forms.proofs.{Behind.Behind, Behind.Anything, Behind.Words, Behind.Safe, Behind.End, Behind.admits, Behind.covers, Behind.through, Behind.admitted, Behind.looser, Behind.tighter, Behind.tight, Behind.Opens, Behind.opens_of, Behind.opened, Behind.then_opens, Behind.one_opens, Behind.other_opens, Closing.ends_with, Closing.ends_append, Closing.Closes, Kept.AllCame, Kept.came_front, Kept.came_behind, RunTexts.IsPlain, RunTexts.plain_runs, RunTexts.IsPlainMachine, RunTexts.words, RunTexts.run_kept, RunTexts.run_read, RunTexts.plain_last, Standing.Stands, Standing.Stood, Standing.placed, Tokens.Gap, Tokens.none, Tokens.space, Tokens.a_word, Tokens.a_name, Tokens.a_literal, Tokens.is_single, Tokens.a_sign, Tokens.name_means, Tokens.literal_means, Tokens.name_no_sign, Tokens.value_name, Tokens.text_value, Putting.Follows, Putting.IsPut, Putting.followed, Putting.begun, Putting.same_text, Putting.put_as, Putting.none_put, Putting.one_put, Putting.then_put, Putting.joined-append, Putting.Yields}

-- Which values of a part can be written and how, by the proof that they can; what may stand behind, and what the text
-- begins with, or that it may be empty; and what is known of a value that was read. Where it is closed, each spelling
-- of a value ends with a semicolon.
pub record Written {A : Type 0} (p : Part A) : Type 1 where
  pub Fit : A → Type 0
  pub Is : A → Type 0
  pub pieces : (v : A) → Fit v → List (List ℕ)
  pub after : Behind
  pub opens : Behind
  pub lacks : Bool
  pub closed : Bool
  pub put : (v : A) (fit : Fit v) (others : List Lexeme) → Follows others → admits after (spelled others) ≡ true → IsPut p v (joined (pieces v fit)) others
  pub begins : (v : A) (fit : Fit v) → Opens lacks opens (joined (pieces v fit))
  pub made : Yields Is p
  pub closes : closed ≡ true → Closes semicolon p

pub not_closed : {A : Type 0} (p : Part A) → false ≡ true → Closes semicolon p
not_closed p e = absurd cc

-- a part that is put in one piece behind a gap, and doesn't end with a semicolon
abbrev pub leaf_as : {A : Type 0} → {p : Part A} → (Fit Is : A → Type 0) → (g : List ℕ) → (text : (v : A) → Fit v → List ℕ) → (after : Behind) → ((v : A) (fit : Fit v) (others : List Lexeme) → Follows others → admits after (spelled others) ≡ true → IsPut p v (g ++ text v fit) others) → Yields Is p → Written p
leaf_as {p = p} Fit Is g text after put made = record {
  Fit = Fit;
  Is = Is;
  pieces = λ v fit. g ∷ text v fit ∷ [];
  after = after;
  opens = opens_of g;
  lacks = false;
  closed = false;
  put = λ v fit others follows e. same_text (g ++ text v fit) (g ++ (text v fit ++ [])) (ap (λ (x : List ℕ). g ++ x) (sym (append-nil (text v fit)))) (put v fit others follows e);
  begins = λ v fit. opened g (text v fit ++ []);
  made = made;
  closes = not_closed p;
}

-- the same text in other pieces
abbrev pub pieces_as : {A : Type 0} → {p : Part A} → (w : Written p) → (pieces : (v : A) → w.Fit v → List (List ℕ)) → ((v : A) (fit : w.Fit v) → joined (w.pieces v fit) ≡ joined (pieces v fit)) → Written p
pieces_as w pieces same = record w {
  pieces = pieces;
  put = λ v fit others follows e. same_text (joined (w.pieces v fit)) (joined (pieces v fit)) (same v fit) (w.put v fit others follows e);
  begins = λ v fit. subst (Opens w.lacks w.opens) (same v fit) (w.begins v fit);
}

-- ---- one token

pub one_puts : {A : Type 0} {value : Lexeme → Result A Bool} {g : List ℕ} (kind : TokenKind) (word : List ℕ) (v : A) (others : List Lexeme) → Stands (record { gap = g; kind = kind; word = word; start = 0 }) (spelled others) → is_sign_kind 59 kind ≡ false
    → ((t : Lexeme) → t.kind ≡ kind → t.word ≡ word → value t ≡ Ok v) → Follows others → IsPut (one value) v (g ++ word) others
unfolding is_sign
one_puts {value = value} {g = g} kind word v others stands plain means follows =
    one_put (one value) v (record { gap = g; kind = kind; word = word; start = 0 }) others stands (inl plain) (λ at. (_, refl, means _ refl refl)) follows

-- a word that can be written
unfoldable pub is_bare_word : List ℕ → Bool
unfolding begins_word in_word is_digit is_utf8 chars encode
is_bare_word [] = false
is_bare_word (b ∷ w) = begins_word b && (list_all in_word w && is_utf8 (b ∷ w))

pub bare_word : (w : List ℕ) → is_bare_word w ≡ true → IsWord w × (is_utf8 w ≡ true)
unfolding is_bare_word
bare_word w e = grind (arith, and_parts)

-- a bare word that a token may be, and what that token means
abbrev pub Says : {A : Type 0} → (Lexeme → Result A Bool) → List ℕ → A → Type 0
Says value word v = (is_bare_word word ≡ true) × ((t : Lexeme) → t.kind ≡ Word → t.word ≡ word → value t ≡ Ok v)

-- a token that is written as a word, a name or a literal: what it means, and what one that was read is
abbrev pub word_said : {A : Type 0} → {value : Lexeme → Result A Bool} → {g : List ℕ} → Gap g → (Fit Is : A → Type 0) → (word : (v : A) → Fit v → List ℕ) → ((v : A) (fit : Fit v) → Says value (word v fit) v) → ((t : Lexeme) (v : A) → value t ≡ Ok v → Is v) → Written (one value)
word_said {g = g} gap Fit Is word says made =
    leaf_as Fit Is g word Words
    (λ v fit others follows e. let bare = bare_word (word v fit) (says v fit).0 in one_puts Word (word v fit) v others (a_word (word v fit) (spelled others) gap bare.0 bare.1 e) refl (says v fit).1 follows) (λ v ts r came spells. made spells.0 v spells.2)

abbrev pub name_said : {A : Type 0} → {value : Lexeme → Result A Bool} → {g : List ℕ} → Gap g → (Fit Is : A → Type 0) → (name : A → List ℕ) → ((v : A) → Fit v → IsName (name v)) → ((v : A) (fit : Fit v) (t : Lexeme) → t.kind ≡ written_kind (name v) → t.word ≡ written_name (name v) → name_value t ≡ Ok (name v) → value t ≡ Ok v)
    → ((t : Lexeme) (v : A) → value t ≡ Ok v → Is v) → Written (one value)
name_said {g = g} gap Fit Is name is means made =
    leaf_as Fit Is g (λ v fit. written_name (name v)) Words
    (λ v fit others follows e. one_puts (written_kind (name v)) (written_name (name v)) v others (a_name (name v) (spelled others) gap (is v fit).utf8 e) (name_no_sign 59 (name v)) (λ t kind word. means v fit t kind word (name_means (name v) (is v fit) t kind word)) follows)
    (λ v ts r came spells. made spells.0 v spells.2)

abbrev pub literal_said : {A : Type 0} → {value : Lexeme → Result A Bool} → {g : List ℕ} → Gap g → (Fit : A → Type 0) → (text : A → List ℕ) → ((v : A) → Fit v → IsUtf8 (text v)) → ((v : A) → Fit v → (t : Lexeme) → literal_value t ≡ Ok (text v) → value t ≡ Ok v)
    → ((t : Lexeme) (v : A) → value t ≡ Ok v → Fit v) → Written (one value)
literal_said {g = g} gap Fit text utf8 means made =
    leaf_as Fit Fit g (λ v fit. written_literal (text v)) Words
    (λ v fit others follows e. one_puts Literal (written_literal (text v)) v others (a_literal (text v) (spelled others) gap (utf8 v fit) e) refl (λ t kind word. means v fit t (literal_means (text v) (utf8 v fit) t kind word)) follows)
    (λ v ts r came spells. made spells.0 v spells.2)

abbrev pub name_as : {g : List ℕ} → Gap g → Written name
name_as gap = name_said gap IsName IsName (λ n. n) (λ n is. is) (λ n is t kind word e. e) value_name

abbrev pub literal_as : {g : List ℕ} → Gap g → Written literal
literal_as gap = literal_said gap IsUtf8 (λ t. t) (λ t is. is) (λ v is t e. e) text_value

-- ---- key words and signs

-- a token that says no more, and that it can be written
pub record Mark (test : Lexeme → Bool) : Type 1 where
  pub written : Written (mark test)
  pub fit : written.Fit tt

-- the word that is written is the key word
unfoldable pub is_key : List ℕ → List ℕ → Bool
unfolding is_bare_word is_keyword_of
is_key key w = is_bare_word w && is_keyword_of Word w key

pub key_says : (key w : List ℕ) → is_key key w ≡ true → Says (passes (is_word key)) w tt
unfolding is_key is_word
key_says key w e = let is = and_parts (is_bare_word w) (is_keyword_of Word w key) e in (is.0, λ t kind word. rw (kind, word, is.1) refl)

-- a key word, as it is written
abbrev pub word_as : {g : List ℕ} → Gap g → (w : List ℕ) → is_key (str_to_ascii_lowercase w) w ≡ true → Mark (is_word (str_to_ascii_lowercase w))
word_as gap w is = record { written = word_said gap (λ u. Unit {0}) (λ u. Unit {0}) (λ u fit. w) (λ u fit. key_says (str_to_ascii_lowercase w) w is) (λ t u e. tt); fit = tt }

pub sign_put : {g : List ℕ} → Gap g → (b : ℕ) → is_single b ≡ true → (others : List Lexeme) → (59 == b) ≡ false ⊎ (others ≡ []) → Follows others → IsPut (mark (is_sign b)) tt ((g ++ b ∷ []) ++ []) others
unfolding is_sign
sign_put {g} gap b e others plain follows =
    rw append-nil (one_put (mark (is_sign b)) tt (record { gap = g; kind = Sign b; word = b ∷ []; start = 0 }) others (a_sign b (spelled others) gap e) plain (λ at. (_, refl, grind (arith, nat_tests))) follows)

-- a sign, by what may stand behind it: anything, where it is no semicolon
abbrev pub sign_as : {g : List ℕ} → Gap g → (b : ℕ) → is_single b ≡ true → (after : Behind) → ((others : List Lexeme) → Stood others → admits after (spelled others) ≡ true → (59 == b) ≡ false ⊎ (others ≡ [])) → Written (mark (is_sign b))
sign_as {g} gap b is after plain =
    pieces_as (leaf_as (λ u. Unit {0}) (λ u. Unit {0}) (g ++ b ∷ []) (λ u fit. []) after (λ u fit others follows e. sign_put gap b is others (plain others follows.stood e) follows) (λ u ts r came spells. tt))
    (λ u fit. (g ++ b ∷ []) ∷ []) (λ u fit. refl)

abbrev pub plain_as : {g : List ℕ} → Gap g → (b : ℕ) → is_single b ≡ true → (59 == b) ≡ false → Mark (is_sign b)
plain_as gap b is other = record { written = sign_as gap b is Anything (λ others stood e. inl other); fit = tt }

pub signs : (is_single 40 ≡ true) × (is_single 41 ≡ true) × (is_single 44 ≡ true) × (is_single 46 ≡ true) × (is_single 59 ≡ true) × (is_single 61 ≡ true)
unfolding is_single
signs = (refl, refl, refl, refl, refl, refl)

abbrev pub opening_as : {g : List ℕ} → Gap g → Mark (is_sign 40)
opening_as gap = plain_as gap 40 signs.0 refl

abbrev pub closing_as : {g : List ℕ} → Gap g → Mark (is_sign 41)
closing_as gap = plain_as gap 41 signs.1 refl

abbrev pub comma_as : Mark (is_sign 44)
comma_as = plain_as none 44 signs.2 refl

abbrev pub dot_as : Mark (is_sign 46)
dot_as = plain_as none 46 signs.3 refl

abbrev pub equals_as : Mark (is_sign 61)
equals_as = plain_as space 61 signs.5 refl

pub mark_closes : (test : Lexeme → Bool) → Closes test (mark test)
mark_closes test v ts spells = ap (ends_with test) spells.1 ∙ passes_true v (test spells.0) spells.2

pub none_behind : (others : List Lexeme) → Stood others → admits End (spelled others) ≡ true → others ≡ []
none_behind [] stood e = refl
none_behind (t ∷ ts) stood e =
    let none : (text : List ℕ) → admits End text ≡ true → length text ≡ 0 = λ text e. grind arith in
    absurd (omega (arith, none (spelled (t ∷ ts)) e, length-append t.gap (t.word ++ spelled ts), length-append t.word (spelled ts), stood.0.some))

-- the semicolon that ends a statement
abbrev pub ending_as : {g : List ℕ} → Gap g → Mark semicolon
ending_as gap = record { written = record (sign_as gap 59 signs.4 End (λ others stood e. inr (none_behind others stood e))) { closed = true; closes = λ e. mark_closes semicolon }; fit = tt }

abbrev pub ending : Mark semicolon
ending = ending_as none

abbrev pub mark_as : {test : Lexeme → Bool} → Mark test → Written (mark test)
mark_as m = m.written

-- ---- one after another

-- this may stand before each text of a part
abbrev pub meets : {A : Type 0} → {p : Part A} → Behind → Written p → Bool
meets m w = covers m w.opens && covers (cond w.lacks m Anything) w.after

pub met : {A : Type 0} {p : Part A} (w : Written p) (m : Behind) → meets m w ≡ true → (v : A) (fit : w.Fit v) (rest : List ℕ) → admits w.after rest ≡ true → admits m (joined (w.pieces v fit) ++ rest) ≡ true
met w m e v fit rest h = let c = and_parts (covers m w.opens) (covers (cond w.lacks m Anything) w.after) e in w.begins v fit m c.0 rest (admitted (cond w.lacks m Anything) w.after rest c.1 h)

pub then_puts : {A B : Type 0} {p : Part A} {q : Part B} (a : Written p) (b : Written q) → meets a.after b ≡ true → (v : A) (w : B) (fit : a.Fit v) (other : b.Fit w) (others : List Lexeme) → Follows others → admits b.after (spelled others) ≡ true
    → IsPut (p then q) (v, w) (joined (a.pieces v fit ++ b.pieces w other)) others
then_puts {p = p} {q = q} a b e v w fit other others follows h =
    let k = b.put w other others follows h in
    then_put p q v w (a.pieces v fit) (b.pieces w other) others k (a.put v fit (k.tokens ++ others) (followed k) (begun a.after k (met b a.after e w other (spelled others) h)))

pub then_made : {A B : Type 0} (p : Part A) (q : Part B) (P : A → Type 0) (Q : B → Type 0) → Yields P p → Yields Q q → Yields (λ v. P v.0 × Q v.1) (p then q)
then_made p q P Q f g = grind (arith, came_front, came_behind)

abbrev pub then_as : {A B : Type 0} → {p : Part A} → {q : Part B} → (a : Written p) → (b : Written q) → meets a.after b ≡ true → Written (p then q)
then_as {p = p} {q = q} a b e = record {
  Fit = λ v. a.Fit v.0 × b.Fit v.1;
  Is = λ v. a.Is v.0 × b.Is v.1;
  pieces = λ v fit. a.pieces v.0 fit.0 ++ b.pieces v.1 fit.1;
  after = b.after;
  opens = cond a.lacks (looser a.opens b.opens) a.opens;
  lacks = cond a.lacks b.lacks false;
  closed = b.closed;
  put = λ v fit. then_puts a b e v.0 v.1 fit.0 fit.1;
  begins = λ v fit. rw (joined-append (a.pieces v.0 fit.0) (b.pieces v.1 fit.1)) (then_opens a.lacks b.lacks a.opens b.opens (joined (a.pieces v.0 fit.0)) (joined (b.pieces v.1 fit.1)) (a.begins v.0 fit.0) (b.begins v.1 fit.1));
  made = then_made p q a.Is b.Is a.made b.made;
  closes = λ e v ts spells. ap (ends_with semicolon) spells.2 ∙ ends_append semicolon spells.0 spells.1 (b.closes e v.1 spells.1 spells.4);
}

-- a value written as one of another part, which the same tokens spell
abbrev pub carry_as : {A B : Type 0} → {p : Part A} → (w : Written p) → (q : Part B) → (Fit Is : B → Type 0) → (value : (x : B) → Fit x → (y : A) × w.Fit y) → ((x : B) (fit : Fit x) (ts : List Lexeme) → p.Spells (value x fit).0 ts → q.Spells x ts)
    → ((x : B) (ts : List Lexeme) → q.Spells x ts → (y : A) × p.Spells y ts × (w.Is y → Is x)) → Written q
carry_as {p = p} w q Fit Is value says heard = record {
  Fit = Fit;
  Is = Is;
  pieces = λ x fit. w.pieces (value x fit).0 (value x fit).1;
  after = w.after;
  opens = w.opens;
  lacks = w.lacks;
  closed = w.closed;
  put = λ x fit others follows e. put_as p q (value x fit).0 x (joined (w.pieces (value x fit).0 (value x fit).1)) others (w.put (value x fit).0 (value x fit).1 others follows e) (says x fit);
  begins = λ x fit. w.begins (value x fit).0 (value x fit).1;
  made = λ x ts r came s. let h = heard x ts s in h.2 (w.made h.0 ts r came h.1);
  closes = λ e x ts s. let h = heard x ts s in w.closes e h.0 ts h.1;
}

-- a token that says no more, before a part or behind it
abbrev pub lead_as : {A : Type 0} → {test : Lexeme → Bool} → {p : Part A} → (m : Mark test) → (w : Written p) → meets m.written.after w ≡ true → Written (test ▸ p)
lead_as {test = test} {p = p} m w e = carry_as (then_as m.written w e) (test ▸ p) w.Fit w.Is (λ v fit. ((tt, v), (m.fit, fit))) (λ v fit ts s. ((tt, v), refl, s)) (λ v ts s. (s.0, s.2, λ is. subst w.Is (sym s.1) is.1))

abbrev pub close_as : {A : Type 0} → {test : Lexeme → Bool} → {p : Part A} → (w : Written p) → (m : Mark test) → meets w.after m.written ≡ true → Written (p ◂ test)
close_as {test = test} {p = p} w m e = carry_as (then_as w m.written e) (p ◂ test) w.Fit w.Is (λ v fit. ((v, tt), (fit, m.fit))) (λ v fit ts s. ((v, tt), refl, s)) (λ v ts s. (s.0, s.2, λ is. subst w.Is (sym s.1) is.0))

-- a key word behind a space, and the semicolon
abbrev pub word_then : {A : Type 0} → {p : Part A} → (w : List ℕ) → (is : is_key (str_to_ascii_lowercase w) w ≡ true) → (x : Written p) → meets Words x ≡ true → Written (is_word (str_to_ascii_lowercase w) ▸ p)
word_then w is x e = lead_as (word_as space w is) x e

abbrev pub end_as : {A : Type 0} → {p : Part A} → (w : Written p) → meets w.after ending.written ≡ true → Written (p ◂ semicolon)
end_as w e = close_as w ending e

-- ---- values seen through others, and the same part in other words

-- a value is written as one that it is seen as
abbrev pub seen_as : {A B : Type 0} → {p : Part A} → (f : A → B) → (w : Written p) → Written (seen f p)
seen_as {A} {p = p} f w =
    carry_as w (seen f p) (λ x. (y : A) × w.Fit y × (f y ≡ x)) (λ x. (y : A) × w.Is y × (f y ≡ x)) (λ x fit. (fit.0, fit.1)) (λ x fit ts s. (fit.0, sym fit.2, s)) (λ x ts s. (s.0, s.2, λ is. (s.0, is, sym s.1)))

-- values that can be written for another reason
abbrev pub fit_as : {A : Type 0} → {p : Part A} → (w : Written p) → (Fit : A → Type 0) → ((v : A) → Fit v → w.Fit v) → Written p
fit_as w Fit to = record w { Fit = Fit; pieces = λ v fit. w.pieces v (to v fit); put = λ v fit. w.put v (to v fit); begins = λ v fit. w.begins v (to v fit) }

-- what is read has another property
abbrev pub is_as : {A : Type 0} → {p : Part A} → (w : Written p) → (Is : A → Type 0) → ((v : A) → w.Is v → Is v) → Written p
is_as w Is from = record w { Is = Is; made = λ v ts r came spells. from v (w.made v ts r came spells) }

abbrev pub like_as : {A : Type 0} → {p : Part A} → (w : Written p) → (P : A → Type 0) → ((v : A) → P v → w.Fit v) → ((v : A) → w.Is v → P v) → Written p
like_as w P to from = is_as (fit_as w P to) P from

-- a value that is seen as one that has a property
abbrev pub shown_as : {A B : Type 0} → {p : Part A} → (f : A → B) → (w : Written p) → (P : B → Type 0) → ((x : B) → P x → (y : A) × w.Fit y × (f y ≡ x)) → ((y : A) → w.Is y → P (f y)) → Written (seen f p)
shown_as f w P to from = like_as (seen_as f w) P to (λ x is. subst P is.2 (from is.0 is.1))

-- where less may stand behind
abbrev pub after_as : {A : Type 0} → {p : Part A} → (w : Written p) → (b : Behind) → covers w.after b ≡ true → Written p
after_as w b e = record w { after = b; put = λ v fit others follows h. w.put v fit others follows (admitted w.after b (spelled others) e h) }

-- the same part, where further tokens could belong to it
abbrev pub wider_as : {A : Type 0} → {p : Part A} → (more : Lexeme → Bool) → (w : Written p) → Written (wider more p)
wider_as {p = p} more w = carry_as w (wider more p) w.Fit w.Is (λ v fit. (v, fit)) (λ v fit ts s. s) (λ v ts s. (v, s, λ is. is))

-- a part that is read, and never written
abbrev pub heard_as : {A : Type 0} → {p : Part A} → (Is : A → Type 0) → Yields Is p → Written p
heard_as Is made = record (leaf_as (λ v. ⊥) Is [] (λ v fit. []) Anything (λ v fit. absurd fit) made) { opens = End; begins = λ v fit. absurd fit }

-- ---- one of two, and no token

abbrev pub either_pieces : {A : Type 0} → {p q : Part A} → (a : Written p) → (b : Written q) → (v : A) → a.Fit v ⊎ b.Fit v → List (List ℕ)
either_pieces a b v (inl x) = a.pieces v x
either_pieces a b v (inr y) = b.pieces v y

pub choose_made : {A : Type 0} (p q : Part A) (test : Lexeme → Bool) (P Q : A → Type 0) → Yields P p → Yields Q q → Yields (λ v. P v ⊎ Q v) (choose test p q)
choose_made p q test P Q f g v ts r came spells = elim spells [ inl s ↦ inl (f v ts r came s) | inr s ↦ inr (g v ts r came s) ]

abbrev pub choose_as : {A : Type 0} → {p q : Part A} → {test : Lexeme → Bool} → (a : Written p) → (b : Written q) → Written (choose test p q)
choose_as {p = p} {q = q} {test = test} a b = record {
  Fit = λ v. a.Fit v ⊎ b.Fit v;
  Is = λ v. a.Is v ⊎ b.Is v;
  pieces = either_pieces a b;
  after = tighter a.after b.after;
  opens = looser a.opens b.opens;
  lacks = a.lacks || b.lacks;
  closed = a.closed && b.closed;
  put = λ v fit others follows e. elim fit as (λ f. IsPut (choose test p q) v (joined (either_pieces a b v f)) others) [
    | inl x ↦ put_as p (choose test p q) v v (joined (a.pieces v x)) others (a.put v x others follows (tight a.after b.after (spelled others) e).0) (λ ts s. inl s)
    | inr y ↦ put_as q (choose test p q) v v (joined (b.pieces v y)) others (b.put v y others follows (tight a.after b.after (spelled others) e).1) (λ ts s. inr s)
  ];
  begins = λ v fit. elim fit as (λ f. Opens (a.lacks || b.lacks) (looser a.opens b.opens) (joined (either_pieces a b v f))) [
    | inl x ↦ one_opens a.lacks b.lacks a.opens b.opens (joined (a.pieces v x)) (a.begins v x)
    | inr y ↦ other_opens a.lacks b.lacks a.opens b.opens (joined (b.pieces v y)) (b.begins v y)
  ];
  made = choose_made p q test a.Is b.Is a.made b.made;
  closes = λ e v ts spells. let both = and_parts a.closed b.closed e in elim spells [ inl s ↦ a.closes both.0 v ts s | inr s ↦ b.closes both.1 v ts s ];
}

-- a part that is written in two ways
abbrev pub also_as : {A : Type 0} → {p : Part A} → (a b : Written p) → Written p
also_as {p = p} a b = record (carry_as (choose_as {test = never} a b) p (λ v. a.Fit v ⊎ b.Fit v) (λ v. a.Is v ⊎ b.Is v) (λ v fit. (v, fit)) (λ v fit ts s. elim s [ inl x ↦ x | inr y ↦ y ]) (λ v ts s. (v, inl s, λ is. is))) { Is = a.Is; made = a.made }

-- no token stands for a value
abbrev pub nothing_as : {A : Type 0} → {test : Lexeme → Bool} → (v : A) → Written (nothing test v)
nothing_as {test = test} v = record {
  Fit = λ x. x ≡ v;
  Is = λ x. x ≡ v;
  pieces = λ x fit. [];
  after = Anything;
  opens = End;
  lacks = true;
  closed = false;
  put = λ x fit others follows e. none_put (nothing test v) x others (fit, refl) follows;
  begins = λ x fit m c rest e. e;
  made = λ x ts r came spells. spells.0;
  closes = not_closed (nothing test v);
}

abbrev pub OptionFit : {A : Type 0} → (A → Type 0) → Option A → Type 0
OptionFit Fit None = Unit {0}
OptionFit Fit (Some v) = Fit v

abbrev pub option_to : {A : Type 0} → (P : A → Type 0) → (o : Option A) → OptionFit P o → ((y : A) × P y × (Some y ≡ o)) ⊎ (o ≡ None)
option_to P None fit = inr refl
option_to P (Some v) fit = inl (v, fit, refl)

-- a value, or what stands for none
abbrev pub given_or : {A : Type 0} → (P : Option A → Type 0) → (o : Option A) → P o → ((y : A) × P (Some y) × (Some y ≡ o)) ⊎ ((u : Unit {0}) × Unit {0} × (None ≡ o))
given_or P None is = inr (tt, tt, refl)
given_or P (Some y) is = inl (y, is, refl)

pub or_given : {A : Type 0} (P : Option A → Type 0) → P None → (o : Option A) → ((y : A) × P (Some y) × (Some y ≡ o)) ⊎ ((u : Unit {0}) × Unit {0} × (None ≡ o)) → P o
or_given P at o h = grind arith

-- a part, or no token where more could belong to it
abbrev pub maybe_as : {A : Type 0} → {p : Part A} → {test : Lexeme → Bool} → (more : Lexeme → Bool) → (w : Written p) → Written (choose test (seen Some p) (nothing more None))
maybe_as more w = is_as (fit_as (choose_as (seen_as Some w) (nothing_as None)) (OptionFit w.Fit) (option_to w.Fit)) (OptionFit w.Is) (λ o h. elim h [ inl x ↦ subst (OptionFit w.Is) x.2 x.1 | inr e ↦ subst (OptionFit w.Is) (sym e) tt ])

-- ---- any number of items

abbrev pub AllFit : {A : Type 0} → (items : Items A) → ((s : items.State) → Written (items.item s)) → items.State → List A → Type 0
AllFit items each s [] = Unit {0}
AllFit items each s (v ∷ vs) = (each s).Fit v × AllFit items each (items.next s v) vs

-- items from a state on
abbrev pub items_pieces : {A : Type 0} → (items : Items A) → (each : (s : items.State) → Written (items.item s)) → (s : items.State) → (vs : List A) → AllFit items each s vs → List (List ℕ)
items_pieces items each s [] fit = []
items_pieces items each s (v ∷ vs) fit = (each s).pieces v fit.0 ++ items_pieces items each (items.next s v) vs fit.1

-- what this admits may stand behind an item, and an item begins with such
abbrev pub follows_on : {A : Type 0} → {p : Part A} → Behind → Written p → Bool
follows_on m w = covers w.after m && (covers m w.opens && not w.lacks)

pub items_begin : {A : Type 0} (items : Items A) (each : (s : items.State) → Written (items.item s)) (m : Behind) → ((s : items.State) → follows_on m (each s) ≡ true) → (s : items.State) (vs : List A) (fit : AllFit items each s vs) → Opens true m (joined (items_pieces items each s vs fit))
items_begin items each m on s [] fit n c rest e = e
items_begin items each m on s (v ∷ vs) fit n c rest e =
    let w = each s in
    let more = items_pieces items each (items.next s v) vs fit.1 in
    let opens = and_parts (covers m w.opens) (not w.lacks) (and_parts (covers w.after m) (covers m w.opens && not w.lacks) (on s)).1 in
    ap (λ (x : List ℕ). admits n (x ++ rest)) (joined-append (w.pieces v fit.0) more) ∙ ap (admits n) (append_assoc (joined (w.pieces v fit.0)) (joined more) rest)
    ∙ w.begins v fit.0 n (through n m w.opens c opens.0) (joined more ++ rest) (ap (λ (b : Bool). admits (cond b n Anything) (joined more ++ rest)) (not-true w.lacks opens.1))

-- items from a state on, as a part
abbrev pub items_from : {A : Type 0} → (items : Items A) → items.State → Part (List A)
items_from items s = record { Spells = Many items s; read = λ ts. stop ts; goes_on = never }

pub items_put : {A : Type 0} (items : Items A) (each : (s : items.State) → Written (items.item s)) (m : Behind) → ((s : items.State) → follows_on m (each s) ≡ true) → (s : items.State) (vs : List A) (fit : AllFit items each s vs) (others : List Lexeme) → Follows others → admits m (spelled others) ≡ true
    → IsPut (items_from items s) vs (joined (items_pieces items each s vs fit)) others
items_put items each m on s [] fit others follows e = none_put (items_from items s) [] others (no_more s) follows
items_put items each m on s (v ∷ vs) fit others follows e =
    let w = each s in
    let state = items.next s v in
    let more = items_pieces items each state vs fit.1 in
    let k = items_put items each m on state vs fit.1 others follows e in
    let next = begun m k (items_begin items each m on state vs fit.1 m (grind arith) (spelled others) e) in
    let j = w.put v fit.0 (k.tokens ++ others) (followed k) (admitted w.after m (spelled (k.tokens ++ others)) (and_parts (covers w.after m) (covers m w.opens && not w.lacks) (on s)).0 next) in
    put_as (items.item s then items_from items state) (items_from items s) (v, vs) (v ∷ vs) (joined (w.pieces v fit.0 ++ more)) others (then_put (items.item s) (items_from items state) v vs (w.pieces v fit.0) more others k j)
    (λ ts h. subst (Many items s (v ∷ vs)) (sym h.2) (one_more s v vs h.0 h.1 h.3 h.4))

pub items_made : {A : Type 0} (items : Items A) (each : (s : items.State) → Written (items.item s)) (P : A → Type 0) → ((s : items.State) (v : A) → (each s).Is v → P v) → (s : items.State) (vs : List A) (ts : List Lexeme) (r : List ℕ) → AllCame ts r → Many items s vs ts → AllByRecursion P vs
items_made items each P from s _ _ r came (no_more _) = tt
items_made items each P from s _ _ r came (one_more _ v vs a b spells others) = (from s v ((each s).made v a (spelled b ++ r) (came_front a b r came) spells), items_made items each P from (items.next s v) vs b r (came_behind a b r came) others)

-- any number of items, each of which has a property where it is read
abbrev pub many_as : {A : Type 0} → {goes_on : Lexeme → Bool} → {items : Items A} → (each : (s : items.State) → Written (items.item s)) → (P : A → Type 0) → ((s : items.State) (v : A) → (each s).Is v → P v) → (m : Behind) → ((s : items.State) → follows_on m (each s) ≡ true) → Written (many goes_on items)
many_as {goes_on = goes_on} {items = items} each P from m on = record {
  Fit = AllFit items each items.start;
  Is = AllByRecursion P;
  pieces = items_pieces items each items.start;
  after = m;
  opens = m;
  lacks = true;
  closed = false;
  put = λ vs fit others follows e. put_as (items_from items items.start) (many goes_on items) vs vs (joined (items_pieces items each items.start vs fit)) others (items_put items each m on items.start vs fit others follows e) (λ ts h. h);
  begins = items_begin items each m on items.start;
  made = items_made items each P from items.start;
  closes = not_closed (many goes_on items);
}

-- items that each have a property can be written, where each of them that has it can
abbrev pub all_fit : {A : Type 0} → (items : Items A) → (each : (s : items.State) → Written (items.item s)) → (P : A → Type 0) → ((s : items.State) (v : A) → P v → (each s).Fit v) → (s : items.State) → (vs : List A) → AllByRecursion P vs → AllFit items each s vs
all_fit items each P to s [] all = tt
all_fit items each P to s (v ∷ vs) all = (to s v all.0, all_fit items each P to (items.next s v) vs all.1)

abbrev pub alike_as : {A : Type 0} → {goes_on : Lexeme → Bool} → {items : Items A} → (each : (s : items.State) → Written (items.item s)) → (P : A → Type 0) → ((s : items.State) (v : A) → P v → (each s).Fit v) → ((s : items.State) (v : A) → (each s).Is v → P v) → (m : Behind) → ((s : items.State) → follows_on m (each s) ≡ true)
    → Written (many goes_on items)
alike_as {items = items} each P to from m on = fit_as (many_as each P from m on) (AllByRecursion P) (all_fit items each P to items.start)

-- ---- paths, and the text of a run of tokens

pub path_same : (g : List ℕ) (q : QName) → g ++ (written_name q.schema ++ (46 ∷ (written_name q.name ++ []))) ≡ g ++ (path q ++ [])
unfolding path
path_same g q = ap (λ (x : List ℕ). g ++ x) (sym (append_assoc (written_name q.schema) (46 ∷ written_name q.name) []))

abbrev pub path_as : {g : List ℕ} → Gap g → Written qualified
path_as {g} gap =
    pieces_as (shown_as (λ x. record { schema = x.0; name = x.1 }) (then_as (name_as gap) (lead_as dot_as (name_as none) refl) refl) IsPath (λ q is. ((q.schema, q.name), is, refl)) (λ x is. is))
    (λ q is. g ∷ path q ∷ []) (λ q is. path_same g q)

-- a run's text lies in tokens before what goes on with none
pub run_put : {A : Type 0} {Run : List Lexeme → Type 0} {g : List ℕ} (plain : IsPlain Run) (p : Part A) (x : A) (v : List ℕ) (others : List Lexeme) → Gap g → IsTextOf Run v → ((ts : List Lexeme) → Run ts → source ts ≡ v → words ts ≡ words (lexemes v (collected v 0).pieces) → p.Spells x ts)
    → Follows others → admits Safe (spelled others) ≡ true → IsPut p x (g ++ v) others
run_put {Run = Run} {g = g} plain p x v others gap is says follows e =
    let k = run_kept Run plain g v others gap is follows.stood e in
    record { tokens = k.tokens; bytes = k.bytes; stood = k.stood; spells = λ at. says (placed at k.tokens) (k.runs at) (k.whole at) (k.same at); last = plain_last k.tokens others k.plain follows.last }

pub run_made : {m : Machine} → IsPlainMachine m → Yields (IsRunText m) (seen source (runs_of m))
run_made {m} plain v ts r came spells = subst (IsRunText m) (ap source (sym spells.2.0) ∙ sym spells.1) (run_read m plain ts r came spells.2.1).text

abbrev pub run_as : {m : Machine} → {g : List ℕ} → IsPlainMachine m → Gap g → Written (seen source (runs_of m))
run_as {m} {g} plain gap = leaf_as (IsRunText m) (IsRunText m) g (λ v is. v) Safe (λ v is others. run_put (plain_runs plain) (seen source (runs_of m)) v v others gap is (λ ts runs whole same. (ts, sym whole, (refl, runs)))) (run_made plain)
