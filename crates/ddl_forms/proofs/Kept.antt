-- Tokens of a text are read as the same tokens in another text, where they are kept with what stands between them.
use Rattle.ddl_forms.proofs.Common.{◌≡◌, ℕ, zero, suc, ◌+◌, ◌-◌, ◌<◌, ◌≤◌, true, false, List, [], ◌∷◌, ◌++◌, length, length-append, append_assoc, take, drop, Option, Some, None, Result, Ok, Err, refl, sym, ap, subst, ◌∙◌, arith, inl, inr, slice_range, is_utf8, and_parts, or_parts, nat_tests, cases_Bool, drop_at, drop_split, TokenKind, Word, QuotedName, Literal, Number, Sign, MetaLine, Token, LexFault, is_blank, is_digit, begins_word, in_word, marks_escapes, next_is, next_token_of, LiesBehind, spelling, Spells, AreDigits, IsGap, goes_on, goes_on_behind_dot, Between, gap, IsNext, next_found, piece_word, quoted_is, word_free, digit_free, lies_behind, spelling_is_read, gap_is_passed, Lexeme, spelled, is_sign_kind, lexeme_of, lexemes, Collected, collected, collected_within, collected_by, nothing_more, preceded, and_false, drop_twice, seam, between_low, semicolon, add_assoc}
use Rattle.sql_lex.specs.{Bytes.is_sign as is_sign_byte, Answers.nothing}
use Rattle.ddl_forms.proofs.Standing.{is_safe, Stands, Stood}

-- ---- tokens as they came

-- white space and comments, before these bytes
pub data Gaps : List ℕ → List ℕ → Type 0 where
  no_gap : (behind : List ℕ) → Gaps [] behind
  one_gap : (g more behind : List ℕ) → IsGap g (more ++ behind) → is_utf8 g ≡ true → Gaps more behind → Gaps (g ++ more) behind

pub record Came (t : Lexeme) (behind : List ℕ) : Type 0 where
  pub gap : Gaps t.gap (t.word ++ behind)
  pub spells : Spells t.kind t.word
  pub utf8 : is_utf8 t.word ≡ true
  pub ends : goes_on t.kind t.word behind ≡ false

-- tokens one after another, before these bytes
abbrev pub AllCame : List Lexeme → List ℕ → Type 0
AllCame [] behind = Unit {0}
AllCame (t ∷ ts) behind = Came t (spelled ts ++ behind) × AllCame ts behind

left_of : (text : List ℕ) (at end : ℕ) (word rest : List ℕ) → drop at text ≡ word ++ rest → end ≡ at + length word → rest ≡ drop end text
left_of text at end word rest e ends = sym (drop_at word rest (length word) refl) ∙ ap (drop (length word)) (sym e) ∙ drop_twice (length word) at text ∙ ap (λ n. drop n text) (sym ends)

between_gaps : (text : List ℕ) (at to : ℕ) → Between text at to → Gaps (slice_range text at to) (drop to text)
between_gaps text _ _ (nothing at) = subst (λ n. Gaps (take n (drop at text)) (drop at text)) (let e : 0 ≡ at - at = omega arith in e) (no_gap (drop at text))
between_gaps text _ _ (gap at end to s more) =
    let p = s.piece in
    let low = between_low text end to more in
    let rest : p.rest ≡ slice_range text end to ++ drop to text = left_of text at end p.word p.rest p.bytes p.ends ∙ drop_split text end to low in
    let whole : p.word ++ slice_range text end to ≡ slice_range text at to = ap (λ (x : List ℕ). x ++ slice_range text end to) (sym (piece_word text None at end p)) ∙ seam text at end to (omega (arith, p.ends)) low in
    subst (λ (x : List ℕ). Gaps x (drop to text)) whole (one_gap p.word (slice_range text end to) (drop to text) (subst (IsGap p.word) rest p.is) s.utf8 (between_gaps text end to more))

pub came_token : (text : List ℕ) (at : ℕ) (t : Token) → at ≤ length text → next_token_of text at ≡ Ok (Some t) → Came (lexeme_of text (record { from = at; token = t })) (drop t.end text)
unfolding spelling
came_token text at t le e =
    let found : IsNext text at (Ok (Some t)) = subst (IsNext text at) e (next_found text at le) in
    let p = found.2.piece in
    let word : p.word ≡ slice_range text t.start t.end = sym (piece_word text (Some t.kind) t.start t.end p) in
    record {
      gap = subst (Gaps (slice_range text at t.start)) (drop_split text t.start t.end (omega (arith, p.ends))) (between_gaps text at t.start found.0);
      spells = subst (Spells t.kind) word p.is.spells;
      utf8 = ap is_utf8 (sym word) ∙ found.2.utf8;
      ends = ap (goes_on t.kind (slice_range text t.start t.end)) (sym (left_of text t.start t.end p.word p.rest p.bytes p.ends)) ∙ ap (λ (w : List ℕ). goes_on t.kind w p.rest) (sym word) ∙ p.is.ends;
    }

-- what is collected from a place on came so, and is what stands there
record HasCome (text : List ℕ) (at : ℕ) (c : Collected) : Type 0 where
  came : AllCame (lexemes text c.pieces) (drop c.end text)
  whole : drop at text ≡ spelled (lexemes text c.pieces) ++ drop c.end text

-- what holds where nothing is collected, and is handed on by each token, holds of what is collected from a place on
pub collected_has : (text : List ℕ) (P : ℕ → Collected → Type 0) → ((at : ℕ) (fault : Option LexFault) → at ≤ length text → P at (nothing_more at fault))
    → ((at : ℕ) (t : Token) (c : Collected) → at ≤ length text → next_token_of text at ≡ Ok (Some t) → LiesBehind text at (Ok (Some t)) → (is_sign_kind 59 t.kind ≡ true → c.pieces ≡ []) → P t.end c → P at (preceded (record { from = at; token = t }) c))
    → (n at : ℕ) → at ≤ length text → P at (collected_within n text at)
unfolding collected_within
collected_has text P none one zero at le = none at None le
collected_has text P none one (suc n) at le = by (next_token_of text at) refl (λ end high. collected_has text P none one n end high)
  where
    by : (r : Result (Option Token) LexFault) → next_token_of text at ≡ r → ((end : ℕ) → end ≤ length text → P end (collected_within n text end)) → P at (collected_by (collected_within n text) at r)
    by (Err fault) e later = none at (Some fault) le
    by (Ok None) e later = none at None le
    by (Ok (Some t)) e later =
        let lies = lies_behind text at (Ok (Some t)) le (sym e) in
        elim (cases_Bool (is_sign_kind 59 t.kind)) [
          | inl is ↦ rw is (one at t (nothing_more t.end None) le e lies (λ h. refl) (none t.end None lies.2))
          | inr isnt ↦ rw isnt (one at t (collected_within n text t.end) le e lies (λ h. absurd cc) (later t.end lies.2))
        ]

one_comes : (text : List ℕ) (at : ℕ) (t : Token) (c : Collected) → at ≤ length text → next_token_of text at ≡ Ok (Some t) → LiesBehind text at (Ok (Some t)) → HasCome text t.end c → HasCome text at (preceded (record { from = at; token = t }) c)
unfolding spelling
one_comes text at t c le e lies later = record {
  came = (subst (Came (lexeme_of text (record { from = at; token = t }))) later.whole (came_token text at t le e), later.came);
  whole = drop_split text at t.start lies.0 ∙ ap (λ (x : List ℕ). slice_range text at t.start ++ x) (drop_split text t.start t.end (omega (arith, lies.1)) ∙ ap (λ (x : List ℕ). slice_range text t.start t.end ++ x) later.whole) ∙ simp append_assoc;
}

come_within : (n : ℕ) (text : List ℕ) (at : ℕ) → at ≤ length text → HasCome text at (collected_within n text at)
come_within n text = collected_has text (HasCome text) (λ at fault le. record { came = tt; whole = refl }) (λ at t c le e lies last. one_comes text at t c le e lies) n

pub whole_text : (text : List ℕ) (at : ℕ) → at ≤ length text → drop at text ≡ spelled (lexemes text (collected text at).pieces) ++ drop (collected text at).end text
unfolding collected
whole_text text at le = (come_within (length text + 1) text at le).whole

pub have_come : (text : List ℕ) (at : ℕ) → at ≤ length text → AllCame (lexemes text (collected text at).pieces) (drop (collected text at).end text)
unfolding collected
have_come text at le = (come_within (length text + 1) text at le).came

-- ---- parts of them

pub spelled-append : (a b : List Lexeme) → spelled (a ++ b) ≡ spelled a ++ spelled b
spelled-append [] b = refl
spelled-append (t ∷ a) b = rw (spelled-append a b) (simp append_assoc)

pub came_front : (a b : List Lexeme) (r : List ℕ) → AllCame (a ++ b) r → AllCame a (spelled b ++ r)
came_front [] b r h = tt
came_front (t ∷ a) b r h = (subst (Came t) (ap (λ (x : List ℕ). x ++ r) (spelled-append a b) ∙ append_assoc (spelled a) (spelled b) r) h.0, came_front a b r h.1)

pub came_behind : (a b : List Lexeme) (r : List ℕ) → AllCame (a ++ b) r → AllCame b r
came_behind [] b r h = h
came_behind (t ∷ a) b r h = came_behind a b r h.1

-- ---- what a token begins with

-- it begins with a byte that is no white space
abbrev pub Begun : List ℕ → Type 0
Begun [] = ⊥
Begun (b ∷ rest) = is_blank b ≡ false

pub begun_some : (word : List ℕ) → Begun word → 0 < length word
begun_some word h = grind arith

solid : (b : ℕ) (word rest : List ℕ) → word ≡ b ∷ rest → is_blank b ≡ false → Begun word
solid b word rest e f = subst Begun (sym e) f

pub token_begun : (kind : TokenKind) (word : List ℕ) → (kind ≡ MetaLine → ⊥) → Spells kind word → Begun word
unfolding is_blank marks_escapes is_sign_byte
token_begun Word word line h = grind (arith, word_free)
token_begun QuotedName word line h = solid 34 word _ (h.1 ∙ quoted_is 34 h.0) refl
token_begun Literal word line (inl h) = solid 39 word _ (h.1 ∙ quoted_is 39 h.0) refl
token_begun Literal word line (inr h) = solid h.0 word _ h.4 (grind (arith, nat_tests))
token_begun Number word line (inl h) = grind (arith, and_parts, digit_free)
token_begun Number word line (inr h) = by h.0 h.2 h.4
  where
    by : (whole : List ℕ) → AreDigits whole → word ≡ whole ++ 46 ∷ h.1 → Begun word
    by [] d e = absurd (let k = d.0 in omega arith)
    by (b ∷ whole) d e = solid b word (whole ++ 46 ∷ h.1) e (digit_free b (and_parts _ _ d.1).0).0
token_begun (Sign b) word line h = solid b word [] h.1 (grind (arith, nat_tests))
token_begun MetaLine word line h = absurd (line refl)

-- ---- where they are kept

-- nothing that is safe goes on with a token
pub safe_ends : (kind : TokenKind) (word after : List ℕ) → (kind ≡ MetaLine → ⊥) → is_safe after ≡ true → goes_on kind word after ≡ false
unfolding begins_word goes_on goes_on_behind_dot in_word is_digit next_is
safe_ends kind word after e f = grind (arith, nat_tests, and_false)

pub still_ends : (kind : TokenKind) (word m r after : List ℕ) → (kind ≡ MetaLine → ⊥) → goes_on kind word (m ++ r) ≡ false → is_safe after ≡ true → goes_on kind word (m ++ after) ≡ false
unfolding goes_on next_is goes_on_behind_dot is_digit
still_ends kind word [] r after line e safe = safe_ends kind word after line safe
still_ends kind word (x ∷ []) r after line e safe = grind (arith, or_parts, and_false, nat_tests)
still_ends kind word (x ∷ y ∷ m) r after line e safe = grind arith

-- a gap before a byte at least, whatever comes behind that
gap_again : (g m r other : List ℕ) → 0 < length m → IsGap g (m ++ r) → IsGap g (m ++ other)
unfolding next_is
gap_again g [] r other some h = absurd (omega arith)
gap_again g (x ∷ m) r other some h = grind arith

gaps_pass : (gap word r other : List ℕ) → 0 < length word → (behind : List ℕ) → behind ≡ word ++ r → Gaps gap behind → (front : List ℕ) → next_token_of (front ++ (gap ++ (word ++ other))) (length front) ≡ next_token_of (front ++ (gap ++ (word ++ other))) (length front + length gap)
gaps_pass _ word r other some behind e (no_gap _) front = ap (next_token_of (front ++ (word ++ other))) (let p : length front ≡ length front + 0 = omega arith in p)
gaps_pass _ word r other some behind e (one_gap g more _ is utf8 gaps) front =
    let passed = gap_is_passed front g (more ++ (word ++ other)) (rw append_assoc at (gap_again g (more ++ word) r other (omega (arith, length-append more word)) (rw (e, ← append_assoc more word r) at is))) utf8 in
    simp (append_assoc, length-append) (passed ∙ simp (append_assoc, length-append, add_assoc) at (gaps_pass more word r other some behind e gaps (front ++ g)))

-- a token that came before some bytes stands before a front of them that is followed by what is safe
pub stands_again : (t : Lexeme) (m r s : List ℕ) → (t.kind ≡ MetaLine → ⊥) → 0 < length t.word → Came t (m ++ r) → ((after : List ℕ) → is_safe after ≡ true → is_safe (s ++ after) ≡ true) → Stands t (m ++ s)
stands_again t m r s line some came safe = record {
  gap = λ front after e.
      rw (append_assoc t.word (m ++ s) after)
      (gaps_pass t.gap t.word (m ++ r) ((m ++ s) ++ after) some (t.word ++ (m ++ r)) refl came.gap front);
  token = λ front after e.
      spelling_is_read front t.word ((m ++ s) ++ after) t.kind came.spells
      (ap (goes_on t.kind t.word) (append_assoc m s after) ∙ still_ends t.kind t.word m r (s ++ after) line came.ends (safe after e)) came.utf8 (λ e. absurd (line e));
  some = some;
}

-- none of the tokens is a semicolon, or a line that begins with a backslash
pub record Plain (t : Lexeme) : Type 0 where
  pub ends : semicolon t ≡ false
  pub line : t.kind ≡ MetaLine → ⊥

abbrev pub AllPlain : List Lexeme → Type 0
AllPlain [] = Unit {0}
AllPlain (t ∷ ts) = Plain t × AllPlain ts

-- tokens that are kept stand before others that begin with what is safe
pub all_stand_again : (ts others : List Lexeme) (r : List ℕ) → AllPlain ts → AllCame ts r → Stood others → ((after : List ℕ) → is_safe after ≡ true → is_safe (spelled others ++ after) ≡ true) → Stood (ts ++ others)
all_stand_again [] others r plain came stood safe = stood
all_stand_again (t ∷ ts) others r plain came stood safe = (
  subst (Stands t) (sym (spelled-append ts others)) (stands_again t (spelled ts) r (spelled others) plain.0.line (begun_some t.word (token_begun t.kind t.word plain.0.line came.0.spells)) came.0 safe),
  all_stand_again ts others r plain.1 came.1 stood safe,
)
