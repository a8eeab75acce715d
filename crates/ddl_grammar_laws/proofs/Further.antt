-- Options that are dropped, and the encoding, as they are read.
use Rattle.ddl_grammar_laws.proofs.Common.{◌≡◌, ℕ, true, false, cond, not, ◌&&◌, ◌||◌, List, [], ◌∷◌, Some, None, Ok, Err, bytes_eq, drop, refl, ap, ◌∙◌, codes, arith, str_to_ascii_lowercase, bytes_eq-Decides, TokenKind, Word, QuotedName, is_keyword_of, Encoding, Utf8, Lexeme, is_word, is_sign, starts, number_first, literal, is_name, is_literal, is_word_kind, is_number, Stop, Reading, stop, seen_at, mark, many, ◌▸◌, Lawful, ReadError, Fails, mark_laws, seen_laws, lead_laws, lead_begins, a_word, a_literal, sign_laws, AreApart, many_laws, from_read, from_stop, from_none, any_word, word_first, is_bare, own_options, is_option, is_value, further, furthering, furthers, utf8_value, utf8, word_like}

-- ---- bare words

self_by : (k : TokenKind) (w : List ℕ) → is_keyword_of k w w ≡ is_word_kind k
unfolding is_keyword_of
self_by Word w = (bytes_eq-Decides (str_to_ascii_lowercase w) (str_to_ascii_lowercase w)).1 refl
self_by QuotedName w = refl
self_by x w = refl

-- a token is a bare word where it is the key word that is spelled as it is
pub bare_is : (ts : List Lexeme) (w : List ℕ) → Some w ≡ word_first ts → starts (is_word w) ts ≡ starts is_bare ts
unfolding is_word is_bare
bare_is [] w e = refl
bare_is (t ∷ ts) w e = let same : w ≡ t.word = cc in ap (λ (x : List ℕ). is_keyword_of t.kind t.word x) same ∙ self_by t.kind t.word

pub no_bare : (ts : List Lexeme) → None ≡ word_first ts → starts is_bare ts ≡ false
no_bare ts e = grind arith

-- ---- tests of the first token

pub option_starts : (ts : List Lexeme) → starts is_option ts ≡ (not (starts (any_word own_options) ts) && starts is_bare ts)
unfolding is_option
option_starts ts = grind arith

pub some_number : (ts : List Lexeme) (w : List ℕ) → Some w ≡ number_first ts → starts is_number ts ≡ true
unfolding is_number
some_number ts w e = grind arith

pub no_number : (ts : List Lexeme) → None ≡ number_first ts → starts is_number ts ≡ false
unfolding is_number
no_number ts e = grind arith

pub value_starts : (ts : List Lexeme) → starts is_value ts ≡ (starts is_name ts || (starts is_literal ts || starts is_number ts))
unfolding is_value
value_starts ts = grind arith

-- ---- a further option

pub furthers_apart : AreApart is_option furthering
unfolding further is_option is_bare is_word is_keyword_of is_value is_name is_literal is_number
furthers_apart =
    let further_laws : Lawful further =
    lead_laws is_option (λ t long. simp (word_like t long)) (a_word (codes "owner")) (is_sign 61 ▸ mark is_value) refl (sign_laws 61 (mark is_value) (mark_laws is_value (λ t long. refl) a_literal refl)) in
    grind (arith, further_laws, word_like, lead_begins)

pub furthers_laws : Lawful furthers
unfolding furthers
furthers_laws = seen_laws (λ options. tt) (many is_option furthering) (many_laws furthers_apart)

-- ---- a loop over further options

pub goes_by : (ts : List Lexeme) (at next : ℕ) → starts is_option (drop at ts) ≡ true → further.read (drop at ts) ≡ Ok (tt, drop next ts) → furthers.read (drop at ts) ≡ furthers.read (drop next ts)
unfolding furthers
goes_by ts at next begins e = ap (seen_at (λ options. tt)) (from_read furthers_apart tt (drop at ts) (Ok (tt, drop next ts)) begins e) ∙ (grind arith)

pub ends_at : (ts : List Lexeme) (at : ℕ) → starts is_option (drop at ts) ≡ false → furthers.read (drop at ts) ≡ Ok (tt, drop at ts)
unfolding furthers
ends_at ts at none = ap (seen_at (λ options. tt)) (from_none furthering tt (drop at ts) none)

pub stops_by : (ts : List Lexeme) (at : ℕ) (s : Stop) → starts is_option (drop at ts) ≡ true → further.read (drop at ts) ≡ Err s → furthers.read (drop at ts) ≡ Err s
unfolding furthers
stops_by ts at s begins e = ap (seen_at (λ options. tt)) (from_stop furthering tt (drop at ts) s begins e)

pub fails_by : (whole : Reading (Unit {0})) (ts : List Lexeme) (at : ℕ) (error : ReadError) → whole ≡ furthers.read (drop at ts) → starts is_option (drop at ts) ≡ true → Fails ts error (further.read (drop at ts)) → Fails ts error whole
fails_by whole ts at error same begins e = grind (arith, stops_by)

-- ---- the encoding

abbrev utf8_by : List Lexeme → Reading (List ℕ) → Reading Encoding
utf8_by ts (Ok x) = cond (bytes_eq x.0 (codes "UTF8")) (Ok (Utf8, x.1)) (stop ts)
utf8_by ts (Err s) = Err s

-- a literal is read, and then its text is tried
pub utf8_read : (ts : List Lexeme) → utf8.read ts ≡ utf8_by ts (literal.read ts)
unfolding utf8_value
utf8_read ts = grind arith
