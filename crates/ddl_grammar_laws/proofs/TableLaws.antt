-- The items of CREATE TYPE, CREATE DOMAIN and CREATE TABLE are told apart.
use Rattle.ddl_grammar_laws.proofs.Common.{grammar, arith, ◌≡◌, ℕ, Bool, true, false, not, ◌||◌, [], ◌∷◌, Err, refl, ap, codes, ◌==◌, is_utf8, chars, encode, or_parts, not-true, is_keyword_of, name_of, Lexeme, is_word, is_sign, seen, Lawful, Apart, Avoids, Begins, comma, listing, name_in, name_value, is_name, literal, is_literal, default_text, default_and_null, ends_run, type_goes_on, type_part, Agrees, word_agrees, sign_agrees, name_agrees, literal_agrees, name_shortens, guarded_shortens, refused_shortens, Shortens, one_laws, one_begins, lead_begins, choose_begins, AreApart, listing_apart, a_word, name_begins, literal_laws, literal_begins, sign_laws, words_apart, choose_avoids, expression_laws, expression_ends_bracket, default_text_laws, default_and_null_laws, type_laws, Column, Check, Opening, BehindColumn, BehindCheck, more_attributes, not_null, null_first, default_first, attributes, typed, checking, column_name_value, column_name, column_of, column, element, last_element, element_begins, element_at, elements, more_elements, free, stop_no_type, sign_no_word, sign_no_type, word_is_name, begins_more, Headed, lawful_seen, lawful_word, lawful_then, headed_word, headed_seen, headed_next, lawful_choose, lawful_either, lawful_maybe, lawful_optional, avoids_headed, avoids_maybe}
use Rattle.ddl_grammar.specs.{declared.tables.Spot.Spot, Clauses.named_check}
use Rattle.ddl_grammar.proofs.Meanings.{column_name_is}

-- ---- checks

pub named_check_is : Headed (is_word (codes "constraint")) named_check
unfolding named_check
named_check_is = search (grammar, expression_laws, expression_ends_bracket) depth 20

pub named_check_free : (t : Lexeme) → named_check.goes_on t ≡ false
unfolding named_check
named_check_free t = refl

-- ---- CREATE TYPE

pub labels_apart : AreApart (λ t. is_literal t || (comma t || literal.goes_on t)) (listing is_literal literal)
labels_apart = listing_apart is_literal literal_agrees literal literal_laws literal_begins (free comma)

-- ---- types with what may follow them

null_first_is : Headed (is_word (codes "not")) null_first
unfolding null_first
null_first_is = headed_seen not_null (headed_word (codes "not") refl (lawful_word (codes "null") refl (lawful_optional (headed_word (codes "default") refl default_text_laws))))

no_more : (t : Lexeme) → more_attributes t ≡ false → (is_word (codes "not") t ≡ false) × (is_word (codes "default") t ≡ false) × (type_goes_on t ≡ false)
no_more t e = grind (arith, or_parts)

attributes_laws : Lawful attributes
unfolding attributes default_first
attributes_laws =
    let no_not : (t : Lexeme) → more_attributes t ≡ false → is_word (codes "not") t ≡ false = λ t e. (no_more t e).0 in
    let no_default : (t : Lexeme) → more_attributes t ≡ false → is_word (codes "default") t ≡ false = λ t e. (no_more t e).1 in
    search (lawful_choose, null_first_is, lawful_maybe, no_default, avoids_maybe, words_apart, no_not, arith, headed_seen, headed_word, default_and_null_laws)

attributes_no_type : Avoids type_goes_on attributes
unfolding attributes default_first
attributes_no_type = grind (arith, choose_avoids, avoids_headed, null_first_is, stop_no_type, avoids_maybe, no_more, headed_seen, headed_word, default_and_null_laws)

pub typed_laws : Lawful typed
unfolding typed type_part
typed_laws = lawful_then type_laws attributes_laws attributes_no_type

-- what ends a default, a type and NOT NULL alike
pub attributes_end : (t : Lexeme) → ends_run true t ≡ true → is_word (codes "not") t ≡ false → is_word (codes "default") t ≡ false → type_goes_on t ≡ false → attributes.goes_on t ≡ false
unfolding attributes null_first default_first default_text default_and_null
attributes_end t ends no_not no_default no_type = rw (ends, no_not, no_default, no_type) refl

pub sign_end : (b : ℕ) → ((t : Lexeme) → is_sign b t ≡ true → ends_run true t ≡ true) → (46 == b) ≡ false → (40 == b) ≡ false → (91 == b) ≡ false → Apart (is_sign b) attributes.goes_on
sign_end b ends dot round square t e = attributes_end t (ends t e) (sign_no_word b (codes "not") t e) (sign_no_word b (codes "default") t e) (sign_no_type b dot round square t e)

-- ---- CREATE DOMAIN

pub checks_apart : AreApart (is_word (codes "constraint")) checking
checks_apart = grind (arith, named_check_is, word_agrees, named_check_free)

-- ---- CREATE TABLE

column_name_laws : Lawful column_name
unfolding column_name_value is_word is_keyword_of name_value name_in name_of is_utf8 chars encode
column_name_laws =
    let column_name_shortens : Shortens column_name_value =
    guarded_shortens (is_word (codes "constraint")) (λ t. Err false) name_value column_name_value (word_agrees (codes "constraint") refl) refused_shortens name_shortens (λ t. refl) in
    one_laws column_name_value column_name_shortens (a_word (codes "a")) (codes "a") refl

column_by : {test : Lexeme → Bool} → Agrees test → Begins test column_name → Headed test column
unfolding column
column_by {test} agrees begins = let named : Headed test column_name = record { laws = column_name_laws; begins = begins; agrees = agrees } in headed_seen column_of (headed_next named typed_laws (λ t. refl))

column_is_no_check : Headed (λ t. not (is_word (codes "constraint") t)) column
column_is_no_check = column_by (λ t long. ap not (word_agrees (codes "constraint") refl t long)) (one_begins column_name_value (λ t. not (is_word (codes "constraint") t)) (λ t v e. ap not (column_name_is t v e).0))

pub element_laws : Lawful element
unfolding element
element_laws = lawful_either (headed_seen Check named_check_is) (headed_seen Column column_is_no_check) (λ t e. not-true (is_word (codes "constraint") t) e)

element_begins_name : Begins is_name element
unfolding element
element_begins_name =
    choose_begins (is_word (codes "constraint")) is_name (seen Check named_check) (seen Column column)
    (begins_more (is_word (codes "constraint")) is_name (seen Check named_check) (word_is_name (codes "constraint")) (headed_seen Check named_check_is).begins)
    (headed_seen Column (column_by name_agrees (one_begins column_name_value is_name (λ t v e. name_begins v (t ∷ []) (t, refl, (column_name_is t v e).1))))).begins

pub column_ends : (t : Lexeme) → attributes.goes_on t ≡ false → element.goes_on t ≡ false
unfolding element column typed named_check
column_ends t e = e

comma_no_element : Apart comma element.goes_on
unfolding attributes null_first default_first default_text default_and_null ends_run
comma_no_element t e = let comma_no_attributes : Apart comma attributes.goes_on = grind (arith, sign_no_word, sign_no_type) in column_ends t (comma_no_attributes t e)

pub elements_apart : AreApart more_elements elements
unfolding last_element
elements_apart = record {
  laws = λ s ts e. laws s;
  agrees = agrees;
  begins = grind (arith, element_begins_name, lead_begins);
  apart = grind (arith, comma_no_element, named_check_free);
  covers = grind (arith, or_parts, named_check_free);
}
  where
    laws : (s : Spot) → Lawful (element_at s)
    laws Opening = element_laws
    laws BehindColumn = sign_laws 44 element element_laws
    laws BehindCheck = sign_laws 44 last_element (lawful_seen Check named_check_is.laws)

    agrees : (s : Spot) → Agrees (element_begins s)
    agrees Opening = name_agrees
    agrees x = sign_agrees 44
