-- The options of CREATE DATABASE have the laws of a part.
use Rattle.ddl_grammar_laws.proofs.Common.{[], ◌∷◌, Some, None, refl, codes, arith, or_parts, is_utf8, chars, encode, next_is, literal_of, undoubled, inside, Literal, Utf8, Lexeme, is_word, is_sign, Lawful, Apart, Avoids, literal_value, text_in, path_value, one_laws, sign_no_word, Headed, lawful_seen, lawful_sign, lawful_then, headed_word, headed_seen, headed_next, lawful_maybe, avoids_maybe, is_bare, is_option, furthers, utf8_value, encoded, goes_on, maybe_encoded, sign_kind_by}
use Rattle.ddl_grammar.specs.Databases.{options}
use Rattle.ddl_grammar_laws.proofs.Further.{furthers_laws}

abbrev a_utf8 : Lexeme
a_utf8 = record { gap = 32 ∷ []; kind = Literal; word = codes "'UTF8'"; start = 0 }

encoded_is : Headed (is_word (codes "encoding")) encoded
unfolding encoded utf8_value literal_value text_in literal_of undoubled inside next_is is_utf8 chars encode path_value
encoded_is = headed_seen (λ x. x.0) (headed_next (headed_word (codes "encoding") refl (lawful_sign 61 (one_laws utf8_value (grind arith) a_utf8 Utf8 refl))) furthers_laws (λ t. refl))

pub options_laws : Lawful options
unfolding options maybe_encoded furthers is_option
options_laws =
    let avoids : Avoids is_option maybe_encoded = avoids_maybe is_option (headed_seen Some encoded_is) (grind arith) goes_on None (λ t e. (or_parts (is_word (codes "encoding") t) (is_option t) e).1) in
    let maybe : Lawful maybe_encoded = lawful_maybe goes_on None (headed_seen Some encoded_is) (λ t e. (or_parts (is_word (codes "encoding") t) (is_option t) e).0) in
    lawful_seen (λ x. x.1) (lawful_then furthers_laws maybe avoids)

pub options_end : Apart (is_sign 59) options.goes_on
unfolding options maybe_encoded encoded furthers is_option is_bare is_sign
options_end = grind (arith, sign_no_word, sign_kind_by)
