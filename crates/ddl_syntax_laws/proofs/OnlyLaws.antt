-- The path of a table, before which ONLY may stand, and a change of the table have the laws of a part.
use Rattle.ddl_part_laws.proofs.Common.{Bool, false, not, Err, refl, ap, codes, arith, not-true, Lexeme, is_word, is_name, is_keyword_of, is_utf8, chars, encode, name_of, name_in, name_value, Part, qualified, Lawful, a_word}
use Rattle.ddl_part_laws.proofs.{Simple.one_laws, Simple.one_begins, Shorter.word_agrees, Shorter.name_agrees, Shorter.name_shortens, Shorter.guarded_shortens, Shorter.refused_shortens, Leads.name_laws, Leads.qualified_laws, Leads.qualified_begins, Telling.sign_no_name, Composing.Headed, Composing.lawful_sign, Composing.lawful_next, Composing.lawful_either, Composing.headed_sign, Composing.headed_seen, Composing.headed_next}
use Rattle.ddl_grammar.specs.OnlyGrammar.{only_value, only_name, other_value, other_name, path_of, other_path, in_schema, key_word, only_path, table_and}
use Rattle.ddl_grammar.proofs.Meanings.{only_is, other_is}

abbrev is_no_only : Lexeme → Bool
is_no_only t = not (is_word (codes "only") t)

only_name_is : Headed (is_word (codes "only")) only_name
unfolding only_value is_word is_keyword_of name_value name_in name_of is_utf8 chars encode
only_name_is = record { agrees = word_agrees (codes "only") refl; laws = one_laws only_value (guarded_shortens (is_word (codes "only")) name_value (λ t. Err false) only_value (word_agrees (codes "only") refl) name_shortens refused_shortens (λ t. refl)) (a_word (codes "only")) (codes "only") refl; begins = one_begins only_value (is_word (codes "only")) (λ t v e. (only_is t v e).0) }

other_name_is : Headed is_no_only other_name
unfolding other_value is_word is_keyword_of name_value name_in name_of is_utf8 chars encode
other_name_is = record { agrees = λ t long. ap not (word_agrees (codes "only") refl t long); laws = one_laws other_value (guarded_shortens (is_word (codes "only")) (λ t. Err false) name_value other_value (word_agrees (codes "only") refl) refused_shortens name_shortens (λ t. refl)) (a_word (codes "a")) (codes "a") refl; begins = one_begins other_value is_no_only (λ t v e. ap not (other_is t v e).0) }

other_path_is : Headed is_no_only other_path
unfolding other_path
other_path_is = headed_seen path_of (headed_next other_name_is (lawful_sign 46 name_laws) (λ t. refl))

pub table_and_laws : {A : Type 0} {own change : Part A} → Lawful own → Lawful change → Lawful (table_and own change)
unfolding other_path
table_and_laws own change =
    let path : Headed is_name qualified = record { laws = qualified_laws; begins = qualified_begins; agrees = name_agrees } in
    let schema = headed_seen (λ x. in_schema x.0 x.1) (headed_sign 46 (lawful_next name_laws change (λ t. refl))) in
    let behind = lawful_either schema (headed_seen (λ x. key_word x.0 x.1) (headed_next path own (λ t. refl))) (grind (arith, sign_no_name)) in
    lawful_either (headed_seen (λ x. only_path x.0 x.1) (headed_next only_name_is behind (λ t. refl))) (headed_next other_path_is change (λ t. refl)) (λ t e. not-true (is_word (codes "only") t) e)
