-- The laws of columns and what follows them, of brackets, values, labels, what a table and a domain are made of, and clauses;
-- and which tokens end them.
use Rattle.ddl_part_laws.proofs.Common.{◌≡◌, ℕ, Bool, true, false, ◌||◌, ◌==◌, List, [], ◌∷◌, ◌++◌, Ok, Err, refl, ap, ◌∙◌, append_assoc, arith, codes, not-false, or_parts, Lexeme, starts, is_word, is_sign, is_name, is_literal, never, source, Part, mark, ◌▸◌, ◌◂◌, Many, no_more, one_more, many, Lawful, Apart, Avoids, one_of, QName, TokenKind, Literal, Inside, text_in, literal_of, literal_value, path_value, expression, nest_step, nest_done, ends_run, words_apart, short_word}
use Rattle.ddl_forms.proofs.RunTexts.{sign_kind}
use Rattle.ddl_part_laws.proofs.{Steps.starts-append, Simple.one_laws, Simple.nothing_laws, Simple.mark_begins, Shorter.sign_agrees, Shorter.word_no_text, Repeated.many_laws, Leads.name_laws, Leads.word_no_sign, Leads.sign_is, Tables.one_of_laws, RunLaws.expression_laws, RunLaws.run_ends, Telling.free, Telling.sign_no_word, Telling.signs_apart, Telling.sign_no_name, Telling.stop_no_type, Composing.Headed, Composing.lawful_seen, Composing.lawful_ended, Composing.lawful_then, Composing.lawful_next, Composing.headed_word, Composing.headed_sign, Composing.headed_seen, Composing.one_word, Composing.one_literal, Composing.lawful_choose, Composing.lawful_either, Composing.lawful_maybe, Composing.lawful_unless, Composing.avoids_maybe, Composing.◌also◌}
use Rattle.ddl_grammar_laws.proofs.{ColumnLaws.names_apart, RestLaws.begun_by_laws, TableLaws.named_check_is, TableLaws.typed_laws, TableLaws.attributes_end, TableLaws.sign_end, TableLaws.checks_apart, TableLaws.column_ends}
use Rattle.ddl_grammar.specs.Comments.{remark}
use Rattle.std.specs.Prelude.{Some, None}
use Rattle.ddl_grammar.specs.{Columns.names_of, Columns.columns, RelationGrammar.bracketed, Rests.rest_goes_on, Rests.nothing_more, Rests.maybe, Rests.deferral, Rests.set_columns, Rests.action, Rests.on_delete, Rests.behind_on, Rests.reactions, Rests.key_rest, Rests.foreign_rest, TableGrammar.attributes, TableGrammar.typed, TableGrammar.checking, TableGrammar.domain_rest, TableGrammar.table_elements, ValueGrammar.truth, ValueGrammar.literal_path}
use Rattle.ddl_grammar.proofs.Common.{path_of, a_sign, is_utf8, chars, encode, is_blank, is_digit, begins_word, in_word, marks_escapes, in_line, next_is, run_end, quote_end, escape_end, comment_end, fraction_end, number_end, begins_line, closed, begun, in_utf8, piece_at, next_within, next_token_of, inside, undoubled, name_of, is_keyword_of, spelling, name_in, name_value, collected_within, collected, path_in}
use Rattle.sql_lex.specs.{Bytes.is_sign as sign_byte}
use Rattle.cat_model.specs.declared.table.CheckDef.{CheckDef}

-- ---- columns

pub columns_are : Headed (is_sign 40) columns
unfolding columns
columns_are = headed_sign 40 (lawful_ended 41 (lawful_seen names_of (lawful_next name_laws (many_laws names_apart) (λ t. refl))) (signs_apart 41 44 refl))

-- ---- what follows them

deferred : Headed (is_word (codes "deferrable")) (is_word (codes "deferrable") ▸ maybe (is_word (codes "initially")) (codes "initially") (mark (is_word (codes "deferred"))))
deferred = headed_word (codes "deferrable") refl (lawful_unless tt (headed_word (codes "initially") refl (one_word (codes "deferred") refl).laws))

pub deferral_laws : Lawful deferral
unfolding deferral rest_goes_on
deferral_laws = lawful_maybe rest_goes_on tt deferred (λ t e. grind (arith, or_parts))

deferral_avoids : (other : Lexeme → Bool) → Apart (is_word (codes "deferrable")) other → ((t : Lexeme) → rest_goes_on t ≡ false → other t ≡ false) → Avoids other deferral
unfolding deferral
deferral_avoids other apart none = avoids_maybe other deferred apart rest_goes_on tt none

action_laws : (goes : Bool) → Lawful (action goes)
unfolding action
action_laws goes =
    let set = set_laws goes in
    let none : Lawful nothing_more = nothing_laws never tt in
    one_of_laws (record { key = codes "no"; part = mark (is_word (codes "action")) })
    (record { key = codes "set"; part = one_of (record { key = codes "null"; part = set_columns goes }) (record { key = codes "default"; part = set_columns goes } ∷ []) } ∷ record { key = codes "cascade"; part = nothing_more } ∷ record { key = codes "restrict"; part = nothing_more } ∷ [])
    refl ((one_word (codes "action") refl).laws also one_of_laws (record { key = codes "null"; part = set_columns goes }) (record { key = codes "default"; part = set_columns goes } ∷ []) refl (set also set) also none also none)
  where
    set_laws : (goes : Bool) → Lawful (set_columns goes)
    set_laws true = lawful_unless tt (headed_seen (λ names. tt) columns_are)
    set_laws false = nothing_laws never tt

on_delete_is : Headed (is_word (codes "delete")) on_delete
unfolding on_delete action rest_goes_on columns
on_delete_is = headed_word (codes "delete") refl (lawful_seen (λ x. tt) (lawful_then (action_laws true) deferral_laws (deferral_avoids (action true).goes_on (λ t e. grind (arith, word_no_sign)) (λ t e. grind (arith, or_parts)))))

behind_on_laws : {p : Part (Unit {0})} → Lawful p → Lawful (behind_on p)
unfolding rest_goes_on
behind_on_laws lp = lawful_choose (headed_word (codes "on") refl lp) deferral_laws (deferral_avoids (is_word (codes "on")) (words_apart (codes "deferrable") (codes "on") refl) (λ t e. grind (arith, or_parts)))

pub reactions_laws : Lawful reactions
unfolding reactions action
reactions_laws =
    behind_on_laws (lawful_either (headed_word (codes "update") refl (lawful_seen (λ x. tt) (lawful_next (action_laws false) (behind_on_laws on_delete_is.laws) (λ t. refl)))) on_delete_is (words_apart (codes "delete") (codes "update") refl))

pub rest_ends : (t : Lexeme) → is_sign 59 t ≡ true → (key_rest.goes_on t ≡ false) × (foreign_rest.goes_on t ≡ false)
unfolding key_rest foreign_rest deferral reactions action on_delete rest_goes_on
rest_ends t e = rw (sign_no_word 59 (codes "initially") t e, sign_no_word 59 (codes "on") t e, sign_no_word 59 (codes "deferrable") t e, signs_apart 59 40 refl t e) (refl, refl)

-- ---- brackets

-- what a bracket opens is closed again
opened : (t : Lexeme) → is_sign 40 t ≡ true → (v : List ℕ) × (more : List Lexeme) × expression.Spells v (t ∷ more)
unfolding expression is_sign nest_step nest_done ends_run
opened t e = (source (t ∷ a_sign 41 ∷ []), a_sign 41 ∷ [], ((t ∷ a_sign 41 ∷ []), refl, (refl, record { last = record { brackets = []; spot = Inside }; runs = rw (sign_kind 40 t.kind e) refl; done = refl })))

pub bracketed_laws : Lawful bracketed
unfolding bracketed expression nest_done
bracketed_laws = begun_by_laws (is_sign 40) (sign_agrees 40) expression expression_laws (λ v spells. cc) opened (a_sign 40 ∷ []) (sign_is 40)

-- ---- values

-- what has to unfold so that a short text is read by computing
unfoldable reads : Unit {0}
unfolding is_utf8 chars encode is_blank is_digit begins_word in_word marks_escapes in_line next_is run_end quote_end escape_end comment_end fraction_end number_end begins_line closed begun in_utf8 piece_at next_within next_token_of inside undoubled name_of is_keyword_of spelling name_in name_value collected_within collected path_in is_word is_sign literal_of text_in literal_value path_value is_name is_literal sign_byte
reads = tt

-- 'a.b'
abbrev a_literal_path : Lexeme
a_literal_path = record { gap = 32 ∷ []; kind = Literal; word = 39 ∷ 97 ∷ 46 ∷ 98 ∷ 39 ∷ []; start = 0 }

short_path : (k : TokenKind) (w : List ℕ) → path_of (text_in (literal_of k w)) ≡ Err true → (q : QName) × (path_of (text_in (literal_of k (short_word k))) ≡ Ok q)
unfolding reads
short_path Literal w e = (record { schema = codes "a"; name = codes "a" }, refl)
short_path x w e = absurd cc

pub literal_path_laws : Lawful literal_path
unfolding reads path_value literal_value
literal_path_laws = one_laws path_value (grind (arith, short_path, word_no_text)) a_literal_path (record { schema = codes "a"; name = codes "b" }) refl

pub truth_laws : Lawful truth
unfolding truth
truth_laws = lawful_either (headed_seen (λ u. true) (one_word (codes "true") refl)) (headed_seen (λ u. false) (one_word (codes "false") refl)) (words_apart (codes "false") (codes "true") refl)

pub remark_laws : Lawful remark
unfolding remark is_literal is_word is_keyword_of
remark_laws = lawful_either (headed_seen (λ u. None) (one_word (codes "null") refl)) (headed_seen Some one_literal) (λ t e. grind arith)

-- ---- what a domain is made of

closing_ends : (b : ℕ) → (b == 41 || b == 93 || b == 59) ≡ true → (t : Lexeme) → is_sign b t ≡ true → ends_run true t ≡ true
closing_ends b ends t e = not-false (ends_run true t) (run_ends true b ends t e)

-- checks and a semicolon begin with neither
checks_avoid : (test : Lexeme → Bool) → Apart (is_word (codes "constraint")) test → Apart (is_sign 59) test → Avoids test (many (is_word (codes "constraint")) checking ◂ is_sign 59)
checks_avoid test word sign v ts rest spells free = ap (λ (us : List Lexeme). starts test (us ++ rest)) spells.2.2 ∙ ap (starts test) (append_assoc spells.2.0 spells.2.1 rest) ∙ first spells.0.0 spells.2.0 spells.2.3
  where
    apart : (one : Lexeme → Bool) → Apart one test → (us : List Lexeme) → starts one us ≡ true → starts test us ≡ false
    apart one h [] e = refl
    apart one h (u ∷ us) e = h u e

    first : (vs : List CheckDef) (a : List Lexeme) → Many checking tt vs a → starts test (a ++ (spells.2.1 ++ rest)) ≡ false
    first _ _ (no_more _) = apart (is_sign 59) sign (spells.2.1 ++ rest) (starts-append (is_sign 59) spells.2.1 rest (mark_begins (is_sign 59) tt spells.2.1 spells.2.4))
    first _ _ (one_more _ w ws c d one others) =
        let begun = starts-append (is_word (codes "constraint")) c d (named_check_is.begins w c one) in
        apart (is_word (codes "constraint")) word ((c ++ d) ++ (spells.2.1 ++ rest)) (starts-append (is_word (codes "constraint")) (c ++ d) (spells.2.1 ++ rest) begun)

pub domain_laws : Lawful domain_rest
unfolding domain_rest typed ends_run
domain_laws =
    let word : Apart (is_word (codes "constraint")) attributes.goes_on =
    λ t e. attributes_end t (grind arith) (words_apart (codes "constraint") (codes "not") refl t e) (words_apart (codes "constraint") (codes "default") refl t e) (stop_no_type (codes "constraint") refl t e) in
    let checked = lawful_ended 59 (many_laws checks_apart) (sign_no_word 59 (codes "constraint")) in
    lawful_then typed_laws checked (checks_avoid attributes.goes_on word (sign_end 59 (closing_ends 59 refl) refl refl refl))

-- ---- what a table is made of

pub elements_end : Apart (is_sign 41) table_elements.goes_on
unfolding table_elements
elements_end t e = rw (sign_no_name 41 t e, signs_apart 41 44 refl t e, column_ends t ((sign_end 41 (closing_ends 41 refl) refl refl refl) t e)) refl
