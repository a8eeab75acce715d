-- The grammar of GRANT of a role has the laws of a part.
use Rattle.ddl_grammar_laws.proofs.Common.{arith, ◌≡◌, ℕ, true, false, List, Some, None, refl, codes, Option, is_keyword_of, Lexeme, is_word, is_sign, Part, mark, seen, ◌▸◌, ◌◂◌, Lawful, Avoids, name, seen_avoids, a_word, name_laws, word_no_sign, words_apart, one_of_avoids, free, sign_no_word, signs_apart, Headed, lawful_seen, lawful_word, lawful_ended, lawful_then, lawful_next, headed_word, headed_sign, headed_seen, one_sign, lawful_choose, lawful_either, lawful_unless, avoids_either, truth_first, truth, set_behind, inherit_and_set, others_behind, options, with_options, granted_by, member, member_of, membership, word_like}
use Rattle.ddl_grammar_laws.proofs.Firsts.{by_first_laws}

truth_laws : Lawful truth
unfolding truth_first is_word is_keyword_of
truth_laws = by_first_laws truth_first (λ t long. simp (word_like t long)) (a_word (codes "true")) true refl

inherit_and_set_laws : Lawful inherit_and_set
unfolding inherit_and_set set_behind
inherit_and_set_laws =
    lawful_either (headed_word (codes "inherit") refl (lawful_seen (λ x. (Some x.0, x.1)) (lawful_next truth_laws (lawful_unless true (headed_sign 44 (lawful_word (codes "set") refl truth_laws))) (λ t. refl))))
    (headed_word (codes "set") refl (lawful_seen (λ b. (None, b)) truth_laws)) (words_apart (codes "set") (codes "inherit") refl)

others_behind_laws : Lawful others_behind
unfolding others_behind
others_behind_laws = lawful_unless (None, true) (headed_sign 44 inherit_and_set_laws)

options_laws : Lawful options
unfolding options inherit_and_set
options_laws = search (lawful_choose, headed_word, lawful_next, truth_laws, others_behind_laws, lawful_seen, inherit_and_set_laws, seen_avoids, arith, one_of_avoids)

grantor : Headed (is_word (codes "granted")) (seen Some (is_word (codes "granted") ▸ (is_word (codes "by") ▸ (name ◂ is_sign 59))))
grantor = headed_seen Some (headed_word (codes "granted") refl (lawful_word (codes "by") refl (lawful_ended 59 name_laws (free (is_sign 59)))))

abbrev unsaid : Part (Option (List ℕ))
unsaid = seen (λ x. None) (mark (is_sign 59))

no_grantor : Headed (is_sign 59) unsaid
no_grantor = headed_seen (λ x. None) (one_sign 59)

granted_by_avoids : Avoids with_options.goes_on granted_by
unfolding granted_by with_options options others_behind inherit_and_set set_behind
granted_by_avoids =
    avoids_either with_options.goes_on grantor (λ t e. rw ((word_no_sign (codes "granted") 44 t e), (words_apart (codes "granted") (codes "with") refl t e)) refl)
    no_grantor (λ t e. rw ((signs_apart 59 44 refl t e), (sign_no_word 59 (codes "with") t e)) refl)

pub membership_is : (role : List ℕ) → Headed (is_word (codes "to")) (membership role)
unfolding membership member with_options granted_by
membership_is role =
    let options_and_grantor = lawful_then (lawful_unless (false, (None, true)) (headed_word (codes "with") refl options_laws)) (lawful_either grantor no_grantor (sign_no_word 59 (codes "granted"))) granted_by_avoids in
    headed_word (codes "to") refl (lawful_seen (member_of role) (lawful_next name_laws options_and_grantor (λ t. refl)))

pub membership_ends : (role : List ℕ) (t : Lexeme) → (membership role).goes_on t ≡ false
unfolding membership member granted_by
membership_ends role t = refl
