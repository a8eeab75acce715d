-- The grammar of GRANT and REVOKE has the laws of a part.
use Rattle.ddl_grammar_laws.proofs.Common.{grammar, arith, ◌≡◌, ℕ, true, false, List, [], ◌∷◌, Option, Some, None, refl, ap, codes, is_utf8, chars, encode, name_of, is_keyword_of, Lexeme, is_word, Lawful, name_value, name_in, avoids_never, shortened, word_agrees, sign_agrees, name_shortens, Shortens, one_laws, a_word, name_laws, sign_no_word, Headed, lawful_seen, lawful_word, lawful_next, headed_word, headed_seen, headed_next, one_sign, lawful_either, Wanted, right_first, wanted_first, grantee_of, grant_option, to_grantee, from_grantee, grant_rights, revoke_rights, First, named_by, first, behind_first, granted, revoked}
use Rattle.ddl_grammar_laws.proofs.{Depends.thenby_laws, RightsLaws.CanBeOn, RightsLaws.wanted_can, RightsLaws.rights_and_object_laws, RightsLaws.rights_and_object_ends, RightsLaws.goes_to_object, RightsLaws.rights_and_object_begins, RightsLaws.to_no_object, RightsLaws.wanted_laws, RightsLaws.wanted_spelled, MembershipLaws.membership_is, MembershipLaws.membership_ends}

-- ---- rights

to_grantee_laws : Lawful to_grantee
unfolding to_grantee grant_option
to_grantee_laws =
    let grant_option_laws : Lawful grant_option =
    lawful_either (headed_seen (λ x. true) (headed_word (codes "with") refl (lawful_word (codes "grant") refl (lawful_word (codes "option") refl (one_sign 59).laws))))
    (headed_seen (λ x. false) (one_sign 59)) (sign_no_word 59 (codes "with")) in
    lawful_word (codes "to") refl (lawful_next (lawful_seen grantee_of name_laws) grant_option_laws (λ t. refl))

grant_rights_are : (w : Wanted) → CanBeOn w → Headed goes_to_object (grant_rights w)
unfolding grant_rights
grant_rights_are w can = search (headed_seen, headed_next, rights_and_object_laws, rights_and_object_begins, sign_agrees, word_agrees, to_grantee_laws, rights_and_object_ends, arith)

revoke_rights_laws : (w : Wanted) → CanBeOn w → Lawful (revoke_rights w)
unfolding revoke_rights from_grantee
revoke_rights_laws w can = search (grammar, rights_and_object_laws, rights_and_object_ends) depth 20

-- ---- GRANT

abbrev CanFollow : Option Wanted → Type 0
CanFollow None = Unit {0}
CanFollow (Some w) = CanBeOn w

first_shortens : Shortens (λ t. named_by (wanted_first (t ∷ [])) (name_value t))
first_shortens = record {
  long = λ t e.
      let h = name_shortens.long t (grind arith) in
      (h.0, ((h.1.0, wanted_first (shortened t ∷ [])), ap (named_by (wanted_first (shortened t ∷ []))) h.1.1));
  none = λ t long e. ap (named_by (wanted_first (shortened t ∷ []))) (name_shortens.none t long (grind arith));
}

first_spelled : (x : First) (ts : List Lexeme) → first.Spells x ts → CanFollow x.1
first_spelled x ts spells = grind (arith, wanted_can)

behind_laws : (n : List ℕ) (o : Option Wanted) → CanFollow o → Lawful (behind_first n o)
behind_laws n None can = (membership_is n).laws
behind_laws n (Some w) can = lawful_either (membership_is n) (grant_rights_are w can) to_no_object

behind_ends : (n : List ℕ) (o : Option Wanted) (t : Lexeme) → (behind_first n o).goes_on t ≡ false
unfolding grant_rights to_grantee grant_option
behind_ends n o t = grind (arith, membership_ends)

pub granted_laws : Lawful granted
unfolding granted name_value name_in name_of is_utf8 chars encode wanted_first right_first is_word is_keyword_of
granted_laws = search (thenby_laws, (one_laws (λ t. named_by (wanted_first (t ∷ [])) (name_value t)) first_shortens (a_word (codes "a")) (codes "a", None) refl), behind_laws, first_spelled, behind_ends, avoids_never, arith)

-- ---- REVOKE

pub revoked_laws : Lawful revoked
unfolding revoked revoke_rights from_grantee
revoked_laws = search (thenby_laws, wanted_laws, revoke_rights_laws, wanted_spelled, avoids_never, arith)
