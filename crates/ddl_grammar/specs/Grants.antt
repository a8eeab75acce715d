-- The grammar of GRANT and REVOKE, behind their first words.
-- A word that stands for a right begins a list of rights, or is the name of a role: that is told by the token behind it.
use Rattle.std.specs.Prelude.{ℕ, Bool, true, false, List, [], ◌∷◌, Option, Some, None, Result, Ok, Err, codes}
use Rattle.cat_model.specs.{declared.grant.Grantee.Grantee, declared.stmt.Stmt.Stmt}
use Rattle.cat_model.specs.declared.stmt.Stmt.TheVariants as stmt
use Rattle.ddl_parts.specs.{Lexemes.is_word, Lexemes.is_sign, Parts.Part, Parts.one, Parts.mark, Parts.seen, Parts.choose, Parts.◌then◌, Parts.◌▸◌, Parts.◌◂◌, Leaves.name_value}
use Rattle.ddl_grammar.specs.{declared.rights.Wanted.Wanted, Depending.◌thenby◌, RightsGrammar.wanted_first, RightsGrammar.wanted, RightsGrammar.rights_and_object, RightsGrammar.grantee, Memberships.membership}

-- ---- rights

-- WITH GRANT OPTION; or the semicolon alone
unfoldable pub grant_option : Part Bool
grant_option =
    choose (is_word (codes "with")) (seen (λ x. true) (is_word (codes "with") ▸ (is_word (codes "grant") ▸ (is_word (codes "option") ▸ mark (is_sign 59)))))
    (seen (λ x. false) (mark (is_sign 59)))

-- TO grantee[ WITH GRANT OPTION];
unfoldable pub to_grantee : Part (Grantee × Bool)
to_grantee = is_word (codes "to") ▸ (grantee then grant_option)

-- FROM grantee;
unfoldable pub from_grantee : Part Grantee
from_grantee = is_word (codes "from") ▸ (grantee ◂ is_sign 59)

unfoldable pub grant_rights : Wanted → Part Stmt
grant_rights w = seen (λ x. stmt.Grant x.0.0 x.0.1 x.1.0 x.1.1) (rights_and_object w then to_grantee)

unfoldable pub revoke_rights : Wanted → Part Stmt
revoke_rights w = seen (λ x. stmt.Revoke x.0.0 x.0.1 x.1) (rights_and_object w then from_grantee)

-- ---- GRANT

-- a name, and the rights that it may stand for
abbrev pub First : Type 0
First = List ℕ × Option Wanted

abbrev pub named_by : Option Wanted → Result (List ℕ) Bool → Result First Bool
named_by w (Ok n) = Ok (n, w)
named_by w (Err long) = Err long

abbrev pub first : Part First
first = one (λ t. named_by (wanted_first (t ∷ [])) (name_value t))

-- a role's name leads to a membership; behind what may be a right, TO tells that it is a role
abbrev pub behind_first : List ℕ → Option Wanted → Part Stmt
behind_first n None = membership n
behind_first n (Some w) = choose (is_word (codes "to")) (membership n) (grant_rights w)

unfoldable pub granted : Part Stmt
granted = first thenby (λ x. behind_first x.0 x.1)

-- ---- REVOKE

unfoldable pub revoked : Part Stmt
revoked = wanted thenby revoke_rights
