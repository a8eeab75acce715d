-- What changes of a role has the laws of a part.
use Rattle.ddl_grammar_laws.proofs.Common.{ℕ, List, [], ◌∷◌, refl, codes, is_sign, Apart, literal_laws, lawful_word}
use Rattle.ddl_grammar_laws.proofs.{AdminTelling.sign_no_words, ChoiceLaws.IsOptional, ChoiceLaws.before_is, ChoiceLaws.seen_is, ChoiceLaws.clause_is, ChoiceLaws.flag_is}
use Rattle.ddl_grammar.specs.Roles.{later_flags, role_flags, role_settings, changes_by, role_changes}
use Rattle.ddl_part_laws.proofs.NumberLaws.{whole_number_laws, whole_number_ends}

abbrev pub keys : List (List ℕ)
keys =
    codes "superuser" ∷ codes "nosuperuser" ∷ codes "inherit" ∷ codes "noinherit" ∷ codes "createrole" ∷ codes "nocreaterole" ∷ codes "createdb" ∷ codes "nocreatedb" ∷ codes "login" ∷ codes "nologin"
    ∷ codes "replication" ∷ codes "noreplication" ∷ codes "bypassrls" ∷ codes "nobypassrls" ∷ codes "connection" ∷ codes "password" ∷ codes "valid" ∷ []

pub role_changes_are : IsOptional keys role_changes
unfolding role_changes role_flags later_flags role_settings
role_changes_are =
    let later = before_is (flag_is (codes "replication") (codes "noreplication") refl refl refl) (flag_is (codes "bypassrls") (codes "nobypassrls") refl refl refl) refl in
    let middle = before_is (flag_is (codes "createdb") (codes "nocreatedb") refl refl refl) (before_is (flag_is (codes "login") (codes "nologin") refl refl refl) later refl) refl in
    let behind = before_is (flag_is (codes "inherit") (codes "noinherit") refl refl refl) (before_is (flag_is (codes "createrole") (codes "nocreaterole") refl refl refl) middle refl) refl in
    let texts = before_is (clause_is (codes "password") refl literal_laws (λ t. refl)) (clause_is (codes "valid") refl (lawful_word (codes "until") refl literal_laws) (λ t. refl)) refl in
    let settings = before_is (clause_is (codes "connection") refl (lawful_word (codes "limit") refl whole_number_laws) whole_number_ends) texts refl in
    seen_is changes_by (before_is (before_is (flag_is (codes "superuser") (codes "nosuperuser") refl refl refl) behind refl) settings refl)

pub role_changes_end : Apart (is_sign 59) role_changes.goes_on
role_changes_end = λ t e. role_changes_are.only t (sign_no_words 59 keys t e)
