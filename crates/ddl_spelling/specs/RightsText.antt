-- The spelling of GRANT and REVOKE of rights, and of COMMENT.
use Rattle.std.specs.{Prelude.ℕ, Prelude.Bool, Prelude.true, Prelude.false, Prelude.◌&&◌, Prelude.◌||◌, Prelude.not, Prelude.List, Prelude.[], Prelude.◌∷◌, Prelude.◌++◌, Prelude.Option, Prelude.Some, Prelude.None, Prelude.if◌then◌else◌, Prelude.codes, List.flat_map}
use Rattle.sql_lex.specs.Written.{written_name, written_literal}
use Rattle.cat_model.specs.{declared.grant.Rights.Rights, declared.grant.Granted.Granted, declared.grant.Grantee.Grantee}
use Rattle.cat_model.specs.declared.grant.Granted.TheVariants as on
use Rattle.cat_model.specs.declared.grant.Grantee.TheVariants as grantee
use Rattle.ddl_spelling.specs.Paths.{path, joined, only_if}

-- ---- rights

-- those that a table has and others don't
abbrev pub row_rights : Rights → Bool
row_rights r = r.insert || r.references || r.delete || r.trigger || r.truncate

-- each right that the kind has, and no other
unfoldable pub is_all : Granted → Rights → Bool
is_all (on.Table q) r = r.select && r.insert && r.references && r.delete && r.trigger && r.truncate && r.update && not (r.usage || r.create)
is_all (on.Sequence q) r = r.select && r.usage && r.update && not (row_rights r || r.create)
is_all (on.Schema name) r = r.usage && r.create && not (row_rights r || r.select || r.update)
is_all (on.Type q) r = r.usage && not (row_rights r || r.select || r.update || r.create)

-- each right in order: whether it is there, and its word
abbrev pub each_right : Rights → List (Bool × List ℕ)
each_right r =
    (r.select, codes "SELECT") ∷ (r.usage, codes "USAGE") ∷ (r.insert, codes "INSERT") ∷ (r.references, codes "REFERENCES") ∷ (r.delete, codes "DELETE")
    ∷ (r.trigger, codes "TRIGGER") ∷ (r.truncate, codes "TRUNCATE") ∷ (r.update, codes "UPDATE") ∷ (r.create, codes "CREATE") ∷ []

-- the word of a right that is there, and nothing for another one
abbrev pub word_there : Bool → List ℕ → List (List ℕ)
word_there false word = []
word_there true word = word ∷ []

-- words with commas between them
unfoldable pub with_commas : List (List ℕ) → List ℕ
with_commas [] = []
with_commas (first ∷ more) = first ++ flat_map (λ word. codes "," ++ word) more

-- the rights that are there, in their order
unfoldable pub right_list : Rights → List ℕ
right_list r = with_commas (flat_map (λ right. word_there right.0 right.1) (each_right r))

unfoldable pub rights_text : Granted → Rights → List ℕ
rights_text object r = if is_all object r then codes "ALL" else right_list r

-- ---- objects and grantees

abbrev pub granted_words : Granted → List ℕ
granted_words (on.Table q) = codes " ON TABLE "
granted_words (on.Sequence q) = codes " ON SEQUENCE "
granted_words (on.Schema name) = codes " ON SCHEMA "
granted_words (on.Type q) = codes " ON TYPE "

abbrev pub granted_name : Granted → List ℕ
granted_name (on.Table q) = path q
granted_name (on.Sequence q) = path q
granted_name (on.Schema name) = written_name name
granted_name (on.Type q) = path q

abbrev pub grantee_text : Grantee → List ℕ
grantee_text grantee.Public = codes "PUBLIC"
grantee_text (grantee.Role name) = written_name name

-- behind GRANT
unfoldable pub grant_text : Granted → Rights → Grantee → Bool → List ℕ
grant_text object rights who option = joined (
    codes " " ∷ rights_text object rights ∷ (granted_words object ++ granted_name object) ∷ codes " TO " ∷ grantee_text who
    ∷ only_if option (codes " WITH GRANT OPTION") ∷ codes ";" ∷ [])

-- behind REVOKE
unfoldable pub revoke_text : Granted → Rights → Grantee → List ℕ
revoke_text object rights who = joined (
    codes " " ∷ rights_text object rights ∷ (granted_words object ++ granted_name object) ∷ codes " FROM " ∷ grantee_text who ∷ codes ";" ∷ [])

-- ---- comments

-- NULL, or a text
abbrev pub remark_text : Option (List ℕ) → List ℕ
remark_text None = codes "NULL"
remark_text (Some text) = written_literal text
