-- The spelling of statements about roles and databases.
use Rattle.std.specs.{Prelude.ℕ, Prelude.ℤ, Prelude.Bool, Prelude.true, Prelude.false, Prelude.List, Prelude.[], Prelude.◌∷◌, Prelude.◌++◌, Prelude.Option, Prelude.Some, Prelude.None, Prelude.codes, Fmt.signed_decimal}
use Rattle.sql_lex.specs.Written.{written_name, written_literal}
use Rattle.cat_model.specs.{declared.table.RoleChanges.RoleChanges, declared.constraint.Encoding.Encoding, declared.constraint.Encoding.TheVariants.Utf8}
use Rattle.ddl_spelling.specs.Paths.{joined}

-- an attribute that is named: its word, or the word behind NO
abbrev pub flag_text : List ℕ → Option Bool → List ℕ
flag_text word None = []
flag_text word (Some true) = codes " " ++ word
flag_text word (Some false) = codes " NO" ++ word

abbrev pub limit_text : Option ℤ → List ℕ
limit_text None = []
limit_text (Some n) = codes " CONNECTION LIMIT " ++ signed_decimal n

abbrev pub given_literal : List ℕ → Option (List ℕ) → List ℕ
given_literal words None = []
given_literal words (Some text) = words ++ written_literal text

abbrev pub given_name : List ℕ → Option (List ℕ) → List ℕ
given_name words None = []
given_name words (Some name) = words ++ written_name name

unfoldable pub attributes_text : RoleChanges → List ℕ
attributes_text c = joined (
    flag_text (codes "SUPERUSER") c.superuser ∷ flag_text (codes "INHERIT") c.inherit ∷ flag_text (codes "CREATEROLE") c.create_role
    ∷ flag_text (codes "CREATEDB") c.create_db ∷ flag_text (codes "LOGIN") c.login ∷ flag_text (codes "REPLICATION") c.replication
    ∷ flag_text (codes "BYPASSRLS") c.bypass_rls ∷ limit_text c.limit
    ∷ given_literal (codes " PASSWORD ") c.password ∷ given_literal (codes " VALID UNTIL ") c.valid_until ∷ [])

-- ---- memberships

abbrev pub truth : Bool → List ℕ
truth true = codes "TRUE"
truth false = codes "FALSE"

abbrev pub inherit_text : Option Bool → List ℕ
inherit_text None = []
inherit_text (Some b) = codes ", INHERIT " ++ truth b

-- behind GRANT
unfoldable pub member_text : List ℕ → List ℕ → Option (List ℕ) → Bool → Option Bool → Bool → List ℕ
member_text role member grantor admin inherit may_set = joined (
    codes " " ∷ written_name role ∷ codes " TO " ∷ written_name member ∷ codes " WITH ADMIN " ∷ truth admin ∷ inherit_text inherit
    ∷ codes ", SET " ∷ truth may_set ∷ given_name (codes " GRANTED BY ") grantor ∷ codes ";" ∷ [])

-- ---- databases

abbrev pub encoding_text : Option Encoding → List ℕ
encoding_text None = []
encoding_text (Some Utf8) = codes " ENCODING = 'UTF8'"

-- a line that begins with a backslash
unfoldable pub connect_text : List ℕ → List ℕ
connect_text name = joined ((92 ∷ codes "connect ") ∷ written_name name ∷ codes "\n" ∷ [])
