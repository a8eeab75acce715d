-- What can be written: names are names, texts are texts, and rights are some that the object has.
use Rattle.std.specs.{Prelude.◌≡◌, Prelude.ℕ, Prelude.ℤ, Prelude.Bool, Prelude.true, Prelude.false, Prelude.List, Prelude.[], Prelude.◌∷◌, Prelude.Option, Prelude.Some, Prelude.None, Prelude.codes, List.AllByRecursion}
use Rattle.copy_text.specs.Texts.{IsName, IsText}
use Rattle.cat_model.specs.{declared.grant.Rights.Rights, declared.grant.Granted.Granted, declared.grant.Grantee.Grantee, declared.table.RoleChanges.RoleChanges, declared.table.CheckDef.CheckDef, declared.table.ColumnDef.ColumnDef, declared.type_name.TypeName.TypeName, declared.value.Sequence.Sequence, Grants.has_rights, Lexemes.same_text}
use Rattle.cat_model.specs.declared.grant.Granted.TheVariants as on
use Rattle.cat_model.specs.declared.grant.Grantee.TheVariants as grantees
use Rattle.ddl_parts.specs.{Parts.Part, Texts.IsInt, Texts.IsTextOf, Texts.IsType, Texts.IsDefaultText, Texts.IsExpressionText}
use Rattle.ddl_grammar.specs.{declared.rights.Kind.Kind, declared.rights.Kind.TheVariants.Tables, declared.rights.Kind.TheVariants.Sequences, declared.rights.Kind.TheVariants.Schemas, declared.rights.Kind.TheVariants.Types, RightsGrammar.within, RightsGrammar.kind_rights}

abbrev pub kind_of : Granted → Kind
kind_of (on.Table q) = Tables
kind_of (on.Sequence q) = Sequences
kind_of (on.Schema n) = Schemas
kind_of (on.Type q) = Types

abbrev pub IsObject : Granted → Type 0
IsObject (on.Table q) = IsName q.schema × IsName q.name
IsObject (on.Sequence q) = IsName q.schema × IsName q.name
IsObject (on.Schema n) = IsName n
IsObject (on.Type q) = IsName q.schema × IsName q.name

-- one right at least, and each is one that the kind of object has
abbrev pub AreRights : Granted → Rights → Type 0
AreRights object r = (has_rights r ≡ true) × (within r (kind_rights (kind_of object)) ≡ true)

-- the name `public` is no role's
abbrev pub IsGrantee : Grantee → Type 0
IsGrantee grantees.Public = Unit {0}
IsGrantee (grantees.Role n) = IsName n × (same_text n (codes "public") ≡ false)

abbrev pub IsGrantor : Option (List ℕ) → Type 0
IsGrantor None = Unit {0}
IsGrantor (Some n) = IsName n

-- a text, if there is one
abbrev pub IsGivenText : Option (List ℕ) → Type 0
IsGivenText None = Unit {0}
IsGivenText (Some text) = IsText text

-- a connection limit, if there is one, has 64 bits
abbrev pub IsLimit : Option ℤ → Type 0
IsLimit None = Unit {0}
IsLimit (Some n) = IsInt n

-- what changes of a role
abbrev pub AreChanges : RoleChanges → Type 0
AreChanges c = IsLimit c.limit × IsGivenText c.password × IsGivenText c.valid_until

-- columns of a key: names, one at least
abbrev pub AreColumns : List (List ℕ) → Type 0
AreColumns [] = ⊥
AreColumns (n ∷ more) = IsName n × AllByRecursion IsName more

-- what may follow the columns of a key, or those of a foreign key's parents, or nothing
abbrev pub IsRest : Part (Unit {0}) → List ℕ → Type 0
IsRest p [] = Unit {0}
IsRest p (b ∷ rest) = IsTextOf (p.Spells tt) (b ∷ rest)

-- a default, if there is one
abbrev pub IsDefault : Option (List ℕ) → Type 0
IsDefault None = Unit {0}
IsDefault (Some v) = IsDefaultText v

abbrev pub IsCheck : CheckDef → Type 0
IsCheck c = IsName c.name × IsExpressionText c.text

abbrev pub IsColumn : ColumnDef → Type 0
IsColumn c = IsName c.name × IsType c.type_name × IsDefault c.default

-- a type, a default and NOT NULL
abbrev pub IsTyped : TypeName × (Option (List ℕ) × Bool) → Type 0
IsTyped x = IsType x.0 × IsDefault x.1.0

-- a sequence's numbers have 64 bits
abbrev pub IsSequence : Sequence → Type 0
IsSequence s = IsInt s.start × IsInt s.step × IsInt s.min × IsInt s.max × IsInt s.cache
