-- What each value is by itself, whatever else is there: of the key's sort, with good texts, its names apart.
use Rattle.std.specs.Prelude.{◌≡◌, Bool, true, false, ◌==◌, nat_le, List, [], map, length, Option, Some, None, codes}
use Rattle.std.specs.List.{AllByRecursion, list_any}
use Rattle.std.specs.FinMap.{get}
use Rattle.cat_model.specs.declared.object.QName.{QName}
use Rattle.cat_model.specs.declared.object.Object.{Object}
use Rattle.cat_model.specs.declared.object.Object.TheVariants as object
use Rattle.cat_model.specs.declared.key.Key.{Key}
use Rattle.cat_model.specs.declared.key.Key.TheVariants as key
use Rattle.cat_model.specs.declared.constraint.ConstraintKind.{ConstraintKind}
use Rattle.cat_model.specs.declared.constraint.ConstraintKind.TheVariants as kinds
use Rattle.cat_model.specs.declared.type_name.TypeName.{TypeName}
use Rattle.cat_model.specs.declared.type_name.TypeName.TheVariants.{Words, Path}
use Rattle.cat_model.specs.declared.value.Value.TheVariants as value
use Rattle.cat_model.specs.Keys.{key_eq}
use Rattle.cat_model.specs.declared.value.Value.{Value}
use Rattle.cat_model.specs.declared.value.Column.{Column}
use Rattle.cat_model.specs.declared.value.Resolved.{Resolved}
use Rattle.cat_model.specs.declared.value.Constraint.{Constraint}
use Rattle.cat_model.specs.declared.value.Domain.{Domain}
use Rattle.cat_model.specs.Values.{Bytes}
use Rattle.cat_model.specs.Lexemes.{same_text}
use Rattle.cat_model.specs.Tables.{distinct}
use Rattle.cat_model.specs.References.{is_system}
use Rattle.cat_model.specs.TypeEffects.{as_it_is, default_references}
use Rattle.cat_model.specs.RelationEffects.{fits_sequence}
use Rattle.cat_sound.specs.Texts.{Texts}
use Rattle.cat_sound.specs.Rights.{AreItems}

-- ---- types

-- a type of the system's own is what it is
abbrev pub EndsItself : TypeName → Resolved → Type 0
EndsItself (Words text) end = end ≡ as_it_is (Words text)
EndsItself (Path q) end = is_system q.schema ≡ true → end ≡ as_it_is (Path q)

-- a type that is named well, with what it comes to
pub record IsTyped (texts : Texts) (type : TypeName) (end : Resolved) : Type 0 where
  pub named : texts.type type ≡ true
  pub ends : EndsItself type end

-- a default, where there is one, is an expression
abbrev pub IsDefault : Texts → Option Bytes → Type 0
IsDefault texts None = Unit {0}
IsDefault texts (Some text) = texts.expression text ≡ true

-- a check as a constraint
abbrev pub check_of : Bytes → Constraint
check_of text = record { kind = kinds.Check; columns = []; parent = None; text = text }

pub record IsDomain (texts : Texts) (q : QName) (d : Domain) : Type 0 where
  pub base : IsTyped texts d.base d.resolved
  pub expression : IsDefault texts d.default
  -- the default doesn't name the domain itself
  pub others : list_any (key_eq (key.UserType q)) (default_references d.default) ≡ false
  pub checks : (name text : Bytes) → get d.checks name ≡ Some text → texts.constraint (check_of text) ≡ true

abbrev pub IsType : Texts → QName → Value → Type 0
IsType texts q (value.Enum labels) = distinct labels ≡ true
IsType texts q (value.Domain d) = IsDomain texts q d
IsType texts q _ = ⊥

-- ---- relations

pub record IsTable (texts : Texts) (columns : List Column) : Type 0 where
  pub count : nat_le (length columns) 1600 ≡ true
  pub names : distinct (map (λ c. c.name) columns) ≡ true
  pub types : AllByRecursion (λ c. IsTyped texts c.type_name c.resolved) columns

abbrev pub IsRelation : Texts → QName → Value → Type 0
IsRelation texts q (value.Table columns) = IsTable texts columns
IsRelation texts q (value.Sequence s) = fits_sequence s ≡ true
IsRelation texts q value.View = Unit {0}
IsRelation texts q (value.IndexOf table) = q.schema ≡ table.schema
IsRelation texts q _ = ⊥

-- as many columns of the parent as of the table itself
abbrev pub HasParent : List Bytes → Option (QName × List Bytes) → Type 0
HasParent names None = ⊥
HasParent names (Some (parent, parent_names)) = (length names == length parent_names) ≡ true

-- only foreign keys have a parent, and checks have no columns
abbrev pub IsOfKind : Constraint → ConstraintKind → Type 0
IsOfKind c kinds.Primary = c.parent ≡ None
IsOfKind c kinds.Unique = c.parent ≡ None
IsOfKind c kinds.Foreign = HasParent c.columns c.parent
IsOfKind c kinds.Check = (c.parent ≡ None) × (c.columns ≡ [])

pub record IsConstraint (texts : Texts) (c : Constraint) : Type 0 where
  pub text : texts.constraint c ≡ true
  pub kind : IsOfKind c c.kind

-- ---- all keys

-- objects that have an owner, grants, a comment
abbrev pub has_owner : Object → Bool
has_owner (object.Column q column) = false
has_owner (object.Constraint q name) = false
has_owner _ = true

abbrev pub has_grants : Object → Bool
has_grants (object.Schema name) = true
has_grants (object.Type q) = true
has_grants (object.Relation q) = true
has_grants _ = false

abbrev pub has_comment : Object → Bool
has_comment (object.Database name) = false
has_comment _ = true

-- `public` stands for all roles and is the name of none
abbrev pub IsRole : Bytes → Value → Type 0
IsRole name (value.Role role) = same_text name (codes "public") ≡ false
IsRole name _ = ⊥

abbrev pub IsMember : Value → Type 0
IsMember (value.Member m) = Unit {0}
IsMember _ = ⊥

-- the system's own schemas aren't in the catalogue
abbrev pub IsSchema : Bytes → Value → Type 0
IsSchema name value.Schema = is_system name ≡ false
IsSchema name _ = ⊥

abbrev pub IsOwner : Object → Value → Type 0
IsOwner o (value.Owner role) = has_owner o ≡ true
IsOwner o _ = ⊥

abbrev pub IsColumnDefault : Texts → Value → Type 0
IsColumnDefault texts (value.DefaultText text) = texts.expression text ≡ true
IsColumnDefault texts _ = ⊥

abbrev pub IsTableConstraint : Texts → Value → Type 0
IsTableConstraint texts (value.Constraint c) = IsConstraint texts c
IsTableConstraint texts _ = ⊥

abbrev pub IsTableIndex : Texts → QName → Bytes → Value → Type 0
IsTableIndex texts q name (value.Index i) = texts.index q name i ≡ true
IsTableIndex texts q name _ = ⊥

abbrev pub AreRows : Value → Type 0
AreRows (value.Rows rows) = Unit {0}
AreRows _ = ⊥

abbrev pub IsNumber : Value → Type 0
IsNumber (value.SequenceValue n called) = Unit {0}
IsNumber _ = ⊥

abbrev pub IsOwningColumn : Value → Type 0
IsOwningColumn (value.OwnedBy table column) = Unit {0}
IsOwningColumn _ = ⊥

abbrev pub AreGrants : Object → Value → Type 0
AreGrants o (value.Grants grants) = (has_grants o ≡ true) × AreItems grants
AreGrants o _ = ⊥

abbrev pub IsComment : Object → Value → Type 0
IsComment o (value.Comment text) = has_comment o ≡ true
IsComment o _ = ⊥

abbrev pub IsBody : Texts → Value → Type 0
IsBody texts (value.Body text) = texts.body text ≡ true
IsBody texts _ = ⊥

abbrev pub IsDatabase : Value → Type 0
IsDatabase (value.Database encoding) = Unit {0}
IsDatabase _ = ⊥

abbrev pub Itself : Texts → Key → Value → Type 0
Itself texts (key.Role name) v = IsRole name v
Itself texts (key.Member role member grantor) v = IsMember v
Itself texts (key.Schema name) v = IsSchema name v
Itself texts (key.UserType q) v = IsType texts q v
Itself texts (key.Rel q) v = IsRelation texts q v
Itself texts (key.Owner o) v = IsOwner o v
Itself texts (key.Default q column) v = IsColumnDefault texts v
Itself texts (key.Con q name) v = IsTableConstraint texts v
Itself texts (key.Index q name) v = IsTableIndex texts q name v
Itself texts (key.Rows q) v = AreRows v
Itself texts (key.SeqVal q) v = IsNumber v
Itself texts (key.OwnedBy q) v = IsOwningColumn v
Itself texts (key.Acl o) v = AreGrants o v
Itself texts (key.Comment o) v = IsComment o v
Itself texts (key.Body q) v = IsBody texts v
Itself texts (key.Database name) v = IsDatabase v
