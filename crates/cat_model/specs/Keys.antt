-- The order of keys: by kind as `Key` lists them, then by their names' bytes, one name after another.
-- An object's names come after the number of its kind, as `Object` lists them.
use Rattle.std.specs.Prelude.{ℕ, Bool, List, [], ◌∷◌}
use Rattle.std.specs.declared.cmp.Ordering.{Ordering}
use Rattle.std.specs.Ordering.{nat_cmp, eq_by_cmp}
use Rattle.std.specs.Cmp.Lexicographic.{slice_cmp}
use Rattle.cat_model.specs.declared.object.QName.{QName}
use Rattle.cat_model.specs.declared.object.Object.{Object}
use Rattle.cat_model.specs.declared.object.Object.TheVariants as object
use Rattle.cat_model.specs.declared.key.Key.{Key}
use Rattle.cat_model.specs.declared.key.Key.TheVariants.{Role, Member, Schema, UserType, Rel, Owner, Default, Con, Index, Rows, SeqVal, OwnedBy, Acl, Comment, Body, Database}

-- a path's two names
abbrev pub names_of : QName → List (List ℕ)
names_of q = q.schema ∷ q.name ∷ []

-- an object's kind, then its names
abbrev pub object_code : Object → List (List ℕ)
object_code (object.Schema name) = (0 ∷ []) ∷ name ∷ []
object_code (object.Type q) = (1 ∷ []) ∷ names_of q
object_code (object.Relation q) = (2 ∷ []) ∷ names_of q
object_code (object.Column q column) = (3 ∷ []) ∷ q.schema ∷ q.name ∷ column ∷ []
object_code (object.Constraint q name) = (4 ∷ []) ∷ q.schema ∷ q.name ∷ name ∷ []
object_code (object.Database name) = (5 ∷ []) ∷ name ∷ []

-- the place of a key's kind among the kinds
abbrev pub key_kind : Key → ℕ
key_kind (Role name) = 0
key_kind (Member role member grantor) = 1
key_kind (Schema name) = 2
key_kind (UserType q) = 3
key_kind (Rel q) = 4
key_kind (Owner object) = 5
key_kind (Default q column) = 6
key_kind (Con q name) = 7
key_kind (Index q name) = 8
key_kind (Rows q) = 9
key_kind (SeqVal q) = 10
key_kind (OwnedBy q) = 11
key_kind (Acl object) = 12
key_kind (Comment object) = 13
key_kind (Body q) = 14
key_kind (Database name) = 15

-- its names
abbrev pub key_names : Key → List (List ℕ)
key_names (Role name) = name ∷ []
key_names (Member role member grantor) = role ∷ member ∷ grantor ∷ []
key_names (Schema name) = name ∷ []
key_names (UserType q) = names_of q
key_names (Rel q) = names_of q
key_names (Owner object) = object_code object
key_names (Default q column) = q.schema ∷ q.name ∷ column ∷ []
key_names (Con q name) = q.schema ∷ q.name ∷ name ∷ []
key_names (Index q name) = q.schema ∷ q.name ∷ name ∷ []
key_names (Rows q) = names_of q
key_names (SeqVal q) = names_of q
key_names (OwnedBy q) = names_of q
key_names (Acl object) = object_code object
key_names (Comment object) = object_code object
key_names (Body q) = names_of q
key_names (Database name) = name ∷ []

-- its kind, then its names
abbrev pub key_code : Key → List (List ℕ)
key_code key = (key_kind key ∷ []) ∷ key_names key

-- keys are compared by their codes
abbrev pub key_cmp : Key → Key → Ordering
key_cmp a b = slice_cmp (slice_cmp nat_cmp) (key_code a) (key_code b)

abbrev pub key_eq : Key → Key → Bool
key_eq = eq_by_cmp key_cmp
