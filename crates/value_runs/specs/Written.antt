-- How the values at the end of a run are written: rights by their letters, and each kind of value in one line.
use Rattle.std.specs.Prelude.{ℕ, ℤ, negsuc, Bool, true, false, ◌||◌, ◌&&◌, ◌==◌, List, [], ◌∷◌, Option, Some, None}
use Rattle.std.specs.List.{list_any}
use Rattle.std.specs.FinMap.{from_sorted}
use Rattle.cat_model.specs.declared.object.QName.{QName}
use Rattle.cat_model.specs.declared.key.Key.{Key}
use Rattle.cat_model.specs.declared.grant.Rights.{Rights}
use Rattle.cat_model.specs.declared.constraint.ConstraintKind.{ConstraintKind}
use Rattle.cat_model.specs.declared.constraint.ConstraintKind.TheVariants as kinds
use Rattle.cat_model.specs.declared.constraint.SequenceKind.{SequenceKind}
use Rattle.cat_model.specs.declared.type_name.TypeName.{TypeName}
use Rattle.cat_model.specs.declared.holder.Holder.{Holder}
use Rattle.cat_model.specs.declared.holder.Holder.TheVariants.{Owner as OWNER, Public as PUBLIC, Role as ROLE}
use Rattle.cat_model.specs.declared.holder.Item.{Item}
use Rattle.cat_model.specs.declared.value.Resolved.{Resolved}
use Rattle.cat_model.specs.declared.value.Column.{Column}
use Rattle.cat_model.specs.declared.value.Value.{Value}
use Rattle.cat_model.specs.declared.value.Value.TheVariants as value
use Rattle.cat_model.specs.Values.{Bytes}

-- keys with their values, in the order of keys
abbrev pub Entries : Type 0
Entries = List (Key × Value)

-- ---- rights: r SELECT, U USAGE, a INSERT, x REFERENCES, d DELETE, t TRIGGER, D TRUNCATE, w UPDATE, C CREATE, each
-- with a * behind it where it may be granted on

abbrev pub rights_of : (ℕ → Bool) → Rights
rights_of has = record { select = has 114; usage = has 85; insert = has 97; references = has 120; delete = has 100; trigger = has 116; truncate = has 68; update = has 119; create = has 67 }

abbrev pub among : Bytes → ℕ → Bool
among text letter = list_any (λ b. b == letter) text

abbrev pub letters : Bytes → Rights
letters text = rights_of (among text)

abbrev pub starred : Bytes → ℕ → Bool
starred [] letter = false
starred (b ∷ []) letter = false
starred (b ∷ c ∷ more) letter = b == letter && c == 42 || starred (c ∷ more) letter

abbrev pub item : Bytes → Item
item text = record { rights = letters text; options = rights_of (starred text) }

abbrev pub owner : Bytes → Holder × Item
owner text = (OWNER, item text)

abbrev pub public : Bytes → Holder × Item
public text = (PUBLIC, item text)

abbrev pub role : Bytes → Bytes → Holder × Item
role name text = (ROLE name, item text)

-- who has rights on an object: its owner, everyone, then roles by name
abbrev pub rights : List (Holder × Item) → Value
rights items = value.Grants (from_sorted items)

-- ---- roles

-- a role that was created, which inherits or not
abbrev pub created_role : Bool → Value
created_role inherits = value.Role (record { superuser = false; inherit = inherits; create_role = false; create_db = false; login = false; replication = false; bypass_rls = false; limit = negsuc 0; password = None; valid_until = None })

-- the first role of a cluster, which inherits or not
abbrev pub first_role : Bool → Value
first_role inherits = value.Role (record { superuser = true; inherit = inherits; create_role = true; create_db = true; login = true; replication = true; bypass_rls = true; limit = negsuc 0; password = None; valid_until = None })

-- ADMIN, INHERIT, SET
abbrev pub membership : Bool → Bool → Bool → Value
membership admin inherits may_set = value.Member (record { admin = admin; inherit = inherits; «set» = may_set })

-- ---- types and tables

-- a type at the end of its chain of domains, with its labels where it is an enum, and whether a domain takes no null
abbrev pub resolved : TypeName → Option (List Bytes) → Bool → Resolved
resolved type labels not_null = record { type_name = type; labels = labels; not_null = not_null }

-- a domain: its base, what that is, NOT NULL, its default, and its checks by name
abbrev pub domain : TypeName → Resolved → Bool → Option Bytes → List (Bytes × Bytes) → Value
domain base end not_null default_text checks = value.Domain (record { base = base; resolved = end; not_null = not_null; «default» = default_text; checks = from_sorted checks })

-- a column of a type that is no domain and no enum
abbrev pub column : Bytes → TypeName → Bool → Column
column name type not_null = record { name = name; type_name = type; resolved = resolved type None false; not_null = not_null }

-- a column of an enum or a domain, and what that is
abbrev pub typed : Bytes → TypeName → Resolved → Bool → Column
typed name type end not_null = record { name = name; type_name = type; resolved = end; not_null = not_null }

-- the kind of its numbers, START, INCREMENT, MINVALUE, MAXVALUE, CACHE, CYCLE
abbrev pub sequence : SequenceKind → ℤ → ℤ → ℤ → ℤ → ℤ → Bool → Value
sequence kind start step min max cache cycle = value.Sequence (record { kind = kind; start = start; step = step; min = min; max = max; cache = cache; cycle = cycle })

-- ---- constraints and indexes

-- a primary key or a unique constraint: its columns and what follows them
abbrev pub unique_key : ConstraintKind → List Bytes → Bytes → Value
unique_key kind columns text = value.Constraint (record { kind = kind; columns = columns; parent = None; text = text })

abbrev pub foreign_key : List Bytes → QName → List Bytes → Bytes → Value
foreign_key columns parent parent_columns text = value.Constraint (record { kind = kinds.Foreign; columns = columns; parent = Some (parent, parent_columns); text = text })

abbrev pub check : Bytes → Value
check text = value.Constraint (record { kind = kinds.Check; columns = []; parent = None; text = text })

-- its method, whether it is unique, and its text
abbrev pub index : Bytes → Bool → Bytes → Value
index method unique text = value.Index (record { method = method; unique = unique; text = text })
