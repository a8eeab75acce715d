-- The effect of a statement as a tree: what it looks at in the catalogue, and where it then refuses or which keys
-- it sets. Running the tree over a catalogue gives a new one, or the cause.
use Rattle.std.specs.Prelude.{ℕ, Bool, true, false, ◌&&◌, List, [], ◌∷◌, Option, Some, None, Result, Ok, Err, if◌then◌else◌}
use Rattle.std.specs.Ordering.{eq_by_cmp}
use Rattle.std.specs.FinMap.{get, insert, remove, retain_keys, entries}
use Rattle.cat_model.specs.declared.object.QName.{QName}
use Rattle.cat_model.specs.declared.key.Key.{Key}
use Rattle.cat_model.specs.declared.key.Key.TheVariants as key
use Rattle.cat_model.specs.declared.class.Class.{Class}
use Rattle.cat_model.specs.declared.class.Class.TheVariants as class
use Rattle.cat_model.specs.declared.cause.Cause.{Cause}
use Rattle.cat_model.specs.Keys.{key_cmp}
use Rattle.cat_model.specs.declared.constraint.ConstraintKind.{ConstraintKind}
use Rattle.cat_model.specs.declared.constraint.ConstraintKind.TheVariants as kinds
use Rattle.cat_model.specs.Values as value
use Rattle.cat_model.specs.Values.{Bytes, Value, Named, Index}
use Rattle.cat_model.specs.Lexemes.{same_text}
use Rattle.cat_model.specs.Tables.{same_set}
use Rattle.cat_model.specs.IndexColumns.{plain_columns}

-- a key, and the value that it gets; None takes it out
abbrev pub Change : Type 0
Change = Key × Option Value

pub data Tree : Type 0 where
  refuse : Cause → Tree
  sets : List Change → Tree
  look : Key → (Option Value → Tree) → Tree
  scan : Class → (List (Key × Value) → Tree) → Tree

-- what a tree can look at: the value of a key, and the keys of a class with their values, in the order of keys
pub record Seen : Type 0 where
  pub at : Key → Option Value
  pub all : Class → List (Key × Value)

-- what a tree says of what it sees: the changes that it makes, or the cause
abbrev pub outcome : Tree → Seen → Result (List Change) Cause
outcome (refuse cause) seen = Err cause
outcome (sets changes) seen = Ok changes
outcome (look key next) seen = outcome (next (seen.at key)) seen
outcome (scan class next) seen = outcome (next (seen.all class)) seen

-- ---- over a catalogue

abbrev pub same_path : QName → QName → Bool
same_path p q = same_text p.schema q.schema && same_text p.name q.name

abbrev pub is_primary : ConstraintKind → Bool
is_primary kinds.Primary = true
is_primary _ = false

-- a primary key or a unique constraint
abbrev pub is_unique : ConstraintKind → Bool
is_unique kinds.Primary = true
is_unique kinds.Unique = true
is_unique _ = false

abbrev pub is_on : List Bytes → Option (List Bytes) → Bool
is_on columns (Some names) = same_set columns names
is_on columns None = false

-- the columns that an index keeps unique, where they are plain
abbrev pub unique_on : Index → Option (List Bytes)
unique_on i = if i.unique then plain_columns i.text else None

-- whether a key with this value is of a class
abbrev pub of_class : Class → Key → Value → Bool
of_class (class.Constraints table) (key.Con q name) v = same_path table q
of_class (class.Indexes table) (key.Index q name) v = same_path table q
of_class (class.PrimaryKeys table) (key.Con q name) (value.constraint c) = same_path table q && is_primary c.kind
of_class (class.KeysOn table columns) (key.Con q name) (value.constraint c) = same_path table q && (is_unique c.kind && same_set columns c.columns)
of_class (class.KeysOn table columns) (key.Index q name) (value.index i) = same_path table q && is_on columns (unique_on i)
of_class (class.Members role member) (key.Member r m grantor) v = same_text role r && same_text member m
of_class _ _ _ = false

abbrev pub there_and_of : Class → Key → Option Value → Bool
there_and_of class key (Some v) = of_class class key v
there_and_of class key None = false

-- the keys of a class with their values
abbrev pub class_of : Named → Class → Named
class_of named class = retain_keys named (λ k. there_and_of class k (get named k))

abbrev pub seen : Named → Seen
seen named = record { at = get named; all = λ class. entries (class_of named class) }

abbrev pub changed_at : Named → Key → Option Value → Named
changed_at named key (Some value) = insert named key value
changed_at named key None = remove named key

-- the catalogue after changes, one after another
abbrev pub changed : List Change → Named → Named
changed [] named = named
changed (change ∷ changes) named = changed changes (changed_at named change.0 change.1)

abbrev pub after : Result (List Change) Cause → Named → Result Named Cause
after (Ok changes) named = Ok (changed changes named)
after (Err cause) named = Err cause

-- the catalogue after a statement, or why it is refused
abbrev pub run : Tree → Named → Result Named Cause
run tree named = after (outcome tree (seen named)) named

abbrev pub after_or_same : Result (List Change) Cause → Named → Named
after_or_same (Ok changes) named = changed changes named
after_or_same (Err cause) named = named

-- the catalogue after a statement, which stays as it was where the statement is refused
abbrev pub next : Tree → Named → Named
next tree named = after_or_same (outcome tree (seen named)) named
