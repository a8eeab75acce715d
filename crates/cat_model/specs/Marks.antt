-- What a footprint's marks stand for: which marks meet, so that two footprints conflict, and when a tree stays within
-- a footprint. A tree's looks and scans are among what the footprint reads, and its changes among what it writes.
use Rattle.std.specs.Prelude.{◌≡◌, Bool, true, false, ◌&&◌, ◌||◌, ◌⊎◌, List, [], ◌∷◌, Option, Some, None}
use Rattle.std.specs.List.{list_any}
use Rattle.cat_model.specs.declared.object.QName.{QName}
use Rattle.cat_model.specs.declared.key.Key.{Key}
use Rattle.cat_model.specs.declared.key.Key.TheVariants as key
use Rattle.cat_model.specs.declared.class.Class.{Class}
use Rattle.cat_model.specs.declared.class.Class.TheVariants as class
use Rattle.cat_model.specs.declared.class.Mark.{Mark}
use Rattle.cat_model.specs.declared.class.Mark.TheVariants as mark
use Rattle.cat_model.specs.declared.footprint.Footprint.{Footprint}
use Rattle.cat_model.specs.declared.constraint.ConstraintKind.{ConstraintKind}
use Rattle.cat_model.specs.Keys.{key_eq}
use Rattle.cat_model.specs.Values as value
use Rattle.cat_model.specs.Values.{Bytes, Value, Named}
use Rattle.cat_model.specs.Lexemes.{same_text}
use Rattle.cat_model.specs.Tables.{same_set}
use Rattle.cat_model.specs.Trees.{Change, Tree, refuse, sets, look, scan, Seen, seen, outcome, changed, same_path, is_primary, is_unique, is_on, unique_on}

-- ---- which marks meet

-- whether a key may be of a class, whatever its value
abbrev pub key_of_class : Class → Key → Bool
key_of_class (class.Constraints table) (key.Con q name) = same_path table q
key_of_class (class.Indexes table) (key.Index q name) = same_path table q
key_of_class (class.PrimaryKeys table) (key.Con q name) = same_path table q
key_of_class (class.KeysOn table columns) (key.Con q name) = same_path table q
key_of_class (class.KeysOn table columns) (key.Index q name) = same_path table q
key_of_class (class.Members role member) (key.Member r m grantor) = same_text role r && same_text member m
key_of_class _ _ = false

-- whether a constraint of this table, kind and columns is of a class
abbrev pub constraint_of_class : Class → QName → ConstraintKind → List Bytes → Bool
constraint_of_class (class.Constraints table) q kind names = same_path table q
constraint_of_class (class.PrimaryKeys table) q kind names = same_path table q && is_primary kind
constraint_of_class (class.KeysOn table columns) q kind names = same_path table q && (is_unique kind && same_set columns names)
constraint_of_class _ q kind names = false

-- whether an index of this table that is unique on these columns is of a class
abbrev pub index_of_class : Class → QName → Option (List Bytes) → Bool
index_of_class (class.Indexes table) q on = same_path table q
index_of_class (class.KeysOn table columns) q on = same_path table q && is_on columns on
index_of_class _ q on = false

abbrev pub table_of : Class → Option QName
table_of (class.Constraints table) = Some table
table_of (class.Indexes table) = Some table
table_of (class.PrimaryKeys table) = Some table
table_of (class.KeysOn table columns) = Some table
table_of (class.Members role member) = None

abbrev pub same_table : Option QName → Option QName → Bool
same_table (Some p) (Some q) = same_path p q
same_table _ _ = false

-- two classes of one table may have a key in common
abbrev pub classes_meet : Class → Class → Bool
classes_meet (class.Members role member) (class.Members r m) = same_text role r && same_text member m
classes_meet c d = same_table (table_of c) (table_of d)

-- whether a mark may stand for a key
abbrev pub key_meets : Key → Mark → Bool
key_meets k (mark.Key j) = key_eq k j
key_meets k (mark.NewConstraint table name kind names) = key_eq k (key.Con table name)
key_meets k (mark.NewIndex table name on) = key_eq k (key.Index table name)
key_meets k (mark.Class c) = key_of_class c k

-- whether two marks may stand for one key; a new constraint or index is of a class by its kind and columns
abbrev pub meets : Mark → Mark → Bool
meets (mark.Key k) m = key_meets k m
meets (mark.NewConstraint table name kind names) (mark.Class c) = constraint_of_class c table kind names
meets (mark.NewConstraint table name kind names) m = key_meets (key.Con table name) m
meets (mark.NewIndex table name on) (mark.Class c) = index_of_class c table on
meets (mark.NewIndex table name on) m = key_meets (key.Index table name) m
meets (mark.Class c) (mark.Key k) = key_of_class c k
meets (mark.Class c) (mark.NewConstraint table name kind names) = constraint_of_class c table kind names
meets (mark.Class c) (mark.NewIndex table name on) = index_of_class c table on
meets (mark.Class c) (mark.Class d) = classes_meet c d

-- some mark of one list meets some mark of the other
abbrev pub any_meet : List Mark → List Mark → Bool
any_meet marks others = list_any (λ m. list_any (meets m) others) marks

-- one writes what the other reads or writes
abbrev pub conflict : Footprint → Footprint → Bool
conflict a b = any_meet a.writes b.reads || (any_meet a.writes b.writes || any_meet b.writes a.reads)

-- ---- when a tree stays within a footprint

abbrev pub Among : List Mark → Mark → Type 0
Among [] m = ⊥
Among (x ∷ xs) m = (x ≡ m) ⊎ Among xs m

-- a value of a constraint of this kind on these columns
abbrev pub IsConstraint : ConstraintKind → List Bytes → Option Value → Type 0
IsConstraint kind names (Some (value.constraint c)) = (c.kind ≡ kind) × (c.columns ≡ names)
IsConstraint kind names _ = ⊥

-- a value of an index that is unique on these plain columns, or that isn't on any
abbrev pub IsIndex : Option (List Bytes) → Option Value → Type 0
IsIndex on (Some (value.index i)) = unique_on i ≡ on
IsIndex on _ = ⊥

-- a class whose keys are told by their names alone
abbrev pub by_names : Class → Bool
by_names (class.PrimaryKeys table) = false
by_names (class.KeysOn table columns) = false
by_names _ = true

-- A mark that is written stands for this change of a key from an old value to a new one. That the key of a new
-- constraint or index wasn't there is something that was read.
abbrev pub Covers : List Mark → Mark → Key → Option Value → Option Value → Type 0
Covers reads (mark.Key j) k old new = k ≡ j
Covers reads (mark.NewConstraint table name kind names) k old new =
    (k ≡ key.Con table name) × (old ≡ None) × IsConstraint kind names new × Among reads (mark.Key k)
Covers reads (mark.NewIndex table name on) k old new =
    (k ≡ key.Index table name) × (old ≡ None) × IsIndex on new × Among reads (mark.Key k)
Covers reads (mark.Class c) k old new = (by_names c ≡ true) × (key_of_class c k ≡ true)

abbrev pub IsCovered : List Mark → List Mark → Key → Option Value → Option Value → Type 0
IsCovered reads [] k old new = ⊥
IsCovered reads (m ∷ ms) k old new = Covers reads m k old new ⊎ IsCovered reads ms k old new

abbrev pub AllCovered : Footprint → Seen → List Change → Type 0
AllCovered f s [] = Unit {0}
AllCovered f s (c ∷ cs) = IsCovered f.reads f.writes c.0 (s.at c.0) c.1 × AllCovered f s cs

-- what a tree looks at on its way is among what the footprint reads, and what it sets among what it writes
abbrev pub IsWithin : Footprint → Seen → Tree → Type 0
IsWithin f s (refuse because) = Unit {0}
IsWithin f s (sets changes) = AllCovered f s changes
IsWithin f s (look k next) = Among f.reads (mark.Key k) × IsWithin f s (next (s.at k))
IsWithin f s (scan c next) = Among f.reads (mark.Class c) × IsWithin f s (next (s.all c))

-- ---- what is the same, and what comes next

-- two catalogues are alike in what marks stand for
pub record Agree (marks : List Mark) (s t : Seen) : Type 0 where
  pub keys : (k : Key) → Among marks (mark.Key k) → s.at k ≡ t.at k
  pub classes : (c : Class) → Among marks (mark.Class c) → s.all c ≡ t.all c
