-- All tables together, with the rows of tables, stand for the catalogue.
use Rattle.std.proofs.Common.{◌≡◌, ◌⊎◌, Bool, true, false, not, ◌||◌, List, ◌++◌, Some, refl, inl, inr}
use Rattle.std.specs.FinMap.{get}
use Rattle.std.specs.List.{flat_map}
use Rattle.cat_rows.specs.declared.catalogue.Catalogue.{Catalogue}
use Rattle.cat_rows.specs.declared.notes.DependRow.{DependRow}
use Rattle.cat_model.specs.declared.object.Object.{Object}
use Rattle.cat_model.specs.declared.object.Object.TheVariants as object
use Rattle.cat_model.specs.declared.key.Key.{Key}
use Rattle.cat_model.specs.declared.key.Key.TheVariants as key
use Rattle.cat_model.specs.declared.value.Value.{Value}
use Rattle.cat_model.specs.declared.value.Value.TheVariants as value
use Rattle.cat_model.specs.Conditions.{is_sequence}
use Rattle.cat_model.specs.KeyLaws.{key_cmp_total, key_cmp-IsAntisymmetric}
use Rattle.cat_model.specs.Values.{Bytes, Named}
use Rattle.cat_names.specs.Naming.{Entry, cluster_entries}
use Rattle.cat_naming.specs.Types.{type_entries}
use Rattle.cat_naming.specs.Relations.{RowsByOid, class_entries, default_entries, sequence_entries, body_entries}
use Rattle.cat_naming.specs.Constraints.{constraint_entries, index_entries}
use Rattle.cat_naming.specs.Comments.{comment_entries}
use Rattle.cat_naming.specs.Entries.{object_entries, entries_of, catalogue_named}
use Rattle.cat_sound.specs.Texts.{Texts}
use Rattle.cat_sound.specs.Sound.{IsSound}
use Rattle.cat_sound.proofs.Lists.{IsIn}
use Rattle.named_tables.specs.Kinds.{of_cluster}
use Rattle.named_tables.specs.Oids.{AreOids}
use Rattle.named_tables.proofs.Cluster.{cluster_stands}
use Rattle.named_tables.proofs.Entries.{AreEntries, in_left, in_right, in_either}
use Rattle.named_objects.specs.Oids.{ObjectOids, AreNumbers, AreCheckOids}
use Rattle.named_objects.specs.Kinds.{of_types, of_relations, of_defaults, of_constraints, of_indexes, of_sequences, of_bodies, of_comments}
use Rattle.named_objects.specs.Standing.{AllStandFor}
use Rattle.named_objects.proofs.Held.{AreEntriesAt}
use Rattle.named_objects.proofs.MapsOf.{map_stands}
use Rattle.named_objects.proofs.Led.{led_to, have_own}
use Rattle.named_objects.proofs.TypeNames.{types_stand}
use Rattle.named_objects.proofs.RelationNames.{relations_stand}
use Rattle.named_objects.proofs.Defaults.{defaults_stand}
use Rattle.named_objects.proofs.Constraints.{constraints_stand}
use Rattle.named_objects.proofs.Indexes.{indexes_stand}
use Rattle.named_objects.proofs.Sequences.{sequences_stand}
use Rattle.named_objects.proofs.Bodies.{bodies_stand}
use Rattle.named_objects.proofs.Comments.{comments_stand}

either : (a b : Bool) → a || b ≡ true → (a ≡ true) ⊎ (b ≡ true)
either true b e = inl refl
either false b e = inr e

left_so : (a b : Bool) → a ≡ true → a || b ≡ true
left_so true b e = refl
left_so false b e = cc

right_so : (a b : Bool) → b ≡ true → a || b ≡ true
right_so true b e = refl
right_so false b e = e

-- by keys alone
by_keys : (named : Named) (of : Key → Bool) (es : List Entry) → AreEntries named of es → AreEntriesAt named (λ k v. of k) es
by_keys named of es are = record { held = are.held; covered = are.covered }

both_at : (named : Named) (p q : Key → Value → Bool) (es fs : List Entry) → AreEntriesAt named p es → AreEntriesAt named q fs → AreEntriesAt named (λ k v. p k v || q k v) (es ++ fs)
both_at named p q es fs one other = record {
  held = λ k v among. held k v (in_either (k, v) es fs among);
  covered = λ k v is kind. covered k v is (either (p k v) (q k v) kind);
}
  where
    held : (k : Key) (v : Value) → IsIn (k, v) es ⊎ IsIn (k, v) fs → (get named k ≡ Some v) × (p k v || q k v ≡ true)
    held k v (inl among) = let h = one.held k v among in (h.0, left_so (p k v) (q k v) h.1)
    held k v (inr among) = let h = other.held k v among in (h.0, right_so (p k v) (q k v) h.1)

    covered : (k : Key) (v : Value) → get named k ≡ Some v → (p k v ≡ true) ⊎ (q k v ≡ true) → IsIn (k, v) (es ++ fs)
    covered k v is (inl kind) = in_left (k, v) es fs (one.covered k v is kind)
    covered k v is (inr kind) = in_right (k, v) es fs (other.covered k v is kind)

-- what some table gives
abbrev of_objects : Key → Value → Bool
of_objects k v = of_types k || of_relations k v || of_defaults k || of_constraints k || of_indexes k || of_sequences k v || of_bodies k || of_comments k

abbrev of_all : Key → Value → Bool
of_all k v = of_cluster k || of_objects k v

module _ (texts : Texts) (named : Named) (sound : IsSound texts named) where
  of_owner : (o : Object) (v : Value) → get named (key.Owner o) ≡ Some v → of_all (key.Owner o) v ≡ true
  of_owner (object.Schema name) v is = refl
  of_owner (object.Type q) v is = refl
  of_owner (object.Relation q) v is = refl
  of_owner (object.Database name) v is = refl
  of_owner (object.Column q column) (value.Owner role) is = let own = (sound.each (key.Owner (object.Column q column)) (value.Owner role) is).own in cc
  of_owner (object.Column q column) v is = elim (sound.each (key.Owner (object.Column q column)) v is).own [ ]
  of_owner (object.Constraint q name) (value.Owner role) is = let own = (sound.each (key.Owner (object.Constraint q name)) (value.Owner role) is).own in cc
  of_owner (object.Constraint q name) v is = elim (sound.each (key.Owner (object.Constraint q name)) v is).own [ ]

  of_acl : (o : Object) (v : Value) → get named (key.Acl o) ≡ Some v → of_all (key.Acl o) v ≡ true
  of_acl (object.Schema name) v is = refl
  of_acl (object.Type q) v is = refl
  of_acl (object.Relation q) v is = refl
  of_acl (object.Database name) (value.Grants g) is = let own = (sound.each (key.Acl (object.Database name)) (value.Grants g) is).own.0 in cc
  of_acl (object.Database name) v is = elim (sound.each (key.Acl (object.Database name)) v is).own [ ]
  of_acl (object.Column q column) (value.Grants g) is = let own = (sound.each (key.Acl (object.Column q column)) (value.Grants g) is).own.0 in cc
  of_acl (object.Column q column) v is = elim (sound.each (key.Acl (object.Column q column)) v is).own [ ]
  of_acl (object.Constraint q name) (value.Grants g) is = let own = (sound.each (key.Acl (object.Constraint q name)) (value.Grants g) is).own.0 in cc
  of_acl (object.Constraint q name) v is = elim (sound.each (key.Acl (object.Constraint q name)) v is).own [ ]

  either_relation : (b : Bool) → false || (false || not b || false || false || false || b || false || false) ≡ true
  either_relation true = refl
  either_relation false = refl

  -- each key that is there is of some table
  of_some : (k : Key) (v : Value) → get named k ≡ Some v → of_all k v ≡ true
  of_some (key.Role name) v is = refl
  of_some (key.Member a b c) v is = refl
  of_some (key.Schema name) v is = refl
  of_some (key.UserType q) v is = refl
  of_some (key.Rel q) v is = either_relation (is_sequence v)
  of_some (key.Owner o) v is = of_owner o v is
  of_some (key.Default q column) v is = refl
  of_some (key.Con q name) v is = refl
  of_some (key.Index q name) v is = refl
  of_some (key.Rows q) v is = refl
  of_some (key.SeqVal q) v is = refl
  of_some (key.OwnedBy q) v is = refl
  of_some (key.Acl o) v is = of_acl o v is
  of_some (key.Comment o) v is = refl
  of_some (key.Body q) v is = refl
  of_some (key.Database name) v is = refl

module _ (texts : Texts) (named : Named) (sound : IsSound texts named) (oids : ObjectOids) (own : AreOids named oids.of) (numbers : AreNumbers named oids.number) (checks : AreCheckOids named oids) (current : Bytes) (depends : List DependRow) (cat : Catalogue) (rows : RowsByOid) (are : AllStandFor named oids current depends cat rows) where
  objects_stand : AreEntriesAt named of_objects (object_entries cat rows)
  objects_stand =
      let led = led_to named oids current depends cat rows are in
      let one = by_keys named of_types (flat_map (type_entries cat) cat.pg_type) (types_stand texts named sound oids own cat led are.labels are.constraints) in
      let two = both_at named (λ k v. of_types k) of_relations _ (flat_map (class_entries cat rows) cat.pg_class) one (relations_stand texts named sound oids own numbers cat rows led (have_own named oids current depends cat rows are) are.labels are.rows_held) in
      let three = both_at named (λ k v. of_types k || of_relations k v) (λ k v. of_defaults k) _ (flat_map (default_entries cat) cat.pg_attrdef) two (by_keys named of_defaults _ (defaults_stand texts named sound oids own numbers cat led are.columns are.defaults)) in
      let four = both_at named (λ k v. of_types k || of_relations k v || of_defaults k) (λ k v. of_constraints k) _ (flat_map (constraint_entries cat) cat.pg_constraint) three (by_keys named of_constraints _ (constraints_stand texts named sound oids own cat led are.constraints)) in
      let five = both_at named (λ k v. of_types k || of_relations k v || of_defaults k || of_constraints k) (λ k v. of_indexes k) _ (flat_map index_entries cat.pg_index) four (by_keys named of_indexes _ (indexes_stand texts named sound oids.of cat are.indexes)) in
      let six = both_at named (λ k v. of_types k || of_relations k v || of_defaults k || of_constraints k || of_indexes k) of_sequences _ (flat_map (sequence_entries cat) cat.pg_sequence) five (sequences_stand texts named sound oids own numbers cat led are.columns are.sequences) in
      let seven = both_at named (λ k v. of_types k || of_relations k v || of_defaults k || of_constraints k || of_indexes k || of_sequences k v) (λ k v. of_bodies k) _ (flat_map (body_entries cat) cat.pg_rewrite) six (by_keys named of_bodies _ (bodies_stand texts named sound oids.of own cat led are.bodies)) in
      both_at named (λ k v. of_types k || of_relations k v || of_defaults k || of_constraints k || of_indexes k || of_sequences k v || of_bodies k) (λ k v. of_comments k) _ (flat_map (comment_entries cat) cat.pg_description) seven (by_keys named of_comments _ (comments_stand texts named sound oids own numbers checks cat led are.columns are.constraints are.comments))

  all_stand : AreEntriesAt named of_all (entries_of cat rows)
  all_stand = both_at named (λ k v. of_cluster k) of_objects (cluster_entries cat) (object_entries cat rows) (by_keys named of_cluster (cluster_entries cat) (cluster_stands texts named oids.of current cat sound own are.cluster)) objects_stand

  pub whole_named : catalogue_named cat rows ≡ named
  whole_named = map_stands key_cmp_total key_cmp-IsAntisymmetric named (entries_of cat rows) (λ k v among. (all_stand.held k v among).0) (λ k v is. all_stand.covered k v is (of_some texts named sound k v is))
