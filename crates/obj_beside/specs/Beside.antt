-- What stands beside a catalogue, so that what its rows name is found without going through its tables.
use Rattle.std.specs.Prelude.{◌≡◌, ℕ, List, map}
use Rattle.std.specs.BTreeSet.{BTreeSet}
use Rattle.std.specs.Ordering.{nat_cmp}
use Rattle.cat_rows.specs.declared.catalogue.Catalogue.{Catalogue}
use Rattle.cat_names.specs.Indexed.{AreKeys}
use Rattle.cat_book.specs.Paths.{path_cmp}
use Rattle.obj_graph.specs.declared.key_of.KeyOf.{KeyOf}
use Rattle.obj_graph.specs.ConstraintLinks.{keys_of}
use Rattle.obj_graph.specs.RelationLinks.{pair_cmp, column_types}
use Rattle.obj_graph.specs.Links.{key_ends, relation_ends, type_ends}
use Rattle.obj_beside.specs.declared.beside.Ends.{Ends}
use Rattle.obj_beside.specs.declared.beside.RowPlaces.{RowPlaces}
use Rattle.obj_beside.specs.Firsts.{AreFirsts}

pub record AreEnds (cat : Catalogue) (ends : Ends) : Type 0 where
  pub keys : AreFirsts nat_cmp ends.keys (key_ends cat)
  pub relations : AreFirsts path_cmp ends.relations (relation_ends cat)
  pub types : AreFirsts path_cmp ends.types (type_ends cat)

pub record ArePlaces (cat : Catalogue) (places : RowPlaces) : Type 0 where
  pub sequences : places.sequences ≡ map (λ s. s.seqrelid) cat.pg_sequence
  pub defaults : places.defaults ≡ map (λ d. d.oid) cat.pg_attrdef
  pub rewrites : places.rewrites ≡ map (λ r. r.oid) cat.pg_rewrite
  pub views : places.views ≡ map (λ r. r.ev_class) cat.pg_rewrite

pub record IsBeside (cat : Catalogue) (places : RowPlaces) (ends : Ends) (types : BTreeSet (ℕ × ℕ)) (keys : List KeyOf) : Type 0 where
  pub rows : ArePlaces cat places
  pub named : AreEnds cat ends
  pub column_types : AreKeys pair_cmp types (column_types cat)
  pub keys_of : keys ≡ keys_of cat
