-- Tables that stand for a catalogue have those by which oids are looked up.
use Rattle.std.specs.Prelude.{List}
use Rattle.cat_rows.specs.declared.catalogue.Catalogue.{Catalogue}
use Rattle.cat_rows.specs.declared.notes.DependRow.{DependRow}
use Rattle.cat_model.specs.Values.{Bytes, Named}
use Rattle.cat_naming.specs.Relations.{RowsByOid}
use Rattle.named_objects.specs.Oids.{ObjectOids}
use Rattle.named_objects.specs.Standing.{AllStandFor}
use Rattle.named_objects.proofs.Lookups.{AreLedTo}
use Rattle.named_objects.proofs.RelationRows.{HaveOwn}

pub led_to : (named : Named) (oids : ObjectOids) (current : Bytes) (depends : List DependRow) (cat : Catalogue) (rows : RowsByOid) → AllStandFor named oids current depends cat rows → AreLedTo named oids.of cat
led_to named oids current depends cat rows are = record { roles = are.cluster.roles; schemas = are.cluster.schemas; relations = are.relations; types = are.types }

pub have_own : (named : Named) (oids : ObjectOids) (current : Bytes) (depends : List DependRow) (cat : Catalogue) (rows : RowsByOid) → AllStandFor named oids current depends cat rows → HaveOwn named oids cat
have_own named oids current depends cat rows are = record { columns = are.columns; constraints = are.constraints; indexes = are.indexes; sequences = are.sequences; bodies = are.bodies }
