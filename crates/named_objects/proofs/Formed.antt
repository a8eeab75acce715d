-- Tables that stand for a catalogue are well-formed, all together.
use Rattle.std.specs.Prelude.{List}
use Rattle.std.proofs.Common.{refl}
use Rattle.cat_rows.specs.declared.catalogue.Catalogue.{Catalogue}
use Rattle.cat_rows.specs.declared.notes.DependRow.{DependRow}
use Rattle.cat_model.specs.Values.{Bytes, Named}
use Rattle.cat_naming.specs.Relations.{RowsByOid}
use Rattle.cat_sound.specs.Texts.{Texts}
use Rattle.cat_sound.specs.Sound.{IsSound}
use Rattle.well_formed.specs.Formed.{IsWellFormed}
use Rattle.named_tables.specs.Oids.{AreOids, IsStarted}
use Rattle.named_tables.proofs.Roles.{roles_meet}
use Rattle.named_tables.proofs.Members.{members_meet}
use Rattle.named_tables.proofs.Databases.{databases_meet}
use Rattle.named_tables.proofs.Schemas.{schemas_meet}
use Rattle.named_objects.specs.Oids.{ObjectOids, AreNumbers, AreCheckOids, AreLabelOids}
use Rattle.named_objects.specs.Standing.{AllStandFor}
use Rattle.named_objects.specs.Views.{AreKept}
use Rattle.named_objects.proofs.Led.{led_to, have_own}
use Rattle.named_objects.proofs.TypeRows.{types_meet}
use Rattle.named_objects.proofs.LabelRows.{labels_meet}
use Rattle.named_objects.proofs.RelationRows.{relations_meet}
use Rattle.named_objects.proofs.ColumnRows.{columns_meet}
use Rattle.named_objects.proofs.Defaults.{defaults_meet}
use Rattle.named_objects.proofs.ConstraintRows.{constraints_meet}
use Rattle.named_objects.proofs.IndexRows.{indexes_meet}
use Rattle.named_objects.proofs.Sequences.{sequences_meet}
use Rattle.named_objects.proofs.Bodies.{bodies_meet}
use Rattle.named_objects.proofs.Comments.{comments_meet}

pub all_formed : (texts : Texts) (named : Named) (oids : ObjectOids) (current : Bytes) (depends : List DependRow) (cat : Catalogue) (rows : RowsByOid) → IsSound texts named → AreOids named oids.of → IsStarted named oids.of current → AreNumbers named oids.number → AreCheckOids named oids → AreLabelOids named oids → AreKept cat → AllStandFor named oids current depends cat rows → IsWellFormed cat
all_formed texts named oids current depends cat rows sound own started numbers checks own_labels kept are =
    let led = led_to named oids current depends cat rows are in
    let have = have_own named oids current depends cat rows are in
    record {
      roles = roles_meet texts named sound oids.of own cat.pg_authid are.cluster.roles current cat refl started;
      members = members_meet texts named sound oids.of own cat are.cluster.roles are.cluster.members;
      databases = databases_meet texts named sound oids.of own current cat are.cluster.roles are.cluster.databases started;
      schemas = schemas_meet texts named sound oids.of own cat are.cluster.roles are.cluster.schemas;
      types = types_meet texts named sound oids.of own cat led;
      labels = labels_meet texts named sound oids own own_labels cat led are.labels;
      relations = relations_meet texts named sound oids own numbers cat led have;
      columns = columns_meet texts named sound oids own numbers cat led are.columns kept.view_columns;
      defaults = defaults_meet texts named sound oids own numbers cat led are.columns are.defaults;
      constraints = constraints_meet texts named sound oids own numbers checks cat led have;
      indexes = indexes_meet texts named sound oids own numbers cat led are.columns are.constraints are.indexes;
      sequences = sequences_meet texts named sound oids own numbers cat led are.columns are.sequences;
      views = bodies_meet texts named sound oids.of own cat led are.bodies;
      comments = comments_meet texts named sound oids own numbers checks cat led are.columns are.constraints are.comments;
      depends = kept.depends;
    }
