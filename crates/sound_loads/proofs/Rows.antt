-- The rows of tables of a loaded catalogue are in order, where each has a field for each column.
use Rattle.std.proofs.Common.{subst}
use Rattle.cat_rows.specs.declared.catalogue.Catalogue.{Catalogue}
use Rattle.cat_model.specs.declared.key.Key.TheVariants as key
use Rattle.cat_model.specs.declared.object.QName.{QName}
use Rattle.cat_model.specs.declared.value.Value.{Value}
use Rattle.well_formed.specs.Formed.{IsWellFormed}
use Rattle.cat_naming.specs.Entries.{catalogue_named}
use Rattle.cat_naming.specs.Relations.{RowsByOid}
use Rattle.cat_sound.specs.Texts.{Texts}
use Rattle.cat_sound.specs.Asked.{Asked, Meets}
use Rattle.cat_sound.specs.Sound.{IsSoundAt}
use Rattle.sound_loads.specs.InOrder.{AreFit}
use Rattle.sound_loads.specs.Origins.{Origin}
use Rattle.sound_loads.proofs.Classes.{RelationAt, relation_at, relation_there}
use Rattle.sound_loads.proofs.Standing.{met}

module _ (texts : Texts) (cat : Catalogue) (rows : RowsByOid) (well : IsWellFormed cat) (fit : AreFit cat rows) (q : QName) (v : Value) where
  pub rows_sound : Origin cat rows (key.Rows q) v → IsSoundAt texts (catalogue_named cat rows) (key.Rows q) v
  rows_sound from =
      let c = from.row in
      subst (IsSoundAt texts (catalogue_named cat rows) (key.Rows q)) from.is.has (record {
        own = tt;
        others = (
          met cat rows (key.Rel q) (Asked.holds (rows c.oid)) (relation_there cat well rows c from.among q from.path) (λ w of.
              let is = subst (λ k. RelationAt cat well c k w) from.is.of_kind (relation_at cat well rows c from.among q from.path w of) in
              subst (Meets (Asked.holds (rows c.oid))) is (fit c from.among from.is.of_kind)),
          tt,
        );
      })
