-- Catalogues that are loaded: their tables have no fault, and the rows of each table meet it.
use Rattle.std.specs.Prelude.{◌≡◌, None}
use Rattle.cat_rows.specs.declared.catalogue.Catalogue.{Catalogue}
use Rattle.cat_model.specs.Values.{Named}
use Rattle.cat_names.specs.DataSets.{TextsByOid}
use Rattle.well_formed.specs.Catalogues.{catalogue_fault}
use Rattle.cat_naming.specs.Entries.{catalogue_named}
use Rattle.cat_naming.specs.Texts.{rows_by_oid}
use Rattle.cat_load.specs.Loads.{rows_fault}

-- what these tables and the texts of their rows stand for
abbrev pub loaded : Catalogue → TextsByOid → Named
loaded cat texts = catalogue_named cat (rows_by_oid texts)

pub record IsLoaded (cat : Catalogue) (texts : TextsByOid) : Type 0 where
  pub tables : catalogue_fault cat ≡ None
  pub rows : rows_fault cat texts ≡ None
