-- What a well-formed opening becomes as statements are carried out.
use Rattle.cat_rows.specs.declared.catalogue.Catalogue.{Catalogue}
use Rattle.cat_model.specs.declared.key.Key.TheVariants as key
use Rattle.cat_model.specs.Values.{Bytes, Named}
use Rattle.cat_names.specs.DataSets.{TextsByOid}
use Rattle.opening_laws.specs.Entries.{catalogue_named}
use Rattle.opening_laws.specs.Texts.{rows_by_oid}
use Rattle.cat_sound.specs.Asked.{Asked}
use Rattle.cat_sound.specs.Sound.{IsMet, IsSound}
use Rattle.opening_laws.specs.Grammar.{grammar}
use Rattle.opening_laws.specs.Growing.{Grows}

-- a catalogue in order, which has what the opening stands for, and the role to which new objects belong
pub record IsLeft (opening : Catalogue) (texts : TextsByOid) (role : Bytes) (named : Named) : Type 0 where
  pub sound : IsSound grammar named
  pub grown : Grows (catalogue_named opening (rows_by_oid texts)) named
  pub owner : IsMet named (key.Role role, Asked.there)
