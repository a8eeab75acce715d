-- What stands beside a catalogue's book, so that the rows of an object are found without going through the tables.
use Rattle.std.specs.Prelude.{◌≡◌, pos, map}
use Rattle.cat_rows.specs.declared.catalogue.Catalogue.{Catalogue}
use Rattle.dump_rows.specs.declared.dump_rows.Groupings.{Groupings}
use Rattle.dump_rows.specs.declared.dump_rows.Places.{Places}

-- the rows in groups by their objects; in a group they stand by their numbers, or as they stand in the table
pub record AreGroupings (cat : Catalogue) (groups : Groupings) : Type 0 where
  pub columns : groups.columns ≡ map (λ a. (a.attrelid, a.attnum)) cat.pg_attribute
  pub labels : groups.labels ≡ map (λ e. (e.enumtypid, e.enumpos)) cat.pg_enum
  pub defaults : groups.defaults ≡ map (λ d. (d.adrelid, d.adnum)) cat.pg_attrdef
  pub of_tables : groups.of_tables ≡ map (λ c. (c.conrelid, pos 0)) cat.pg_constraint
  pub of_domains : groups.of_domains ≡ map (λ c. (c.contypid, pos 0)) cat.pg_constraint
  pub comments : groups.comments ≡ map (λ d. (d.objoid, d.objsubid)) cat.pg_description

-- the oids by which single rows are found
pub record ArePlaces (cat : Catalogue) (places : Places) : Type 0 where
  pub defaults : places.defaults ≡ map (λ d. d.oid) cat.pg_attrdef
  pub sequences : places.sequences ≡ map (λ s. s.seqrelid) cat.pg_sequence
  pub indexes : places.indexes ≡ map (λ i. i.indexrelid) cat.pg_index
  pub rewrites : places.rewrites ≡ map (λ r. r.oid) cat.pg_rewrite
  pub views : places.views ≡ map (λ r. r.ev_class) cat.pg_rewrite
