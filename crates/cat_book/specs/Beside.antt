-- What stands beside a catalogue in its book, so that nothing of it is sought by going through its tables.
use Rattle.std.specs.Prelude.{◌≡◌}
use Rattle.cat_rows.specs.declared.catalogue.Catalogue.{Catalogue}
use Rattle.cat_names.specs.Indexed.{AreKeys}
use Rattle.cat_names.specs.Kinds.{class_oids}
use Rattle.cat_names.specs.Lookups.{schema_oids}
use Rattle.cat_book.specs.declared.leads.Leads.{Leads}
use Rattle.cat_book.specs.declared.leads.Oids.{Oids}
use Rattle.cat_book.specs.declared.leads.OwnRows.{OwnRows}
use Rattle.cat_book.specs.declared.leads.Owners.{Owners}
use Rattle.cat_book.specs.declared.leads.Named.{Named}
use Rattle.cat_book.specs.Chains.{AreEnds}
use Rattle.cat_book.specs.Leads.{type_oids, label_types, column_numbers, column_cmp, column_names, column_relations, constraint_oids, key_indexes, primary_tables, view_oids, sequence_oids, index_oids}
use Rattle.cat_book.specs.Paths.{path_cmp, type_paths, class_paths}
use Rattle.cat_book.specs.Rules.{place_cmp}

pub record AreOids (cat : Catalogue) (oids : Oids) : Type 0 where
  pub schemas : oids.schemas ≡ schema_oids cat.pg_namespace
  pub types : oids.types ≡ type_oids cat.pg_type
  pub classes : oids.classes ≡ class_oids cat.pg_class
  pub constraints : oids.constraints ≡ constraint_oids cat

pub record AreOwnRows (cat : Catalogue) (own : OwnRows) : Type 0 where
  pub views : own.views ≡ view_oids cat
  pub sequences : own.sequences ≡ sequence_oids cat
  pub indexes : own.indexes ≡ index_oids cat

pub record AreOwners (cat : Catalogue) (owners : Owners) : Type 0 where
  pub key_indexes : owners.key_indexes ≡ key_indexes cat
  pub primary_tables : owners.primary_tables ≡ primary_tables cat
  pub labels : owners.labels ≡ label_types cat
  pub columns : owners.columns ≡ column_relations cat

pub record AreNamed (cat : Catalogue) (found : Named) : Type 0 where
  pub column_numbers : AreKeys place_cmp found.column_numbers (column_numbers cat)
  pub column_names : AreKeys column_cmp found.column_names (column_names cat)
  pub type_paths : AreKeys path_cmp found.type_paths (type_paths cat)
  pub class_paths : AreKeys path_cmp found.class_paths (class_paths cat)

pub record IsBeside (cat : Catalogue) (leads : Leads) : Type 0 where
  pub roles : leads.roles ≡ cat.pg_authid
  pub oids : AreOids cat leads.oids
  pub own_rows : AreOwnRows cat leads.own_rows
  pub owners : AreOwners cat leads.owners
  pub named : AreNamed cat leads.named
  pub ends : AreEnds cat.pg_type leads.ends.items
