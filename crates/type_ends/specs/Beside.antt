-- What stands beside a catalogue, so that the ends of chains and the labels of enums are found without following chains.
use Rattle.std.specs.Prelude.{◌≡◌, ℕ, ℤ, List, Option}
use Rattle.cat_rows.specs.declared.catalogue.Catalogue.{Catalogue}
use Rattle.cat_book.specs.Leads.{type_oids}
use Rattle.type_ends.specs.declared.ends.Base.{Base}
use Rattle.type_ends.specs.declared.jumps.Jump.{Jump}
use Rattle.type_ends.specs.Enums.{label_keys}
use Rattle.type_ends.specs.Jumps.{LeadFar}
use Rattle.type_ends.specs.Steps.{steps_of, bases_of}

-- the oids of the types, the labels' keys, where each chain ends, and what is there
pub record IsBeside (cat : Catalogue) (oids : List ℕ) (labels : List (ℕ × ℤ)) (jumps : List Jump) (bases : List (Option Base)) : Type 0 where
  pub same_oids : oids ≡ type_oids cat.pg_type
  pub same_labels : labels ≡ label_keys cat.pg_enum
  pub far : LeadFar (steps_of cat.pg_type) jumps
  pub same_bases : bases ≡ bases_of cat
