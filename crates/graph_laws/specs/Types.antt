-- Worked example: two enums, of which rows of pg_depend say that each depends on the other.
use Rattle.std.specs.Prelude.{◌≡◌, ℕ, pos, [], ◌∷◌, codes}
use Rattle.cat_rows.specs.declared.catalogue.Catalogue.{Catalogue}
use Rattle.cat_rows.specs.declared.notes.DependRow.{DependRow}
use Rattle.graph_laws.specs.Small.{empty_cluster, enum}
use Rattle.obj_graph.specs.Ids.{schema_id, type_id, pre_data, post_data}
use Rattle.graph_laws.specs.Shown.{all, ids, arrows, stays}

abbrev pub of_types : ℕ → ℕ → DependRow
of_types one other = record { classid = 1247; objid = one; objsubid = pos 0; refclassid = 1247; refobjid = other; refobjsubid = pos 0; deptype = 110 }

abbrev pub both_ways : Catalogue
both_ways = record empty_cluster {
  pg_type = enum 16384 (codes "x") ∷ enum 16385 (codes "y") ∷ [];
  pg_depend = of_types 16384 16385 ∷ of_types 16385 16384 ∷ [];
}

pub record BothWays : Type 0 where
  pub objects : ids both_ways all ≡ schema_id 2200 ∷ type_id 16384 ∷ type_id 16385 ∷ pre_data ∷ post_data ∷ []
  pub edges : arrows both_ways all ≡
      stays 1 0 ∷ stays 2 0 ∷ stays 1 2 ∷ stays 2 1
      ∷ stays 3 0 ∷ stays 3 1 ∷ stays 3 2 ∷ stays 4 3 ∷ []
