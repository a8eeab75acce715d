-- What the two sets beside the rows of schemas keep.
-- They find a name or an oid without going through the rows.
use Rattle.std.specs.Prelude.{◌≡◌, ℕ, List}
use Rattle.std.specs.Ordering.{nat_cmp, eq_by_cmp}
use Rattle.std.specs.List.{IsDistinct}
use Rattle.std.specs.BTreeSet.{BTreeSet, contains}
use Rattle.cat_model.specs.Values.{Bytes, bytes_cmp}
use Rattle.schema_folders.specs.declared.schemas.SchemaRow.{SchemaRow}
use Rattle.schema_folders.specs.Naming.{has_name, has_oid}

-- the sets are the names and the oids of the rows, and none of these comes twice
pub record IsIndexed (rows : List SchemaRow) (oids : BTreeSet ℕ) (names : BTreeSet Bytes) : Type 0 where
  pub names_of : (name : Bytes) → contains bytes_cmp names name ≡ has_name name rows
  pub oids_of : (oid : ℕ) → contains nat_cmp oids oid ≡ has_oid oid rows
  pub distinct_names : IsDistinct (λ a b. eq_by_cmp bytes_cmp a.name b.name) rows
  pub distinct_oids : IsDistinct (λ a b. eq_by_cmp nat_cmp a.oid b.oid) rows
