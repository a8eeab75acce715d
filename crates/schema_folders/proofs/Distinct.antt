-- Rows of which no two have one name or one oid.
use Rattle.std.proofs.Common.{◌≡◌, ℕ, Bool, true, false, ◌||◌, List, [], ◌∷◌, ◌++◌, refl, sym, ap, ◌∙◌}
use Rattle.std.specs.Ordering.{nat_cmp, eq_by_cmp}
use Rattle.std.specs.Cmp.{nat_cmp_total, eq_by_cmp_equiv}
use Rattle.std.specs.Cmp.Lexicographic.{nat_list_cmp_total}
use Rattle.std.specs.List.{list_any, IsDistinct}
use Rattle.std.proofs.lemmas.Cmp.{on_equiv}
use Rattle.std.proofs.lemmas.List.Folds.{list_any-append}
use Rattle.std.specs.BTreeSet.{BTreeSet, contains}
use Rattle.schema_folders.specs.Indexed.{IsIndexed}
use Rattle.std.proofs.lemmas.Map.Keys.{IsDistinct-push}
use Rattle.cat_model.specs.Values.{Bytes, bytes_cmp}
use Rattle.schema_folders.specs.declared.schemas.SchemaRow.{SchemaRow}
use Rattle.schema_folders.specs.Naming.{has_name, has_oid}

pub list_any_same : {A : Type 0} (f g : A → Bool) → ((a : A) → f a ≡ g a) → (xs : List A) → list_any f xs ≡ list_any g xs
list_any_same f g h [] = refl
list_any_same f g h (x ∷ xs) = ap (λ b. b || list_any f xs) (h x) ∙ ap (λ b. g x || b) (list_any_same f g h xs)

pub distinct_names-push : (rows : List SchemaRow) (row : SchemaRow) → IsDistinct (λ a b. eq_by_cmp bytes_cmp a.name b.name) rows → has_name row.name rows ≡ false → IsDistinct (λ a b. eq_by_cmp bytes_cmp a.name b.name) (rows ++ row ∷ [])
distinct_names-push rows row d h =
    IsDistinct-push (on_equiv (λ (r : SchemaRow). r.name) (eq_by_cmp_equiv nat_list_cmp_total)) rows row d
    (list_any_same (λ r. eq_by_cmp bytes_cmp row.name r.name) (λ r. eq_by_cmp bytes_cmp r.name row.name) (λ r. (eq_by_cmp_equiv nat_list_cmp_total).symm row.name r.name) rows ∙ h)

pub distinct_oids-push : (rows : List SchemaRow) (row : SchemaRow) → IsDistinct (λ a b. eq_by_cmp nat_cmp a.oid b.oid) rows → has_oid row.oid rows ≡ false → IsDistinct (λ a b. eq_by_cmp nat_cmp a.oid b.oid) (rows ++ row ∷ [])
distinct_oids-push rows row d h =
    IsDistinct-push (on_equiv (λ (r : SchemaRow). r.oid) (eq_by_cmp_equiv nat_cmp_total)) rows row d
    (list_any_same (λ r. eq_by_cmp nat_cmp row.oid r.oid) (λ r. eq_by_cmp nat_cmp r.oid row.oid) (λ r. (eq_by_cmp_equiv nat_cmp_total).symm row.oid r.oid) rows ∙ h)

or_turned : (a b : Bool) → (a || b) ≡ (b || (a || false))
or_turned true true = refl
or_turned true false = refl
or_turned false true = refl
or_turned false false = refl

-- the sets keep their rows' names and oids when a new row and its index are added
pub indexed-push : (rows : List SchemaRow) (row : SchemaRow) (name : Bytes) (oids oids' : BTreeSet ℕ) (names names' : BTreeSet Bytes) → IsIndexed rows oids names
    → ((q : ℕ) → contains nat_cmp oids' q ≡ (eq_by_cmp nat_cmp row.oid q || contains nat_cmp oids q))
    → ((q : Bytes) → contains bytes_cmp names' q ≡ (eq_by_cmp bytes_cmp name q || contains bytes_cmp names q))
    → name ≡ row.name → has_oid row.oid rows ≡ false → has_name row.name rows ≡ false → IsIndexed (rows ++ row ∷ []) oids' names'
indexed-push rows row name oids oids' names names' indexed o n same new_oid new_name = record {
  names_of = λ q.
      n q ∙ ap (λ m. eq_by_cmp bytes_cmp m q || contains bytes_cmp names q) same ∙ ap (λ b. eq_by_cmp bytes_cmp row.name q || b) (indexed.names_of q)
      ∙ or_turned (eq_by_cmp bytes_cmp row.name q) (has_name q rows) ∙ sym (list_any-append (λ r. eq_by_cmp bytes_cmp r.name q) rows (row ∷ []));
  oids_of = λ q.
      o q ∙ ap (λ b. eq_by_cmp nat_cmp row.oid q || b) (indexed.oids_of q)
      ∙ or_turned (eq_by_cmp nat_cmp row.oid q) (has_oid q rows) ∙ sym (list_any-append (λ r. eq_by_cmp nat_cmp r.oid q) rows (row ∷ []));
  distinct_names = distinct_names-push rows row indexed.distinct_names new_name;
  distinct_oids = distinct_oids-push rows row indexed.distinct_oids new_oid;
}
