-- The entries of two maps, side by side: those that are left are the same exactly where the maps are.
use Rattle.std.proofs.Common.{◌≡◌, List, sym, ap, ◌∙◌}
use Rattle.std.specs.declared.cmp.Ordering.{Ordering}
use Rattle.std.specs.FinMap.{FinMap, entries, same_entries_map}

module _ {K X : Type 0} {R : K → K → Ordering} (m n : FinMap R X) where
  abbrev pub AreLeft : List (K × X) → List (K × X) → Type 0
  AreLeft s t = (s ≡ t → m ≡ n) × (m ≡ n → s ≡ t)

  pub at_first : (s t : List (K × X)) → s ≡ entries m → t ≡ entries n → AreLeft s t
  at_first s t from_m from_n = (
    λ e. same_entries_map m n (sym from_m ∙ e ∙ from_n),
    λ e. from_m ∙ ap entries e ∙ sym from_n,
  )
