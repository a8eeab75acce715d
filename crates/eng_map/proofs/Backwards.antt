-- Entries that are put one after another, the last one first, stand for their map.
use Rattle.std.proofs.Common.{◌≡◌, List, [], ◌∷◌, ◌++◌, Option, Some, None, refl, sym, ap, ◌∙◌}
use Rattle.std.specs.declared.cmp.Ordering.{Ordering}
use Rattle.std.specs.FinMap.{FinMap, empty, insert, from_entries}
use Rattle.cat_model.specs.Trees.{Change, changed, changed_at}
use Rattle.cat_model.specs.Values.{Named}

module _ {K X : Type 0} {R : K → K → Ordering} where
  -- a map with entries in front of what it has
  abbrev pub onto : List (K × X) → FinMap R X → FinMap R X
  onto [] m = m
  onto (e ∷ es) m = insert (onto es m) e.0 e.1

  pub onto-empty : (es : List (K × X)) → onto es empty ≡ from_entries es
  onto-empty [] = refl
  onto-empty (e ∷ es) = ap (λ (m : FinMap R X). insert m e.0 e.1) (onto-empty es)

  pub onto-push : (es : List (K × X)) (k : K) (v : X) (m : FinMap R X) → onto (es ++ (k, v) ∷ []) m ≡ onto es (insert m k v)
  onto-push [] k v m = refl
  onto-push (e ∷ es) k v m = ap (λ (m : FinMap R X). insert m e.0 e.1) (onto-push es k v m)

pub changed-push : (cs : List Change) (c : Change) (m : Named) → changed (cs ++ c ∷ []) m ≡ changed_at (changed cs m) c.0 c.1
changed-push [] c m = refl
changed-push (d ∷ cs) c m = changed-push cs c (changed_at m d.0 d.1)
