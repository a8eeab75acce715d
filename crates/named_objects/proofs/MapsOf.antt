-- A map of entries that are what another map has is that map; and entries that rows give where they give one.
use Rattle.std.proofs.Common.{◌≡◌, ◌⊎◌, List, [], ◌∷◌, Option, Some, None, unwrap_or, refl, ap, sym, ◌∙◌, inl, inr}
use Rattle.std.specs.declared.cmp.Ordering.{Ordering}
use Rattle.std.specs.Cmp.{IsTotalOrder}
use Rattle.std.specs.FinMap.{FinMap, IsAntisymmetric, get, find, from_entries, get-from_entries, same_map}
use Rattle.std.specs.List.{filter_map, cons_option}
use Rattle.cat_sound.proofs.Lists.{IsIn}
use Rattle.cat_sound.proofs.Maps.{find-in}
use Rattle.named_tables.proofs.Entries.{no_entry}

module _ {K X : Type 0} {R : K → K → Ordering} (total : IsTotalOrder R) (exact : IsAntisymmetric R) (m : FinMap R X) (es : List (K × X)) (held : (k : K) (v : X) → IsIn (k, v) es → get m k ≡ Some v) (covered : (k : K) (v : X) → get m k ≡ Some v → IsIn (k, v) es) where
  at_key : (k : K) (o p : Option X) → find R k es ≡ o → get m k ≡ p → o ≡ p
  at_key k (Some v) p found is = sym (held k v (find-in total exact es k v found)) ∙ is
  at_key k None None found is = refl
  at_key k None (Some v) found is = absurd (no_entry total es k v (covered k v is) found)

  pub map_stands : from_entries {R = R} es ≡ m
  map_stands = same_map total exact (from_entries es) m (λ k. get-from_entries total es k ∙ at_key k (find R k es) (get m k) refl refl)

pub in_given : {R E : Type 0} (gives : R → Option E) (rows : List R) (row : R) (e : E) → IsIn row rows → gives row ≡ Some e → IsIn e (filter_map gives rows)
in_given gives [] row e among is = elim among [ ]
in_given {R = R} {E = E} gives (x ∷ rows) row e among is = by (λ later. in_given gives rows row e later is) among (gives x) refl
  where
    by : (IsIn row rows → IsIn e (filter_map gives rows)) → (x ≡ row) ⊎ IsIn row rows → (o : Option E) → gives x ≡ o → IsIn e (cons_option o (filter_map gives rows))
    by more (inl same) None at =
        let none : None ≡ Some e = sym at ∙ ap gives same ∙ is in
        cc
    by more (inl same) (Some d) at =
        let both : Some d ≡ Some e = sym at ∙ ap gives same ∙ is in
        inl (ap (λ o. unwrap_or o d) both)
    by more (inr later) None at = more later
    by more (inr later) (Some d) at = inr (more later)

pub from_given : {R E : Type 0} (gives : R → Option E) (rows : List R) (e : E) → IsIn e (filter_map gives rows) → (row : R) × IsIn row rows × (gives row ≡ Some e)
from_given gives [] e among = elim among [ ]
from_given {R = R} {E = E} gives (x ∷ rows) e among = by (from_given gives rows e) (gives x) refl among
  where
    by : (IsIn e (filter_map gives rows) → (row : R) × IsIn row rows × (gives row ≡ Some e)) → (o : Option E) → gives x ≡ o → IsIn e (cons_option o (filter_map gives rows)) → (row : R) × IsIn row (x ∷ rows) × (gives row ≡ Some e)
    by more None at later = let found = more later in (found.0, inr found.1, found.2)
    by more (Some d) at (inl same) = (x, inl refl, at ∙ ap Some same)
    by more (Some d) at (inr later) = let found = more later in (found.0, inr found.1, found.2)
