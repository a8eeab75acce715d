-- Sets of oids of the code, seen as finite sets.
use Rattle.std.proofs.Common.{◌≡◌, ℕ, ◌<◌, ◌≤◌, Bool, true, false, cond, ◌||◌, List, [], ◌∷◌, ◌⊎◌, inl, inr, refl, sym, ap, ◌∙◌}
use Rattle.std.proofs.lemmas.Bool.{cases_lt}
use Rattle.std.specs.Cmp.{nat_cmp_total, eq_by_cmp_equiv}
use Rattle.std.specs.FinSet.{FinSet, contains, insert, from_list, contains-from_list, contains-insert, same_set, nat_cmp-IsAntisymmetric}
use Rattle.std.specs.List.{list_any}
use Rattle.std.specs.Ordering.{nat_cmp, eq_by_cmp}

pub has_seen : (ks : List ℕ) (q : ℕ) → contains (from_list {R = nat_cmp} ks) q ≡ list_any (eq_by_cmp nat_cmp q) ks
has_seen ks q = contains-from_list nat_cmp_total ks q

or_true : (b c : Bool) → cond b true c ≡ (b || c)
or_true true c = refl
or_true false c = refl

pub put_seen : (ks js : List ℕ) (k : ℕ) → ((q : ℕ) → list_any (eq_by_cmp nat_cmp q) js ≡ cond (eq_by_cmp nat_cmp k q) true (list_any (eq_by_cmp nat_cmp q) ks)) → from_list {R = nat_cmp} js ≡ insert (from_list ks) k
put_seen ks js k h = same_set nat_cmp_total nat_cmp-IsAntisymmetric (from_list js) (insert (from_list ks) k) (λ q.
    has_seen js q
    ∙ h q
    ∙ or_true (eq_by_cmp nat_cmp k q) (list_any (eq_by_cmp nat_cmp q) ks)
    ∙ ap (λ (b : Bool). b || list_any (eq_by_cmp nat_cmp q) ks) ((eq_by_cmp_equiv nat_cmp_total).symm k q)
    ∙ ap (λ (b : Bool). eq_by_cmp nat_cmp q k || b) (sym (has_seen ks q))
    ∙ sym (contains-insert nat_cmp_total (from_list ks) k q))

pub stays_used : (ks js : List ℕ) (k next : ℕ)
    → ((q : ℕ) → list_any (eq_by_cmp nat_cmp q) js ≡ cond (eq_by_cmp nat_cmp k q) true (list_any (eq_by_cmp nat_cmp q) ks))
    → ((other : ℕ) → 16384 ≤ other → other < next → list_any (eq_by_cmp nat_cmp other) ks ≡ true)
    → (other : ℕ) → 16384 ≤ other → other < next → list_any (eq_by_cmp nat_cmp other) js ≡ true
stays_used ks js k next h all other low high = h other ∙ by (eq_by_cmp nat_cmp k other) (all other low high)
  where
    by : {c : Bool} (b : Bool) → c ≡ true → cond b true c ≡ true
    by true e = refl
    by false e = e

-- below an oid that was found from a place on, below which all are used, all are used
pub below_found : (ks : List ℕ) (next oid : ℕ)
    → ((other : ℕ) → 16384 ≤ other → other < next → list_any (eq_by_cmp nat_cmp other) ks ≡ true)
    → ((other : ℕ) → next ≤ other → other < oid → list_any (eq_by_cmp nat_cmp other) ks ≡ true)
    → (other : ℕ) → 16384 ≤ other → other < oid → list_any (eq_by_cmp nat_cmp other) ks ≡ true
below_found ks next oid all more other low high = by (cases_lt other next)
  where
    by : (other < next) ⊎ (next ≤ other) → list_any (eq_by_cmp nat_cmp other) ks ≡ true
    by (inl less) = all other low less
    by (inr from) = more other from high
