-- Sets of keys that are seen as other values: whether a value is there, and the set with one more.
use Rattle.std.proofs.Common.{◌≡◌, Bool, true, false, not, ◌||◌, List, [], ◌∷◌, ◌++◌, map, BTreeSet, refl, ap, ◌∙◌}
use Rattle.std.specs.BTreeSet.{contains}
use Rattle.std.specs.List.{list_any}
use Rattle.std.specs.declared.cmp.Ordering.{Ordering}
use Rattle.std.specs.Ordering.{eq_by_cmp}
use Rattle.cat_names.specs.Indexed.{AreKeys}
use Rattle.cat_names.specs.Lookups.{has_key}
use Rattle.cat_names.proofs.Steps.{map_pushed}
use Rattle.cat_book.specs.Sets.{HoldsSeen}

any_seen : {K V : Type 0} (seen : K → V) (f : V → Bool) (ks : List K) → list_any (λ k. f (seen k)) ks ≡ list_any f (map seen ks)
any_seen seen f [] = refl
any_seen seen f (k ∷ ks) = ap (λ b. f (seen k) || b) (any_seen seen f ks)

pub not_twice : (b : Bool) → not (not b) ≡ b
not_twice true = refl
not_twice false = refl

module _ {K V : Type 0} (seen : K → V) (cmp : V → V → Ordering) where
  -- a key is in the set exactly where what it is seen as is among the values
  pub held_has : (set : BTreeSet K) (values : List V) → HoldsSeen seen cmp set values → (k : K) → contains (λ a b. cmp (seen a) (seen b)) set k ≡ has_key cmp values (seen k)
  held_has set values h k =
      h.are k
      ∙ any_seen seen (eq_by_cmp cmp (seen k)) h.keys
      ∙ ap (λ vs. has_key cmp vs (seen k)) h.same

  -- the set of these keys is that of what they are seen as
  pub held_of : (set : BTreeSet K) (ks : List K) (values : List V) → AreKeys (λ a b. cmp (seen a) (seen b)) set ks → map seen ks ≡ values → HoldsSeen seen cmp set values
  held_of set ks values are same = record { keys = ks; are = are; same = same }

  -- one key more is one value more
  pub held_more : (set more : BTreeSet K) (values : List V) (k : K) → ((ks : List K) → AreKeys (λ a b. cmp (seen a) (seen b)) set ks → AreKeys (λ a b. cmp (seen a) (seen b)) more (ks ++ k ∷ []))
      → HoldsSeen seen cmp set values → HoldsSeen seen cmp more (values ++ seen k ∷ [])
  held_more set more values k add h =
      record { keys = h.keys ++ k ∷ []; are = add h.keys h.are; same = map_pushed seen h.keys k ∙ ap (λ vs. vs ++ seen k ∷ []) h.same }
