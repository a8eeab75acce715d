-- The finite map that a map of the code stands for, where keys and values are seen through functions.
-- A change of the one changes the other.
use Rattle.std.proofs.Common.{◌≡◌, Bool, true, false, cond, List, [], ◌∷◌, map, Option, Some, option_map, BTreeMap, refl, sym, ap, subst, ◌∙◌}
use Rattle.std.specs.declared.cmp.Ordering.{Ordering}
use Rattle.std.specs.Ordering.{eq_by_cmp}
use Rattle.std.specs.Cmp.{IsTotalOrder, eq_by_cmp_equiv}
use Rattle.std.specs.FinMap.{FinMap, IsAntisymmetric, get, insert, find, from_entries, get-insert, get-from_entries, same_map}
use Rattle.std.specs.BTreeMap as tree
use Rattle.std.specs.BTreeMap.{is_at}
use Rattle.std.specs.Map.{lookup}

pub option_map-cond : {A B : Type 0} (f : A → B) (b : Bool) (x : A) (o : Option A) → option_map f (cond b (Some x) o) ≡ cond b (Some (f x)) (option_map f o)
option_map-cond f true x o = refl
option_map-cond f false x o = refl

module _ {J K X Y : Type 0} (Q : J → J → Ordering) (R : K → K → Ordering) (key : J → K) (value : X → Y) where
  -- the finite map of these entries
  abbrev pub mapped : List (J × X) → FinMap R Y
  mapped es = from_entries {R = R} (map {B = K × Y} (λ e. (key e.0, value e.1)) es)

module _ {J K X Y : Type 0} (Q : J → J → Ordering) (R : K → K → Ordering) (key : J → K) (value : X → Y)
    (total : IsTotalOrder R) (same : IsAntisymmetric R) (alike : (a b : J) → eq_by_cmp R (key a) (key b) ≡ eq_by_cmp Q a b) where
  find_mapped : (es : List (J × X)) (q : J) → find R (key q) (map {B = K × Y} (λ e. (key e.0, value e.1)) es) ≡ option_map value (lookup (is_at (Q q)) es)
  find_mapped [] q = refl
  find_mapped (e ∷ es) q =
      ap (λ b. cond b (Some (value e.1)) (find R (key q) (map {B = K × Y} (λ e. (key e.0, value e.1)) es))) (alike q e.0)
      ∙ ap (cond (eq_by_cmp Q q e.0) (Some (value e.1))) (find_mapped es q)
      ∙ sym (option_map-cond value (eq_by_cmp Q q e.0) e.1 (lookup (is_at (Q q)) es))

  -- what stands at a key
  pub get_mapped : (m : BTreeMap J X) (q : J) → get (mapped Q R key value m.entries) (key q) ≡ option_map value (tree.get Q m q)
  get_mapped m q = get-from_entries total _ (key q) ∙ find_mapped m.entries q

  -- to set a value in the one is to set it in the other
  pub set_mapped : (back : K → J) → ((k : K) → key (back k) ≡ k) → (m n : BTreeMap J X) (k : J) (v : X) → ((q : J) → tree.get Q n q ≡ cond (eq_by_cmp Q k q) (Some v) (tree.get Q m q)) → mapped Q R key value n.entries ≡ insert (mapped Q R key value m.entries) (key k) (value v)
  set_mapped back there m n k v u = same_map total same _ _ (λ q. subst (λ q. get (mapped Q R key value n.entries) q ≡ get (insert (mapped Q R key value m.entries) (key k) (value v)) q) (there q) (at (back q)))
    where
      at : (q : J) → get (mapped Q R key value n.entries) (key q) ≡ get (insert (mapped Q R key value m.entries) (key k) (value v)) (key q)
      at q =
          get_mapped n q
          ∙ ap (option_map value) (u q)
          ∙ option_map-cond value (eq_by_cmp Q k q) v (tree.get Q m q)
          ∙ ap (λ b. cond b (Some (value v)) (option_map value (tree.get Q m q))) (sym (alike k q) ∙ (eq_by_cmp_equiv total).symm (key k) (key q))
          ∙ sym (get-insert total (mapped Q R key value m.entries) (key k) (value v) (key q) ∙ ap (cond (eq_by_cmp R (key q) (key k)) (Some (value v))) (get_mapped m q))

  -- a map with the entries of another stands for the same
  pub same_mapped : (m n : BTreeMap J X) → n.entries ≡ m.entries → mapped Q R key value n.entries ≡ mapped Q R key value m.entries
  same_mapped m n e = ap (mapped Q R key value) e
