-- The entries of a catalogue are what stands at their keys.
use Rattle.std.proofs.Common.{◌≡◌, Bool, true, false, cond, ◌&&◌, T, List, [], ◌∷◌, Option, Some, None, refl, ap, sym, subst, ◌∙◌}
use Rattle.std.specs.declared.cmp.Ordering.{Ordering}
use Rattle.std.specs.declared.cmp.Ordering.TheVariants.{Less, Equal, Greater}
use Rattle.std.specs.Ordering.{eq_by_cmp, is_lt, is_eq, ordering_reverse}
use Rattle.std.specs.FinMap.{get, entries, find, is_sorted, entries_sorted, get-entries}
use Rattle.std.specs.FinMap.Entries.{below_all}
use Rattle.cat_model.specs.declared.key.Key.{Key}
use Rattle.cat_model.specs.declared.class.Class.{Class}
use Rattle.cat_model.specs.Keys.{key_cmp}
use Rattle.cat_model.specs.KeyLaws.{key_cmp_total}
use Rattle.cat_model.specs.declared.value.Value.{Value}
use Rattle.cat_model.specs.Values.{Named}
use Rattle.cat_model.specs.Trees.{there_and_of, class_of}
use Rattle.model_laws.proofs.Changes.{key_eq_self}
use Rattle.model_laws.proofs.Exchange.{shown, get-class}

-- something holds of each key with its value
abbrev pub EachEntry : (Key → Value → Type 0) → List (Key × Value) → Type 0
EachEntry P [] = Unit {0}
EachEntry P (e ∷ es) = P e.0 e.1 × EachEntry P es

pub each-map : (P Q : Key → Value → Type 0) → ((k : Key) (v : Value) → P k v → Q k v) → (es : List (Key × Value)) → EachEntry P es → EachEntry Q es
each-map P Q step [] h = h
each-map P Q step (e ∷ es) h = (step e.0 e.1 h.0, each-map P Q step es h.1)

front : (a b : Bool) → T (a && b) → T a
front true b p = tt
front false b p = p

back : (a b : Bool) → T (a && b) → T b
back true b p = p
back false b p = absurd p

turned : (r : Ordering) → T (is_lt r) → is_eq (ordering_reverse r) ≡ false
turned Less p = refl
turned Equal p = absurd p
turned Greater p = refl

later_apart : (x k : Key) → T (is_lt (key_cmp x k)) → eq_by_cmp key_cmp k x ≡ false
later_apart x k p = ap is_eq (key_cmp_total.antisymm k x) ∙ turned (key_cmp x k) p

still_found : (x : Key) (w : Value) (es rest : List (Key × Value)) → T (below_all key_cmp x rest) → EachEntry (λ k v. find key_cmp k es ≡ Some v) rest → EachEntry (λ k v. find key_cmp k ((x, w) ∷ es) ≡ Some v) rest
still_found x w es [] p h = h
still_found x w es (e ∷ rest) p h = (
  ap (λ (b : Bool). cond b (Some w) (find key_cmp e.0 es)) (later_apart x e.0 (front (is_lt (key_cmp x e.0)) (below_all key_cmp x rest) p)) ∙ h.0,
  still_found x w es rest (back (is_lt (key_cmp x e.0)) (below_all key_cmp x rest) p) h.1,
)

found : (es : List (Key × Value)) → T (is_sorted key_cmp es) → EachEntry (λ k v. find key_cmp k es ≡ Some v) es
found [] p = tt
found (e ∷ es) p = (
  ap (λ (b : Bool). cond b (Some e.1) (find key_cmp e.0 es)) (tied e.0),
  still_found e.0 e.1 es es (front (below_all key_cmp e.0 es) (is_sorted key_cmp es) p) (found es (back (below_all key_cmp e.0 es) (is_sorted key_cmp es) p)),
)
  where
    tied : (k : Key) → eq_by_cmp key_cmp k k ≡ true
    tied k = key_eq_self k

pub entries-get : (m : Named) → EachEntry (λ k v. get m k ≡ Some v) (entries m)
entries-get m = each-map (λ k v. find key_cmp k (entries m) ≡ Some v) (λ k v. get m k ≡ Some v) (λ k v e. get-entries m k ∙ e) (entries m) (found (entries m) (entries_sorted m))

shown_some : (c : Class) (k : Key) (v : Value) (o : Option Value) (b : Bool) → there_and_of c k o ≡ b → cond b o None ≡ Some v → (o ≡ Some v) × (there_and_of c k o ≡ true)
shown_some c k v o true e h = (h, e)
shown_some c k v o false e h = cc

-- an entry of a class stands in the catalogue, and is of the class
pub class-entries : (n : Named) (c : Class) → EachEntry (λ k v. (get n k ≡ Some v) × (there_and_of c k (get n k) ≡ true)) (entries (class_of n c))
class-entries n c =
    each-map (λ k v. get (class_of n c) k ≡ Some v) (λ k v. (get n k ≡ Some v) × (there_and_of c k (get n k) ≡ true))
    (λ k v e. shown_some c k v (get n k) (there_and_of c k (get n k)) refl (sym (get-class n c k) ∙ e))
    (entries (class_of n c)) (entries-get (class_of n c))
