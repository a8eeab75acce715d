-- Statements over the entries of a catalogue as a list, on which worked examples compute.
use Rattle.std.proofs.Common.{◌≡◌, Bool, true, false, not, cond, T, List, [], ◌∷◌, Option, Some, None, Result, Ok, Err, refl, ap, sym, ◌∙◌}
use Rattle.std.specs.Cmp.{eq_by_cmp_equiv}
use Rattle.std.specs.FinMap.{get, remove, entries, entries_sorted, from_sorted, find, put, is_sorted, get-entries, get-remove, get-retain_keys, entries-insert, entries-from_sorted, get-from_sorted, same_map}
use Rattle.std.specs.FinMap.Entries.{where_key, is_sorted-where_key, find-where_key}
use Rattle.cat_model.specs.declared.key.Key.{Key}
use Rattle.cat_model.specs.declared.class.Class.{Class}
use Rattle.cat_model.specs.declared.cause.Cause.{Cause}
use Rattle.cat_model.specs.declared.stmt.Stmt.{Stmt}
use Rattle.cat_model.specs.Keys.{key_cmp, key_eq}
use Rattle.cat_model.specs.KeyLaws.{key_cmp_total, key_cmp-IsAntisymmetric}
use Rattle.cat_model.specs.declared.value.Value.{Value}
use Rattle.cat_model.specs.Values.{Bytes, Named}
use Rattle.cat_model.specs.Effects.{effect}
use Rattle.model_laws.specs.Examples.{cause_in, causes, catalogue_after}
use Rattle.cat_model.specs.Trees.{Change, Tree, refuse, sets, look, scan, Seen, seen, outcome, there_and_of, class_of, changed_at, changed, after_or_same, next}

abbrev pub Entries : Type 0
Entries = List (Key × Value)

-- ---- keys that pass a test

kept : (n m : Named) (p : Key → Bool) → ((q : Key) → get m q ≡ cond (p q) (get n q) None) → entries m ≡ where_key key_cmp p (entries n)
kept n m p is =
    let es = where_key key_cmp p (entries n) in
    let sorted : T (is_sorted key_cmp es) = is_sorted-where_key key_cmp p (entries n) (entries_sorted n) in
    let same : m ≡ from_sorted es = same_map key_cmp_total key_cmp-IsAntisymmetric m (from_sorted es)
    (λ q. is q ∙ ap (λ (v : Option Value). cond (p q) v None) (get-entries n q)
    ∙ sym (get-from_sorted key_cmp es q sorted ∙ find-where_key key_cmp p q (λ x t. ap p (sym (key_cmp-IsAntisymmetric q x t))) (entries n))) in
    ap (λ (x : Named). entries x) same ∙ entries-from_sorted key_cmp es sorted

-- ---- what trees see and do

abbrev pub of_class_in : Entries → Class → Key → Bool
of_class_in es c k = there_and_of c k (find key_cmp k es)

abbrev pub seen_in : Entries → Seen
seen_in es = record { at = λ k. find key_cmp k es; all = λ c. where_key key_cmp (of_class_in es c) es }

class-in : (n : Named) (c : Class) → entries (class_of n c) ≡ where_key key_cmp (of_class_in (entries n) c) (entries n)
class-in n c = kept n (class_of n c) (of_class_in (entries n) c)
    (λ q. get-retain_keys n (λ k. there_and_of c k (get n k)) q (λ x t. ap (λ (k : Key). there_and_of c k (get n k)) (sym (key_cmp-IsAntisymmetric q x t)))
    ∙ ap (λ (v : Option Value). cond (there_and_of c q v) (get n q) None) (get-entries n q))

outcome-in : (t : Tree) (n : Named) → outcome t (seen n) ≡ outcome t (seen_in (entries n))
outcome-in (refuse because) n = refl
outcome-in (sets changes) n = refl
outcome-in (look k more) n = ap (λ (v : Option Value). outcome (more v) (seen n)) (get-entries n k) ∙ outcome-in (more (find key_cmp k (entries n))) n
outcome-in (scan c more) n = ap (λ (es : Entries). outcome (more es) (seen n)) (class-in n c) ∙ outcome-in (more (where_key key_cmp (of_class_in (entries n) c) (entries n))) n

abbrev pub changed_at_in : Entries → Key → Option Value → Entries
changed_at_in es k (Some v) = put key_cmp k v es
changed_at_in es k None = where_key key_cmp (λ x. not (key_eq k x)) es

abbrev pub changed_in : List Change → Entries → Entries
changed_in [] es = es
changed_in (c ∷ cs) es = changed_in cs (changed_at_in es c.0 c.1)

turned : (b : Bool) (v : Option Value) → cond b None v ≡ cond (not b) v None
turned true v = refl
turned false v = refl

changed_at-in : (n : Named) (k : Key) (v : Option Value) → entries (changed_at n k v) ≡ changed_at_in (entries n) k v
changed_at-in n k (Some v) = entries-insert key_cmp_total n k v
changed_at-in n k None = kept n (remove n k) (λ x. not (key_eq k x))
    (λ q. get-remove key_cmp_total n k q ∙ turned (key_eq q k) (get n q) ∙ ap (λ (b : Bool). cond (not b) (get n q) None) ((eq_by_cmp_equiv key_cmp_total).symm q k))

changed-in : (cs : List Change) (n : Named) → entries (changed cs n) ≡ changed_in cs (entries n)
changed-in [] n = refl
changed-in (c ∷ cs) n = changed-in cs (changed_at n c.0 c.1) ∙ ap (changed_in cs) (changed_at-in n c.0 c.1)

abbrev pub after_in : Result (List Change) Cause → Entries → Entries
after_in (Ok cs) es = changed_in cs es
after_in (Err cause) es = es

after-in : (r : Result (List Change) Cause) (n : Named) → entries (after_or_same r n) ≡ after_in r (entries n)
after-in (Ok cs) n = changed-in cs n
after-in (Err cause) n = refl

abbrev pub next_in : Tree → Entries → Entries
next_in t es = after_in (outcome t (seen_in es)) es

next-in : (t : Tree) (n : Named) → entries (next t n) ≡ next_in t (entries n)
next-in t n = after-in (outcome t (seen n)) n ∙ ap (λ (r : Result (List Change) Cause). after_in r (entries n)) (outcome-in t n)

-- ---- statements one after another

abbrev pub causes_in : Bytes → List Stmt → Entries → List (Option Cause)
causes_in boot [] es = []
causes_in boot (s ∷ ss) es = cause_in (outcome (effect boot s) (seen_in es)) ∷ causes_in boot ss (next_in (effect boot s) es)

abbrev pub entries_after : Bytes → List Stmt → Entries → Entries
entries_after boot [] es = es
entries_after boot (s ∷ ss) es = entries_after boot ss (next_in (effect boot s) es)

pub causes-in : (boot : Bytes) (ss : List Stmt) (n : Named) → causes boot ss n ≡ causes_in boot ss (entries n)
causes-in boot [] n = refl
causes-in boot (s ∷ ss) n =
    let t = effect boot s in
    ap (λ (r : Result (List Change) Cause). cause_in r ∷ causes boot ss (next t n)) (outcome-in t n)
    ∙ ap (λ (more : List (Option Cause)). cause_in (outcome t (seen_in (entries n))) ∷ more) (causes-in boot ss (next t n) ∙ ap (causes_in boot ss) (next-in t n))

pub catalogue-in : (boot : Bytes) (ss : List Stmt) (n : Named) → entries (catalogue_after boot ss n) ≡ entries_after boot ss (entries n)
catalogue-in boot [] n = refl
catalogue-in boot (s ∷ ss) n =
    let t = effect boot s in
    catalogue-in boot ss (next t n) ∙ ap (entries_after boot ss) (next-in t n)
