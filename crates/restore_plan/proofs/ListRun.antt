-- The serial restore over the entries of a catalogue as a list, on which worked examples compute.
use Rattle.std.proofs.Common.{◌≡◌, ℕ, ◌+◌, Bool, true, false, not, cond, T, List, [], ◌∷◌, ◌++◌, Option, Some, None, Result, Ok, Err, refl, ap, sym, ◌∙◌}
use Rattle.std.specs.declared.cmp.Ordering.{Ordering}
use Rattle.std.specs.declared.cmp.Ordering.TheVariants.{Less, Equal, Greater}
use Rattle.std.specs.Ordering.{eq_by_cmp}
use Rattle.std.specs.Cmp.{eq_by_cmp_equiv}
use Rattle.std.specs.FinMap.{get, remove, retain_keys, entries, entries_sorted, from_sorted, find, put, is_sorted, get-entries, get-remove, get-retain_keys, entries-insert, entries-from_sorted, get-from_sorted, same_map}
use Rattle.std.specs.FinMap.Entries.{where_key, is_sorted-where_key, find-where_key}
use Rattle.cat_model.specs.declared.key.Key.{Key}
use Rattle.cat_model.specs.declared.class.Class.{Class}
use Rattle.cat_model.specs.declared.cause.Cause.{Cause}
use Rattle.cat_model.specs.Keys.{key_cmp, key_eq}
use Rattle.cat_model.specs.KeyLaws.{key_cmp_total, key_cmp-IsAntisymmetric}
use Rattle.cat_model.specs.declared.value.Value.{Value}
use Rattle.cat_model.specs.Values.{Bytes, Named}
use Rattle.cat_model.specs.Effects.{effect}
use Rattle.cat_model.specs.Trees.{Change, Tree, refuse, sets, look, scan, Seen, seen, outcome, there_and_of, class_of, changed_at, changed, after_or_same, next}
use Rattle.restore_plan.specs.declared.status.EntryStatus.{EntryStatus}
use Rattle.restore_plan.specs.declared.status.EntryStatus.TheVariants.{Done, Refused, Skipped}
use Rattle.restore_plan.specs.declared.status.Note.{Note}
use Rattle.restore_plan.specs.declared.step.Step.{Step}
use Rattle.restore_plan.specs.declared.planned.Planned.{Planned}
use Rattle.restore_plan.specs.Serial.{Under_way, started, noted, ending, one_more, until_refusal, after_steps, Ended, first_blocked, status_of, entry_left, serial_behind}

abbrev pub Items : Type 0
Items = List (Key × Value)

-- ---- keys that pass a test

kept : (n m : Named) (p : Key → Bool) → ((q : Key) → get m q ≡ cond (p q) (get n q) None) → entries m ≡ where_key key_cmp p (entries n)
kept n m p is =
    let es = where_key key_cmp p (entries n) in
    let sorted : T (is_sorted key_cmp es) = is_sorted-where_key key_cmp p (entries n) (entries_sorted n) in
    let same : m ≡ from_sorted es = same_map key_cmp_total key_cmp-IsAntisymmetric m (from_sorted es)
    (λ q. is q ∙ ap (λ (v : Option Value). cond (p q) v None) (get-entries n q)
    ∙ sym (get-from_sorted key_cmp es q sorted ∙ find-where_key key_cmp p q (λ x t. ap p (sym (key_cmp-IsAntisymmetric q x t))) (entries n))) in
    ap (λ (x : Named). entries x) same ∙ entries-from_sorted key_cmp es sorted

-- ---- what trees see and do

abbrev pub of_class_in : Items → Class → Key → Bool
of_class_in es c k = there_and_of c k (find key_cmp k es)

abbrev pub seen_in : Items → Seen
seen_in es = record { at = λ k. find key_cmp k es; all = λ c. where_key key_cmp (of_class_in es c) es }

class-in : (n : Named) (c : Class) → entries (class_of n c) ≡ where_key key_cmp (of_class_in (entries n) c) (entries n)
class-in n c = kept n (class_of n c) (of_class_in (entries n) c)
    (λ q. get-retain_keys n (λ k. there_and_of c k (get n k)) q (λ x t. ap (λ (k : Key). there_and_of c k (get n k)) (sym (key_cmp-IsAntisymmetric q x t)))
    ∙ ap (λ (v : Option Value). cond (there_and_of c q v) (get n q) None) (get-entries n q))

outcome-in : (t : Tree) (n : Named) → outcome t (seen n) ≡ outcome t (seen_in (entries n))
outcome-in (refuse because) n = refl
outcome-in (sets changes) n = refl
outcome-in (look k more) n = ap (λ (v : Option Value). outcome (more v) (seen n)) (get-entries n k) ∙ outcome-in (more (find key_cmp k (entries n))) n
outcome-in (scan c more) n = ap (λ (es : Items). outcome (more es) (seen n)) (class-in n c) ∙ outcome-in (more (where_key key_cmp (of_class_in (entries n) c) (entries n))) n

abbrev pub changed_at_in : Items → Key → Option Value → Items
changed_at_in es k (Some v) = put key_cmp k v es
changed_at_in es k None = where_key key_cmp (λ x. not (key_eq k x)) es

abbrev pub changed_in : List Change → Items → Items
changed_in [] es = es
changed_in (c ∷ cs) es = changed_in cs (changed_at_in es c.0 c.1)

turned : (b : Bool) (v : Option Value) → cond b None v ≡ cond (not b) v None
turned true v = refl
turned false v = refl

changed_at-in : (n : Named) (k : Key) (v : Option Value) → entries (changed_at n k v) ≡ changed_at_in (entries n) k v
changed_at-in n k (Some v) = entries-insert key_cmp_total n k v
changed_at-in n k None = kept n (remove n k) (λ x. not (key_eq k x))
    (λ q. get-remove key_cmp_total n k q ∙ turned (key_eq q k) (get n q) ∙ ap (λ (b : Bool). cond (not b) (get n q) None) ((eq_by_cmp_equiv key_cmp_total).symm q k))

changed-in : (cs : List Change) (n : Named) → entries (changed cs n) ≡ changed_in cs (entries n)
changed-in [] n = refl
changed-in (c ∷ cs) n = changed-in cs (changed_at n c.0 c.1) ∙ ap (changed_in cs) (changed_at-in n c.0 c.1)

abbrev pub after_in : Result (List Change) Cause → Items → Items
after_in (Ok cs) es = changed_in cs es
after_in (Err cause) es = es

after-in : (r : Result (List Change) Cause) (n : Named) → entries (after_or_same r n) ≡ after_in r (entries n)
after-in (Ok cs) n = changed-in cs n
after-in (Err cause) n = refl

next-in : (t : Tree) (n : Named) → entries (next t n) ≡ after_in (outcome t (seen_in (entries n))) (entries n)
next-in t n = after-in (outcome t (seen n)) n ∙ ap (λ (r : Result (List Change) Cause). after_in r (entries n)) (outcome-in t n)

-- ---- the restore

pub record Way : Type 0 where
  pub items : Items
  pub run : ℕ
  pub notes : List Note
  pub refused : Option Cause

abbrev pub of_way : Under_way → Way
of_way w = record { items = entries w.catalogue; run = w.run; notes = w.notes; refused = w.refused }

abbrev pub more_in : ℕ → Way → Bool → Result (List Change) Cause → Way
more_in id w is_owner said = record { items = after_in said w.items; run = w.run + 1; notes = w.notes ++ noted id is_owner said; refused = ending is_owner said }

abbrev pub until_in : Bytes → ℕ → Way → Option Cause → Step → Way
until_in boot id w None s = more_in id w s.is_owner (outcome (effect boot s.statement) (seen_in w.items))
until_in boot id w (Some cause) s = w

abbrev pub steps_in : Bytes → ℕ → List Step → Way → Way
steps_in boot id [] w = w
steps_in boot id (s ∷ ss) w = steps_in boot id ss (until_in boot id w w.refused s)

way_parts : (a b : Items) (r s : Result (List Change) Cause) (w : Under_way) (id : ℕ) (is_owner : Bool) → a ≡ b → r ≡ s
    → ◌≡◌ {A = Way} (record { items = a; run = w.run + 1; notes = w.notes ++ noted id is_owner r; refused = ending is_owner r }) (record { items = b; run = w.run + 1; notes = w.notes ++ noted id is_owner s; refused = ending is_owner s })
way_parts a b r s w id is_owner e g =
    let made : Items → Result (List Change) Cause → Way = λ x y. record { items = x; run = w.run + 1; notes = w.notes ++ noted id is_owner y; refused = ending is_owner y } in
    ap (λ (x : Items). made x r) e ∙ ap (made b) g

pub until-in : (boot : Bytes) (id : ℕ) (w : Under_way) (r : Option Cause) (s : Step) → of_way (until_refusal boot id w r s) ≡ until_in boot id (of_way w) r s
until-in boot id w None s =
    let t = effect boot s.statement in
    way_parts (entries (next t w.catalogue)) (after_in (outcome t (seen_in (entries w.catalogue))) (entries w.catalogue)) (outcome t (seen w.catalogue)) (outcome t (seen_in (entries w.catalogue))) w id s.is_owner (next-in t w.catalogue) (outcome-in t w.catalogue)
until-in boot id w (Some cause) s = refl

steps-in : (boot : Bytes) (id : ℕ) (ss : List Step) (w : Under_way) → of_way (after_steps boot id ss w) ≡ steps_in boot id ss (of_way w)
steps-in boot id [] w = refl
steps-in boot id (s ∷ ss) w = steps-in boot id ss (until_refusal boot id w w.refused s) ∙ ap (steps_in boot id ss) (until-in boot id w w.refused s)

abbrev pub status_in : Way → Option Cause → EntryStatus
status_in w None = Done
status_in w (Some cause) = Refused w.run cause

-- the items and the status that an entry leaves
abbrev pub left_in : Bytes → Planned → Items → Option ℕ → Items × EntryStatus
left_in boot p es (Some by) = (es, Skipped by)
left_in boot p es None =
    let w = steps_in boot p.id p.steps (record { items = es; run = 0; notes = []; refused = None }) in
    (w.items, status_in w w.refused)

abbrev pub statuses_in : Bytes → Ended → Items → List Planned → List EntryStatus
statuses_in boot ended es [] = []
statuses_in boot ended es (p ∷ ps) =
    let l = left_in boot p es (first_blocked ended p.deps) in
    l.1 ∷ statuses_in boot (ended ++ (p.id, l.1) ∷ []) l.0 ps

same_status : (w : Under_way) (r : Option Cause) → status_of w r ≡ status_in (of_way w) r
same_status w None = refl
same_status w (Some cause) = refl

left-in : (boot : Bytes) (p : Planned) (n : Named) (by : Option ℕ) → ◌≡◌ {A = Items × EntryStatus} (entries (entry_left boot p n by).catalogue, (entry_left boot p n by).status) (left_in boot p (entries n) by)
left-in boot p n (Some by) = refl
left-in boot p n None =
    let w = after_steps boot p.id p.steps (started n) in
    ap (λ (s : EntryStatus). (entries w.catalogue, s)) (same_status w w.refused)
    ∙ ap (λ (v : Way). (v.items, status_in v v.refused)) (steps-in boot p.id p.steps (started n))

pub statuses-in : (boot : Bytes) (ps : List Planned) (ended : Ended) (n : Named) → (serial_behind boot ended n ps).statuses ≡ statuses_in boot ended (entries n) ps
statuses-in boot [] ended n = refl
statuses-in boot (p ∷ ps) ended n =
    let by = first_blocked ended p.deps in
    let e = entry_left boot p n by in
    ap (λ (ss : List EntryStatus). e.status ∷ ss) (statuses-in boot ps (ended ++ (p.id, e.status) ∷ []) e.catalogue)
    ∙ ap (λ (l : Items × EntryStatus). l.1 ∷ statuses_in boot (ended ++ (p.id, l.1) ∷ []) l.0 ps) (left-in boot p n by)

-- the notes that an entry leaves
abbrev pub notes_left_in : Bytes → Planned → Items → Option ℕ → List Note
notes_left_in boot p es (Some by) = []
notes_left_in boot p es None = (steps_in boot p.id p.steps (record { items = es; run = 0; notes = []; refused = None })).notes

abbrev pub notes_in : Bytes → Ended → Items → List Planned → List Note
notes_in boot ended es [] = []
notes_in boot ended es (p ∷ ps) =
    let l = left_in boot p es (first_blocked ended p.deps) in
    notes_left_in boot p es (first_blocked ended p.deps) ++ notes_in boot (ended ++ (p.id, l.1) ∷ []) l.0 ps

notes_left-in : (boot : Bytes) (p : Planned) (n : Named) (by : Option ℕ) → (entry_left boot p n by).notes ≡ notes_left_in boot p (entries n) by
notes_left-in boot p n (Some by) = refl
notes_left-in boot p n None = ap (λ (v : Way). v.notes) (steps-in boot p.id p.steps (started n))

pub notes-in : (boot : Bytes) (ps : List Planned) (ended : Ended) (n : Named) → (serial_behind boot ended n ps).notes ≡ notes_in boot ended (entries n) ps
notes-in boot [] ended n = refl
notes-in boot (p ∷ ps) ended n =
    let by = first_blocked ended p.deps in
    let e = entry_left boot p n by in
    ap (λ (ns : List Note). e.notes ++ ns) (notes-in boot ps (ended ++ (p.id, e.status) ∷ []) e.catalogue)
    ∙ ap (λ (l : Items × EntryStatus). e.notes ++ notes_in boot (ended ++ (p.id, l.1) ∷ []) l.0 ps) (left-in boot p n by)
    ∙ ap (λ (ns : List Note). ns ++ notes_in boot (ended ++ (p.id, (left_in boot p (entries n) by).1) ∷ []) (left_in boot p (entries n) by).0 ps) (notes_left-in boot p n by)
