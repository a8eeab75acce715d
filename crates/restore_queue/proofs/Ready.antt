-- What the places of those that an entry waits for say of the entries before it.
use Rattle.std.proofs.Common.{◌≡◌, ℕ, zero, suc, ◌<◌, Bool, true, false, not, ◌&&◌, ◌||◌, ◌==◌, cond, nat_lt, List, [], ◌∷◌, map, take, Option, Some, None, refl, ap, sym, subst, ◌∙◌, arith}
use Rattle.std.specs.List.{list_any, list_all, find, filter_map, cons_option, slice_get}
use Rattle.std.specs.Option.{option_map_or}
use Rattle.std.proofs.lemmas.Bool.{lt-ltb, ltb-true}
use Rattle.restore_plan.specs.declared.planned.Planned.{Planned}
use Rattle.restore_plan.specs.declared.status.EntryStatus.{EntryStatus}
use Rattle.restore_plan.specs.Entries.{is_among}
use Rattle.cat_model.specs.Marks.{conflict}
use Rattle.restore_plan.specs.Order.{before, before_at, both}
use Rattle.restore_plan.specs.Serial.{blocks, is_blocked}
use Rattle.restore_core.specs.declared.phase.Phase.{Phase}
use Rattle.restore_core.specs.declared.phase.Phase.TheVariants.{Waiting, Running, Ended}
use Rattle.restore_core.specs.Phases.{has_ended, status_in}
use Rattle.restore_core.specs.Machine.{Going, all_before_ended, with_status, ended_of, blocked_by}
use Rattle.restore_core.proofs.Booleans.{and_first, and_second, and_both, or_by_first, or_by_second, both_ways, not_true, same_number, number_itself}
use Rattle.restore_core.proofs.Pairs.{head_is}
use Rattle.restore_queue.specs.Lined.{AreGoing}
use Rattle.restore_queue.specs.Ready.{AreWaited, ended_in, is_blocking, blocking_in, blocks_in, first_in}

-- two tests that hold together are one
pub alike : (a b : Bool) → (a ≡ true → b ≡ true) → (b ≡ true → a ≡ true) → a ≡ b
alike true b to from = sym (to refl)
alike false true to from = from refl
alike false false to from = refl

-- ---- members

pub all-at : {A : Type 0} (test : A → Bool) (xs : List A) (i : ℕ) (x : A) → list_all test xs ≡ true → slice_get xs i ≡ Some x → test x ≡ true
all-at test [] i x h e = cc
all-at test (y ∷ ys) zero x h e = let is : y ≡ x = cc in subst (λ z. test z ≡ true) is (and_first (test y) (list_all test ys) h)
all-at test (y ∷ ys) (suc i) x h e = all-at test ys i x (and_second (test y) (list_all test ys) h) e

pub all-by : {A : Type 0} (test : A → Bool) (xs : List A) → ((i : ℕ) (x : A) → slice_get xs i ≡ Some x → test x ≡ true) → list_all test xs ≡ true
all-by test [] h = refl
all-by test (y ∷ ys) h = and_both (test y) (list_all test ys) (h 0 y refl) (all-by test ys (λ i x e. h (suc i) x e))

pub any-at : {A : Type 0} (test : A → Bool) (xs : List A) (i : ℕ) (x : A) → slice_get xs i ≡ Some x → test x ≡ true → list_any test xs ≡ true
any-at test [] i x e h = cc
any-at test (y ∷ ys) zero x e h = let is : x ≡ y = cc in or_by_first (test y) (list_any test ys) (subst (λ z. test z ≡ true) is h)
any-at test (y ∷ ys) (suc i) x e h = or_by_second (test y) (list_any test ys) (any-at test ys i x e h)

pub record Member {A : Type 0} (test : A → Bool) (xs : List A) : Type 0 where
  pub place : ℕ
  pub item : A
  pub at : slice_get xs place ≡ Some item
  pub passes : test item ≡ true

pub any-in : {A : Type 0} (test : A → Bool) (xs : List A) → list_any test xs ≡ true → Member test xs
any-in test [] h = absurd (both_ways false h refl)
any-in {A} test (y ∷ ys) h = by (test y) refl h (any-in test ys)
  where
    by : (b : Bool) → test y ≡ b → b || list_any test ys ≡ true → (list_any test ys ≡ true → Member test ys) → Member test (y ∷ ys)
    by true is g later = record { place = 0; item = y; at = refl; passes = is }
    by false is g later = let m = later g in record { place = suc m.place; item = m.item; at = m.at; passes = m.passes }

-- ---- places in a list

pub in-places : (places : List ℕ) (k : ℕ) → is_among k places ≡ true → (i : ℕ) × (slice_get places i ≡ Some k)
in-places places k h =
    let m : Member (λ (n : ℕ). n == k) places = any-in (λ (n : ℕ). n == k) places h in
    (m.place, m.at ∙ ap Some (same_number m.item k m.passes))

pub of-places : (places : List ℕ) (i k : ℕ) → slice_get places i ≡ Some k → is_among k places ≡ true
of-places places i k e = any-at (λ (n : ℕ). n == k) places i k e (number_itself k)

-- ---- entries before

pub taken-at : {A : Type 0} (xs : List A) (i k : ℕ) (x : A) → slice_get (take i xs) k ≡ Some x → (k < i) × (slice_get xs k ≡ Some x)
taken-at xs zero k x e = cc
taken-at [] (suc i) k x e = cc
taken-at (y ∷ ys) (suc i) zero x e = (omega arith, e)
taken-at (y ∷ ys) (suc i) (suc k) x e = let r = taken-at ys i k x e in (omega arith, r.1)

pub in-taken : {A : Type 0} (xs : List A) (i k : ℕ) (x : A) → k < i → slice_get xs k ≡ Some x → slice_get (take i xs) k ≡ Some x
in-taken xs zero k x less e = absurd (omega arith)
in-taken [] (suc i) k x less e = cc
in-taken (y ∷ ys) (suc i) zero x less e = e
in-taken (y ∷ ys) (suc i) (suc k) x less e = in-taken ys i k x (omega arith) e

pub mapped-at : {A B : Type 0} (f : A → B) (xs : List A) (i : ℕ) (x : A) → slice_get xs i ≡ Some x → slice_get (map f xs) i ≡ Some (f x)
mapped-at f [] i x e = cc
mapped-at f (y ∷ ys) zero x e = ap (λ z. Some (f z)) (head_is y x e)
mapped-at f (y ∷ ys) (suc i) x e = mapped-at f ys i x e

pub record From {A B : Type 0} (f : A → B) (xs : List A) (i : ℕ) (y : B) : Type 0 where
  pub item : A
  pub at : slice_get xs i ≡ Some item
  pub is : f item ≡ y

pub from-mapped : {A B : Type 0} (f : A → B) (xs : List A) (i : ℕ) (y : B) → slice_get (map f xs) i ≡ Some y → From f xs i y
from-mapped f [] i y e = cc
from-mapped f (x ∷ xs) zero y e = record { item = x; at = refl; is = head_is (f x) y e }
from-mapped f (x ∷ xs) (suc i) y e = let r = from-mapped f xs i y e in record { item = r.item; at = r.at; is = r.is }

pub plan-of : (plan : List Planned) (phases : List Phase) (entries : List Going) → AreGoing plan phases entries → (k : ℕ) (x : Going) → slice_get entries k ≡ Some x → slice_get plan k ≡ Some x.plan
plan-of plan phases entries are k x e = ap (λ (ps : List Planned). slice_get ps k) (sym are.plans) ∙ mapped-at (λ y. y.plan) entries k x e

pub phase-of : (plan : List Planned) (phases : List Phase) (entries : List Going) → AreGoing plan phases entries → (k : ℕ) (x : Going) → slice_get entries k ≡ Some x → slice_get phases k ≡ Some x.phase
phase-of plan phases entries are k x e = ap (λ (fs : List Phase). slice_get fs k) (sym are.are) ∙ mapped-at (λ y. y.phase) entries k x e

pub entry-of : (plan : List Planned) (phases : List Phase) (entries : List Going) → AreGoing plan phases entries → (k : ℕ) (q : Planned) → slice_get plan k ≡ Some q → From (λ (x : Going). x.plan) entries k q
entry-of plan phases entries are k q e = from-mapped (λ (x : Going). x.plan) entries k q (ap (λ (ps : List Planned). slice_get ps k) are.plans ∙ e)

-- the k-th is before the i-th
before-is : (plan : List Planned) (k i : ℕ) (q p : Planned) → k < i → slice_get plan k ≡ Some q → slice_get plan i ≡ Some p → before_at plan k i ≡ before q p
before-is plan k i q p less e g =
    ap (λ (t : Bool). t && both before (slice_get plan k) (slice_get plan i)) (lt-ltb k i less)
    ∙ ap (λ (o : Option Planned). both before o (slice_get plan i)) e
    ∙ ap (λ (o : Option Planned). both before (Some q) o) g

pub record Earlier (plan : List Planned) (k i : ℕ) (p : Planned) : Type 0 where
  pub less : k < i
  pub planned : Planned
  pub at : slice_get plan k ≡ Some planned
  pub is : before planned p ≡ true

earlier-by : (plan : List Planned) (k i : ℕ) (p : Planned) → slice_get plan i ≡ Some p → before_at plan k i ≡ true → Earlier plan k i p
earlier-by plan k i p e h =
    by (slice_get plan k) refl (ap (λ (o : Option Planned). both before (slice_get plan k) o) (sym e) ∙ and_second (nat_lt k i) (both before (slice_get plan k) (slice_get plan i)) h)
  where
    by : (o : Option Planned) → slice_get plan k ≡ o → both before o (Some p) ≡ true → Earlier plan k i p
    by None g t = cc
    by (Some q) g t = record { less = ltb-true k i (and_first (nat_lt k i) (both before (slice_get plan k) (slice_get plan i)) h); planned = q; at = g; is = t }

-- ---- all before have ended

pub all-ended : (plan : List Planned) (phases : List Phase) (entries : List Going) (i : ℕ) (p : Planned) (places : List ℕ) → AreGoing plan phases entries → AreWaited plan i places → slice_get plan i ≡ Some p → list_all (ended_in phases) places ≡ all_before_ended (take i entries) p
all-ended plan phases entries i p places are waited e =
    alike (list_all (ended_in phases) places) (all_before_ended (take i entries) p) to from
  where
    test : Going → Bool
    test x = has_ended x.phase || not (before x.plan p)

    ended-is : (k : ℕ) (x : Going) → slice_get entries k ≡ Some x → ended_in phases k ≡ has_ended x.phase
    ended-is k x g = ap (λ (o : Option Phase). option_map_or has_ended o true) (phase-of plan phases entries are k x g)

    to : list_all (ended_in phases) places ≡ true → all_before_ended (take i entries) p ≡ true
    to h = all-by test (take i entries) (λ k x g.
        let t = taken-at entries i k x g in
        each k x t.0 t.1 (before x.plan p) refl)
      where
        each : (k : ℕ) (x : Going) → k < i → slice_get entries k ≡ Some x → (b : Bool) → before x.plan p ≡ b → has_ended x.phase || not (before x.plan p) ≡ true
        each k x less g true is =
            let member = in-places places k (waited k ∙ before-is plan k i x.plan p less (plan-of plan phases entries are k x g) e ∙ is) in
            or_by_first (has_ended x.phase) (not (before x.plan p)) (sym (ended-is k x g) ∙ all-at (ended_in phases) places member.0 k h member.1)
        each k x less g false is = or_by_second (has_ended x.phase) (not (before x.plan p)) (ap not is)

    from : all_before_ended (take i entries) p ≡ true → list_all (ended_in phases) places ≡ true
    from h = all-by (ended_in phases) places (λ n k g.
        let b = earlier-by plan k i p e (sym (waited k) ∙ of-places places n k g) in
        let x = entry-of plan phases entries are k b.planned b.at in
        let all = all-at test (take i entries) k x.item h (in-taken entries i k x.item b.less x.at) in
        ended-is k x.item x.at ∙ ended x.item (subst (λ (q : Planned). before q p ≡ true) (sym x.is) b.is) all)
      where
        ended : (x : Going) → before x.plan p ≡ true → has_ended x.phase || not (before x.plan p) ≡ true → has_ended x.phase ≡ true
        ended x is g = by (has_ended x.phase) refl g
          where
            by : (b : Bool) → has_ended x.phase ≡ b → b || not (before x.plan p) ≡ true → has_ended x.phase ≡ true
            by true f k = f
            by false f k = absurd (both_ways (before x.plan p) is (not_true (before x.plan p) k))

-- ---- what a list comes to, where some of it falls out

any-kept : {A B : Type 0} (h : A → Option B) (test : B → Bool) (xs : List A) (k : ℕ) (x : A) (b : B) → slice_get xs k ≡ Some x → h x ≡ Some b → test b ≡ true → list_any test (filter_map h xs) ≡ true
any-kept h test [] k x b e is passes = cc
any-kept h test (y ∷ ys) zero x b e is passes =
    let here : h y ≡ Some b = ap h (head_is y x e) ∙ is in
    ap (λ o. list_any test (cons_option o (filter_map h ys))) here ∙ or_by_first (test b) (list_any test (filter_map h ys)) passes
any-kept {A} {B} h test (y ∷ ys) (suc k) x b e is passes = by (h y) (any-kept h test ys k x b e is passes)
  where
    by : (o : Option B) → list_any test (filter_map h ys) ≡ true → list_any test (cons_option o (filter_map h ys)) ≡ true
    by None later = later
    by (Some c) later = or_by_second (test c) (list_any test (filter_map h ys)) later

pub record Kept {A B : Type 0} (h : A → Option B) (test : B → Bool) (xs : List A) : Type 0 where
  pub place : ℕ
  pub item : A
  pub at : slice_get xs place ≡ Some item
  pub to : B
  pub is : h item ≡ Some to
  pub passes : test to ≡ true

any-from : {A B : Type 0} (h : A → Option B) (test : B → Bool) (xs : List A) → list_any test (filter_map h xs) ≡ true → Kept h test xs
any-from h test [] g = absurd (both_ways false g refl)
any-from {A} {B} h test (y ∷ ys) g = by (h y) refl g (any-from h test ys)
  where
    behind : Kept h test ys → Kept h test (y ∷ ys)
    behind r = record { place = suc r.place; item = r.item; at = r.at; to = r.to; is = r.is; passes = r.passes }

    first : (c : B) → h y ≡ Some c → (b : Bool) → test c ≡ b → b || list_any test (filter_map h ys) ≡ true → (list_any test (filter_map h ys) ≡ true → Kept h test ys) → Kept h test (y ∷ ys)
    first c e true is t later = record { place = 0; item = y; at = refl; to = c; is = e; passes = is }
    first c e false is t later = behind (later t)

    by : (o : Option B) → h y ≡ o → list_any test (cons_option o (filter_map h ys)) ≡ true → (list_any test (filter_map h ys) ≡ true → Kept h test ys) → Kept h test (y ∷ ys)
    by None e t later = behind (later t)
    by (Some c) e t later = first c e (test c) refl t later

-- ---- blocked

status-blocks : (p : Phase) → is_blocking p ≡ true → (s : EntryStatus) × (status_in p ≡ Some s) × (blocks s ≡ true)
status-blocks Waiting h = absurd (both_ways false h refl)
status-blocks (Running worker run) h = absurd (both_ways false h refl)
status-blocks (Ended s) h = (s, refl, h)

blocks-status : (p : Phase) (s : EntryStatus) → status_in p ≡ Some s → blocks s ≡ true → is_blocking p ≡ true
blocks-status Waiting s e h = cc
blocks-status (Running worker run) s e h = cc
blocks-status (Ended t) s e h = subst (λ (q : EntryStatus). blocks q ≡ true) (same t s e) h
  where
    same : (a b : EntryStatus) → Some a ≡ Some b → b ≡ a
    same a b g = cc

-- a dependency is blocked exactly where one of those that the entry waits for has its dump id and was refused or skipped
same-blocked : (plan : List Planned) (phases : List Phase) (entries : List Going) (i : ℕ) (p : Planned) (places : List ℕ) (id : ℕ) → AreGoing plan phases entries → AreWaited plan i places → slice_get plan i ≡ Some p → is_among id p.deps ≡ true → list_any (blocks_in plan phases id) places ≡ is_blocked (ended_of (take i entries)) id
same-blocked plan phases entries i p places id are waited e dep =
    alike (list_any (blocks_in plan phases id) places) (is_blocked (ended_of (take i entries)) id) to from
  where
    test : ℕ × EntryStatus → Bool
    test r = r.0 == id && blocks r.1

    ended : Going → Option (ℕ × EntryStatus)
    ended x = with_status x.plan.id (status_in x.phase)

    to : list_any (blocks_in plan phases id) places ≡ true → is_blocked (ended_of (take i entries)) id ≡ true
    to h =
        let m : Member (blocks_in plan phases id) places = any-in (blocks_in plan phases id) places h in
        let b : Earlier plan m.item i p = earlier-by plan m.item i p e (sym (waited m.item) ∙ of-places places m.place m.item m.at) in
        let x : From (λ (x : Going). x.plan) entries m.item b.planned = entry-of plan phases entries are m.item b.planned b.at in
        let k = m.item in
        let blocking : is_blocking x.item.phase ≡ true = ap (λ (o : Option Phase). option_map_or is_blocking o false) (sym (phase-of plan phases entries are k x.item x.at)) ∙ and_second (option_map_or (λ q. q.id == id) (slice_get plan k) false) (blocking_in phases k) m.passes in
        let same : (x.item.plan.id == id) ≡ true = ap (λ (o : Option Planned). option_map_or (λ q. q.id == id) o false) (sym (plan-of plan phases entries are k x.item x.at)) ∙ and_first (option_map_or (λ q. q.id == id) (slice_get plan k) false) (blocking_in phases k) m.passes in
        let s = status-blocks x.item.phase blocking in
        any-kept ended test (take i entries) k x.item (x.item.plan.id, s.0) (in-taken entries i k x.item b.less x.at) (ap (with_status x.item.plan.id) s.1) (and_both (x.item.plan.id == id) (blocks s.0) same s.2)

    from : is_blocked (ended_of (take i entries)) id ≡ true → list_any (blocks_in plan phases id) places ≡ true
    from h =
        let r : Kept ended test (take i entries) = any-from ended test (take i entries) h in
        let t = taken-at entries i r.place r.item r.at in
        let k = r.place in
        let s = status-of r.item.plan.id (status_in r.item.phase) r.to r.is in
        let same : (r.item.plan.id == id) ≡ true = ap (λ (q : ℕ × EntryStatus). q.0 == id) s.1 ∙ and_first (r.to.0 == id) (blocks r.to.1) r.passes in
        let is : before r.item.plan p ≡ true = or_by_first (is_among r.item.plan.id p.deps) (conflict r.item.plan.footprint p.footprint) (ap (λ (n : ℕ). is_among n p.deps) (same_number r.item.plan.id id same) ∙ dep) in
        let member = in-places places k (waited k ∙ before-is plan k i r.item.plan p t.0 (plan-of plan phases entries are k r.item t.1) e ∙ is) in
        any-at (blocks_in plan phases id) places member.0 k member.1
        (and_both (option_map_or (λ q. q.id == id) (slice_get plan k) false) (blocking_in phases k)
        (ap (λ (o : Option Planned). option_map_or (λ q. q.id == id) o false) (plan-of plan phases entries are k r.item t.1) ∙ same)
        (ap (λ (o : Option Phase). option_map_or is_blocking o false) (phase-of plan phases entries are k r.item t.1) ∙ blocks-status r.item.phase r.to.1 s.0 (and_second (r.to.0 == id) (blocks r.to.1) r.passes)))
      where
        status-of : (n : ℕ) (o : Option EntryStatus) (q : ℕ × EntryStatus) → with_status n o ≡ Some q → (o ≡ Some q.1) × ((n, q.1) ≡ q)
        status-of n None q is = cc
        status-of n (Some s) q is = (cc, cc)

same-find : (f g : ℕ → Bool) (ids : List ℕ) → ((id : ℕ) → is_among id ids ≡ true → f id ≡ g id) → find f ids ≡ find g ids
same-find f g [] h = refl
same-find f g (d ∷ ds) h =
    let here : f d ≡ g d = h d (or_by_first (d == d) (is_among d ds) (number_itself d)) in
    let later : find f ds ≡ find g ds = same-find f g ds (λ id among. h id (or_by_second (d == id) (is_among id ds) among)) in
    ap (λ (b : Bool). cond b (Some d) (find f ds)) here ∙ ap (λ (o : Option ℕ). cond (g d) (Some d) o) later

pub same-first : (plan : List Planned) (phases : List Phase) (entries : List Going) (i : ℕ) (x : Going) (places : List ℕ) → AreGoing plan phases entries → AreWaited plan i places → slice_get entries i ≡ Some x → first_in plan phases places x.plan.deps ≡ blocked_by (take i entries) x
same-first plan phases entries i x places are waited e =
    same-find (λ id. list_any (blocks_in plan phases id) places) (is_blocked (ended_of (take i entries))) x.plan.deps
    (λ id dep. same-blocked plan phases entries i x.plan places id are waited (plan-of plan phases entries are i x e) dep)
