-- An entry is skipped by a dependency that was refused, or that was skipped and so leads on; and whatever leads to a
-- refused entry finds a blocked dependency in its place.
use Rattle.std.proofs.Common.{◌≡◌, ℕ, Bool, true, false, not, cond, ◌&&◌, ◌||◌, ◌==◌, List, [], ◌∷◌, ◌++◌, map, Option, Some, None, refl, ap, sym, subst, ◌∙◌, inl, inr, append_assoc}
use Rattle.std.specs.Prelude.{◌⊎◌}
use Rattle.std.specs.List.{list_any, find, filter}
use Rattle.std.proofs.lemmas.List.Folds.{list_any-append}
use Rattle.cat_model.specs.declared.cause.Cause.{Cause}
use Rattle.cat_model.specs.declared.object.QName.{QName}
use Rattle.cat_model.specs.Values.{Bytes, Named}
use Rattle.restore_plan.specs.declared.status.EntryStatus.{EntryStatus}
use Rattle.restore_plan.specs.declared.status.EntryStatus.TheVariants.{Done, Refused, Skipped}
use Rattle.restore_plan.specs.declared.entry.Entry.{Entry}
use Rattle.restore_plan.specs.Entries.{is_among, waits_for, deps}
use Rattle.restore_plan.specs.declared.planned.Planned.{Planned}
use Rattle.restore_plan.specs.Order.{foreign_keys_in, planned, plan_behind}
use Rattle.restore_plan.specs.Serial.{Under_way, started, after_steps, blocks, is_blocked, first_blocked, status_of, Left, entry_left, serial_behind}
use Rattle.restore_plan.specs.Serial as serial
use Rattle.restore_plan.specs.Chains.{is_skipped, Outcomes, outcomes, IsOne, Leads, to_refused, further, are_distinct, ids_of}
use Rattle.restore_plan.proofs.Booleans.{and_first, and_second, and_both, or_by_first, or_by_second, both_ways, not_true, same_number, number_itself}

abbrev ids : Outcomes → List ℕ
ids os = map (λ o. o.0.id) os

among-one : (os : Outcomes) (p : Planned) (s : EntryStatus) → IsOne (p, s) os → is_among p.id (ids os) ≡ true
among-one [] p s h = elim h [ ]
among-one (x ∷ xs) p s (inl e) = or_by_first (x.0.id == p.id) (is_among p.id (ids xs)) (ap (λ (o : Planned × EntryStatus). o.0.id == p.id) e ∙ number_itself p.id)
among-one (x ∷ xs) p s (inr h) = or_by_second (x.0.id == p.id) (is_among p.id (ids xs)) (among-one xs p s h)

-- where dump ids are distinct, one dump id has one outcome
one-alone : (os : Outcomes) → are_distinct (ids os) ≡ true → (p q : Planned) (s t : EntryStatus) → IsOne (p, s) os → IsOne (q, t) os → p.id ≡ q.id → s ≡ t
one-alone [] d p q s t h g same = elim h [ ]
one-alone (x ∷ xs) d p q s t (inl e) (inl f) same = ap (λ (o : Planned × EntryStatus). o.1) (sym e ∙ f)
one-alone (x ∷ xs) d p q s t (inl e) (inr g) same =
    let apart : is_among x.0.id (ids xs) ≡ false = not_true (is_among x.0.id (ids xs)) (and_first (not (is_among x.0.id (ids xs))) (are_distinct (ids xs)) d) in
    absurd (both_ways (is_among q.id (ids xs)) (among-one xs q t g) (subst (λ (j : ℕ). is_among j (ids xs) ≡ false) (ap (λ (o : Planned × EntryStatus). o.0.id) e ∙ same) apart))
one-alone (x ∷ xs) d p q s t (inr h) (inl f) same =
    let apart : is_among x.0.id (ids xs) ≡ false = not_true (is_among x.0.id (ids xs)) (and_first (not (is_among x.0.id (ids xs))) (are_distinct (ids xs)) d) in
    absurd (both_ways (is_among p.id (ids xs)) (among-one xs p s h) (subst (λ (j : ℕ). is_among j (ids xs) ≡ false) (ap (λ (o : Planned × EntryStatus). o.0.id) f ∙ sym same) apart))
one-alone (x ∷ xs) d p q s t (inr h) (inr g) same = one-alone xs (and_second (not (is_among x.0.id (ids xs))) (are_distinct (ids xs)) d) p q s t h g same

-- ---- the first blocked dependency

-- the first that a test finds passes and is one of the list
pub record Found (test : ℕ → Bool) (ds : List ℕ) (d : ℕ) : Type 0 where
  pub passes : test d ≡ true
  pub among : is_among d ds ≡ true

found : (test : ℕ → Bool) (ds : List ℕ) (d : ℕ) → find test ds ≡ Some d → Found test ds d
found test [] d e = cc
found test (x ∷ xs) d e = at (test x) refl e (found test xs d)
  where
    at : (b : Bool) → test x ≡ b → cond b (Some x) (find test xs) ≡ Some d → (find test xs ≡ Some d → Found test xs d) → Found test (x ∷ xs) d
    at true h g later =
        let is : x ≡ d = cc in
        record { passes = subst (λ (j : ℕ). test j ≡ true) is h; among = or_by_first (x == d) (is_among d xs) (subst (λ (j : ℕ). (x == j) ≡ true) is (number_itself x)) }
    at false h g later = let r = later g in record { passes = r.passes; among = or_by_second (x == d) (is_among d xs) r.among }

finds : (test : ℕ → Bool) (ds : List ℕ) (d : ℕ) → test d ≡ true → is_among d ds ≡ true → (x : ℕ) × (find test ds ≡ Some x)
finds test [] d h m = absurd (both_ways false m refl)
finds test (x ∷ xs) d h m = at (test x) refl (finds test xs d h)
  where
    at : (b : Bool) → test x ≡ b → (is_among d xs ≡ true → (y : ℕ) × (find test xs ≡ Some y)) → (y : ℕ) × (cond b (Some x) (find test xs) ≡ Some y)
    at true e later = (x, refl)
    at false e later = other (x == d) refl m later
      where
        other : (b : Bool) → (x == d) ≡ b → b || is_among d xs ≡ true → (is_among d xs ≡ true → (y : ℕ) × (find test xs ≡ Some y)) → (y : ℕ) × (find test xs ≡ Some y)
        other true f g later = absurd (both_ways (test d) h (subst (λ (j : ℕ). test j ≡ false) (same_number x d f) e))
        other false f g later = later g

-- ---- what came of one entry

-- the status that an entry gets
abbrev status_at : Bytes → Planned → Named → Option ℕ → EntryStatus
status_at boot p named by = (entry_left boot p named by).status

ran-not-skipped : (w : Under_way) (r : Option Cause) → is_skipped (status_of w r) ≡ false
ran-not-skipped w None = refl
ran-not-skipped w (Some cause) = refl

skipped-by : (boot : Bytes) (p : Planned) (named : Named) (by : Option ℕ) → is_skipped (status_at boot p named by) ≡ true → (d : ℕ) × (by ≡ Some d)
skipped-by boot p named None h =
    let w = after_steps boot p.id p.steps (started named) in
    absurd (both_ways (is_skipped (status_of w w.refused)) h (ran-not-skipped w w.refused))
skipped-by boot p named (Some d) h = (d, refl)

leads-by : (whole : Outcomes) (p q : Planned) (s : EntryStatus) → IsOne (q, s) whole → is_among q.id p.deps ≡ true → blocks s ≡ true → (is_skipped s ≡ true → Leads whole q) → Leads whole p
leads-by whole p q Done one among h later = absurd (both_ways false h refl)
leads-by whole p q (Refused n cause) one among h later = to_refused q n cause one among
leads-by whole p q (Skipped by) one among h later = further q (Skipped by) one among (later refl)

-- ---- skipped entries lead to refused ones

-- an entry of this dump id that blocks, and leads to a refused one where it was skipped
pub record Source (whole : Outcomes) (id : ℕ) : Type 0 where
  pub entry : Planned
  pub status : EntryStatus
  pub is : IsOne (entry, status) whole
  pub same : entry.id ≡ id
  pub blocks_it : blocks status ≡ true
  pub leads : is_skipped status ≡ true → Leads whole entry

abbrev Known : Outcomes → serial.Ended → Type 0
Known whole ended = (id : ℕ) → is_blocked ended id ≡ true → Source whole id

known-more : (whole : Outcomes) (ended : serial.Ended) (x : Planned) (s : EntryStatus) → Known whole ended → IsOne (x, s) whole → (is_skipped s ≡ true → Leads whole x) → Known whole (ended ++ (x.id, s) ∷ [])
known-more whole ended x s known one here id h = at (is_blocked ended id) refl (sym (list_any-append (λ e. e.0 == id && blocks e.1) ended ((x.id, s) ∷ [])) ∙ h)
  where
    last : (b : Bool) → (x.id == id && blocks s) ≡ b → b || false ≡ true → Source whole id
    last true e g = record { entry = x; status = s; is = one; same = same_number x.id id (and_first (x.id == id) (blocks s) e); blocks_it = and_second (x.id == id) (blocks s) e; leads = here }
    last false e g = absurd (both_ways false g refl)

    at : (b : Bool) → is_blocked ended id ≡ b → b || is_blocked ((x.id, s) ∷ []) id ≡ true → Source whole id
    at true e g = known id e
    at false e g = last (x.id == id && blocks s) refl g

leads-here : (boot : Bytes) (whole : Outcomes) (ended : serial.Ended) (named : Named) (x : Planned) → Known whole ended → is_skipped (entry_left boot x named (first_blocked ended x.deps)).status ≡ true → Leads whole x
leads-here boot whole ended named x known h =
    let r = skipped-by boot x named (first_blocked ended x.deps) h in
    let f : Found (is_blocked ended) x.deps r.0 = found (is_blocked ended) x.deps r.0 r.1 in
    let b : Source whole r.0 = known r.0 f.passes in
    leads-by whole x b.entry b.status b.is (subst (λ (j : ℕ). is_among j x.deps ≡ true) (sym b.same) f.among) b.blocks_it b.leads

pub skipped-lead : (boot : Bytes) (whole : Outcomes) (ps : List Planned) (ended : serial.Ended) (named : Named) → Known whole ended
    → ((o : Planned × EntryStatus) → IsOne o (outcomes ps (serial_behind boot ended named ps).statuses) → IsOne o whole)
    → (p : Planned) (s : EntryStatus) → IsOne (p, s) (outcomes ps (serial_behind boot ended named ps).statuses) → is_skipped s ≡ true → Leads whole p
skipped-lead boot whole [] ended named known sub p s h skips = elim h [ ]
skipped-lead boot whole (x ∷ xs) ended named known sub p s (inl e) skips =
    let P : Planned × EntryStatus → Type 0 = λ o. is_skipped o.1 ≡ true → Leads whole o.0 in
    subst P e (leads-here boot whole ended named x known) skips
skipped-lead boot whole (x ∷ xs) ended named known sub p s (inr g) skips =
    let left : Left = entry_left boot x named (first_blocked ended x.deps) in
    skipped-lead boot whole xs (ended ++ (x.id, left.status) ∷ []) left.catalogue
    (known-more whole ended x left.status known (sub (x, left.status) (inl refl)) (leads-here boot whole ended named x known))
    (λ o a. sub o (inr a)) p s g skips

-- ---- what leads to a refused entry is skipped

-- entries depend on earlier ones alone
abbrev pub DependsOnEarlier : List ℕ → List Planned → Type 0
DependsOnEarlier earlier [] = Unit {0}
DependsOnEarlier earlier (p ∷ ps) = ((d : ℕ) → is_among d p.deps ≡ true → is_among d earlier ≡ true) × DependsOnEarlier (earlier ++ p.id ∷ []) ps

abbrev Blocking : Outcomes → List ℕ → serial.Ended → Type 0
Blocking whole earlier ended = (q : Planned) (s : EntryStatus) → IsOne (q, s) whole → is_among q.id earlier ≡ true → blocks s ≡ true → is_blocked ended q.id ≡ true

blocking-more : (whole : Outcomes) → are_distinct (ids whole) ≡ true → (earlier : List ℕ) (ended : serial.Ended) (x : Planned) (t : EntryStatus) → Blocking whole earlier ended → IsOne (x, t) whole → Blocking whole (earlier ++ x.id ∷ []) (ended ++ (x.id, t) ∷ [])
blocking-more whole distinct earlier ended x t blocking one q s is among h =
    list_any-append (λ e. e.0 == q.id && blocks e.1) ended ((x.id, t) ∷ []) ∙ at (is_among q.id earlier) refl (sym (list_any-append (λ d. d == q.id) earlier (x.id ∷ [])) ∙ among)
  where
    last : (b : Bool) → (x.id == q.id) ≡ b → b || false ≡ true → is_blocked ended q.id || ((x.id == q.id && blocks t) || false) ≡ true
    last true e g =
        or_by_second (is_blocked ended q.id) ((x.id == q.id && blocks t) || false)
        (or_by_first (x.id == q.id && blocks t) false
        (and_both (x.id == q.id) (blocks t) e (ap blocks (one-alone whole distinct x q t s one is (same_number x.id q.id e)) ∙ h)))
    last false e g = absurd (both_ways false g refl)

    at : (b : Bool) → is_among q.id earlier ≡ b → b || is_among q.id (x.id ∷ []) ≡ true → is_blocked ended q.id || ((x.id == q.id && blocks t) || false) ≡ true
    at true e g = or_by_first (is_blocked ended q.id) ((x.id == q.id && blocks t) || false) (blocking q s is e h)
    at false e g = last (x.id == q.id) refl g

skipped-here : (boot : Bytes) (p : Planned) (named : Named) (by : Option ℕ) (d : ℕ) → by ≡ Some d → is_skipped (entry_left boot p named by).status ≡ true
skipped-here boot p named by d e = ap (λ (o : Option ℕ). is_skipped (entry_left boot p named o).status) e

-- an entry with a dependency that blocks is skipped
blocked-skips : (boot : Bytes) (whole : Outcomes) → are_distinct (ids whole) ≡ true → (ps : List Planned) (earlier : List ℕ) (ended : serial.Ended) (named : Named) → DependsOnEarlier earlier ps → Blocking whole earlier ended
    → ((o : Planned × EntryStatus) → IsOne o (outcomes ps (serial_behind boot ended named ps).statuses) → IsOne o whole)
    → (p : Planned) (s : EntryStatus) → IsOne (p, s) (outcomes ps (serial_behind boot ended named ps).statuses) → (q : Planned) (t : EntryStatus) → IsOne (q, t) whole → is_among q.id p.deps ≡ true → blocks t ≡ true → is_skipped s ≡ true
blocked-skips boot whole distinct [] earlier ended named depends blocking sub p s h q t is among b = elim h [ ]
blocked-skips boot whole distinct (x ∷ xs) earlier ended named depends blocking sub p s (inl e) q t is among b =
    let P : Planned × EntryStatus → Type 0 = λ o. is_among q.id o.0.deps ≡ true → is_skipped o.1 ≡ true in
    subst P e (λ m.
    let f = finds (is_blocked ended) x.deps q.id (blocking q t is (depends.0 q.id m) b) m in
    skipped-here boot x named (first_blocked ended x.deps) f.0 f.1) among
blocked-skips boot whole distinct (x ∷ xs) earlier ended named depends blocking sub p s (inr g) q t is among b =
    let left : Left = entry_left boot x named (first_blocked ended x.deps) in
    blocked-skips boot whole distinct xs (earlier ++ x.id ∷ []) (ended ++ (x.id, left.status) ∷ []) left.catalogue depends.1
    (blocking-more whole distinct earlier ended x left.status blocking (sub (x, left.status) (inl refl)))
    (λ o a. sub o (inr a)) p s g q t is among b

skipped-blocks : (s : EntryStatus) → is_skipped s ≡ true → blocks s ≡ true
skipped-blocks Done h = absurd (both_ways false h refl)
skipped-blocks (Refused n cause) h = refl
skipped-blocks (Skipped by) h = refl

abbrev Skips : Outcomes → Type 0
Skips whole = (p : Planned) (s : EntryStatus) → IsOne (p, s) whole → (q : Planned) (t : EntryStatus) → IsOne (q, t) whole → is_among q.id p.deps ≡ true → blocks t ≡ true → is_skipped s ≡ true

lead-skips : (whole : Outcomes) → Skips whole → {p : Planned} → Leads whole p → (s : EntryStatus) → IsOne (p, s) whole → is_skipped s ≡ true
lead-skips whole skips {p} (to_refused q n cause one among) s is = skips p s is q (Refused n cause) one among refl
lead-skips whole skips {p} (further q t one among lead) s is = skips p s is q t one among (skipped-blocks t (lead-skips whole skips lead t one))

-- ---- plans

ids-outcomes : (boot : Bytes) (ps : List Planned) (ended : serial.Ended) (named : Named) → ids (outcomes ps (serial_behind boot ended named ps).statuses) ≡ map (λ p. p.id) ps
ids-outcomes boot [] ended named = refl
ids-outcomes boot (p ∷ ps) ended named =
    let left : Left = entry_left boot p named (first_blocked ended p.deps) in
    ap (λ (ds : List ℕ). p.id ∷ ds) (ids-outcomes boot ps (ended ++ (p.id, left.status) ∷ []) left.catalogue)

ids-plan : (es : List Entry) (parents : List (QName × QName)) (earlier : List Entry) → map (λ p. p.id) (plan_behind parents earlier es) ≡ ids_of es
ids-plan [] parents earlier = refl
ids-plan (e ∷ es) parents earlier = ap (λ (ds : List ℕ). e.id ∷ ds) (ids-plan es (parents ++ foreign_keys_in e.steps) (earlier ++ e ∷ []))

among-filtered : (test : ℕ → Bool) (ds : List ℕ) (d : ℕ) → is_among d (filter test ds) ≡ true → test d ≡ true
among-filtered test [] d h = absurd (both_ways false h refl)
among-filtered test (x ∷ xs) d h = at (test x) refl h (among-filtered test xs d)
  where
    at : (b : Bool) → test x ≡ b → is_among d (cond b (x ∷ filter test xs) (filter test xs)) ≡ true → (is_among d (filter test xs) ≡ true → test d ≡ true) → test d ≡ true
    at true e g later = here (x == d) refl g later
      where
        here : (b : Bool) → (x == d) ≡ b → b || is_among d (filter test xs) ≡ true → (is_among d (filter test xs) ≡ true → test d ≡ true) → test d ≡ true
        here true f g later = subst (λ (j : ℕ). test j ≡ true) (same_number x d f) e
        here false f g later = later g
    at false e g later = later g

ids_of-append : (es fs : List Entry) → ids_of (es ++ fs) ≡ ids_of es ++ ids_of fs
ids_of-append [] fs = refl
ids_of-append (e ∷ es) fs = ap (λ (ds : List ℕ). e.id ∷ ds) (ids_of-append es fs)

plan-depends : (es : List Entry) (parents : List (QName × QName)) (earlier : List Entry) → DependsOnEarlier (ids_of earlier) (plan_behind parents earlier es)
plan-depends [] parents earlier = tt
plan-depends (e ∷ es) parents earlier = (
  λ d m. among-filtered (λ id. is_among id (ids_of earlier)) (waits_for earlier e) d m,
  subst (λ (ds : List ℕ). DependsOnEarlier ds (plan_behind (parents ++ foreign_keys_in e.steps) (earlier ++ e ∷ []) es)) (ids_of-append earlier (e ∷ []))
      (plan-depends es (parents ++ foreign_keys_in e.steps) (earlier ++ e ∷ [])),
)

-- each entry has one outcome
pub each-entry : (boot : Bytes) (ps : List Planned) (ended : serial.Ended) (named : Named) → map (λ o. o.0) (outcomes ps (serial_behind boot ended named ps).statuses) ≡ ps
each-entry boot [] ended named = refl
each-entry boot (p ∷ ps) ended named =
    let left : Left = entry_left boot p named (first_blocked ended p.deps) in
    ap (λ (qs : List Planned). p ∷ qs) (each-entry boot ps (ended ++ (p.id, left.status) ∷ []) left.catalogue)

nothing-known : (whole : Outcomes) → Known whole []
nothing-known whole id h = absurd (both_ways false h refl)

nothing-blocks : (whole : Outcomes) → Blocking whole [] []
nothing-blocks whole q s is h b = absurd (both_ways false h refl)

pub skips-only : (boot : Bytes) (opening : Named) (ps : List Planned) (p : Planned) (s : EntryStatus) → IsOne (p, s) (outcomes ps (serial_behind boot [] opening ps).statuses) → is_skipped s ≡ true → Leads (outcomes ps (serial_behind boot [] opening ps).statuses) p
skips-only boot opening ps p s one h =
    let whole = outcomes ps (serial_behind boot [] opening ps).statuses in
    skipped-lead boot whole ps [] opening (nothing-known whole) (λ o a. a) p s one h

pub skips-all : (boot : Bytes) (opening : Named) (es : List Entry) (pairs : List (QName × QName)) (p : Planned) (s : EntryStatus) → are_distinct (ids_of es) ≡ true → IsOne (p, s) (outcomes (plan_behind pairs [] es) (serial_behind boot [] opening (plan_behind pairs [] es)).statuses) → Leads (outcomes (plan_behind pairs [] es) (serial_behind boot [] opening (plan_behind pairs [] es)).statuses) p → is_skipped s ≡ true
skips-all boot opening es pairs p s distinct one lead =
    let ps = plan_behind pairs [] es in
    let whole = outcomes ps (serial_behind boot [] opening ps).statuses in
    let apart : are_distinct (ids whole) ≡ true = ap are_distinct (ids-outcomes boot ps [] opening ∙ ids-plan es pairs []) ∙ distinct in
    lead-skips whole (blocked-skips boot whole apart ps [] [] opening (plan-depends es pairs []) (nothing-blocks whole) (λ o a. a)) lead s one
