-- What is told of a worker's turn is its turn in the machine.
use Rattle.std.proofs.Common.{◌≡◌, ◌⊎◌, inl, inr, ℕ, ◌<◌, ◌≤◌, Bool, true, false, not, ◌&&◌, ◌||◌, ◌==◌, cond, nat_lt, List, [], ◌∷◌, length, take, Option, Some, None, is_none, option_map, refl, ap, sym, subst, ◌∙◌, arith}
use Rattle.std.specs.Global.{Vec}
use Rattle.std.specs.List.{find, list_all, list_any, range_with_len, slice_get}
use Rattle.std.specs.Option.{option_map_or}
use Rattle.std.proofs.lemmas.Bool.{cases_lt, eq-eqb}
use Rattle.std.proofs.lemmas.List.{length-map}
use Rattle.std.proofs.lemmas.Option.{slice_get-map, slice_get_within}
use Rattle.restore_plan.specs.declared.planned.Planned.{Planned}
use Rattle.restore_core.specs.declared.event.Event.TheVariants as event
use Rattle.restore_core.specs.declared.phase.Phase.{Phase}
use Rattle.restore_core.specs.declared.phase.Phase.TheVariants.{Waiting, Running, Ended}
use Rattle.restore_core.specs.Phases.{has_ended, is_running, is_waiting}
use Rattle.restore_core.specs.Machine.{Going, State, all_ended, blocked_by, enabled, is_free, is_ready, may_skip, may_start, place_of}
use Rattle.restore_core.proofs.Booleans.{both_ways, same_number}
use Rattle.restore_turns.specs.declared.turn.Turn.TheVariants as turns
use Rattle.restore_turns.specs.Turns.{first_to_go, may_go, turn, turn_at}
use Rattle.restore_turns.proofs.Taking.{one-runs}
use Rattle.restore_queue.specs.declared.choice.Choice.TheVariants.{Stay}
use Rattle.restore_queue.specs.Choosing.{choice_at, choice_in, chosen, first_place, goes, goes_at, next_turn, skips, skips_at, turn_by, turn_of}
use Rattle.restore_queue.specs.Indexed.{AllMet, IsMet, Kept}
use Rattle.restore_queue.specs.Lined.{AreGoing}
use Rattle.restore_queue.specs.Ready.{AllWaited, ended_in, first_in, has_met, is_ready_at}
use Rattle.restore_queue.specs.Workers.{clash_in, entry_in, is_any}
use Rattle.restore_queue.proofs.Lists.{get-there}
use Rattle.restore_queue.proofs.Ready.{alike, all-at, all-by, all-ended, any-in, Member, phase-of, plan-of, same-first}
use Rattle.restore_queue.proofs.Workers.{any-runs-is, free-is, locks-is, place-is}

-- ---- one entry

whole-met : (phases : List Phase) (places : List ℕ) (m : ℕ) → IsMet phases places m → (m == length places) ≡ list_all (ended_in phases) places
whole-met phases places m met = alike (m == length places) (list_all (ended_in phases) places) to from
  where
    to : (m == length places) ≡ true → list_all (ended_in phases) places ≡ true
    to h = let whole : m ≡ length places = same_number m (length places) h in all-by (ended_in phases) places (λ k x e. met.below k x (subst (λ (n : ℕ). k < n) (sym whole) (slice_get_within places k x e)) e)

    by : list_all (ended_in phases) places ≡ true → (m < length places) ⊎ (length places ≤ m) → m ≡ length places
    by h (inl less) =
        let x = get-there places m less in
        absurd (both_ways (ended_in phases x.0) (all-at (ended_in phases) places m x.0 h x.1) (met.here x.0 x.1))
    by h (inr past) = let within = met.within in omega arith

    from : list_all (ended_in phases) places ≡ true → (m == length places) ≡ true
    from h = eq-eqb m (length places) (by h (cases_lt m (length places)))

-- the parts of a queue that stand in one place
record Place (plan : List Planned) (waits : List (Vec ℕ)) (met : List ℕ) (i : ℕ) : Type 0 where
  pub places : Vec ℕ
  pub waits_at : slice_get waits i ≡ Some places
  pub count : ℕ
  pub met_at : slice_get met i ≡ Some count

place-at : (plan : List Planned) (waits : List (Vec ℕ)) (met : List ℕ) (i : ℕ) (p : Planned) → length waits ≡ length plan → length met ≡ length plan → slice_get plan i ≡ Some p → Place plan waits met i
place-at plan waits met i p many_waits many_met e =
    let less = slice_get_within plan i p e in
    let v = get-there waits i (omega arith) in
    let m = get-there met i (omega arith) in
    record { places = v.0; waits_at = v.1; count = m.0; met_at = m.1 }

ready-is : (plan : List Planned) (phases : List Phase) (waits : List (Vec ℕ)) (met : List ℕ) (entries : List Going) (i : ℕ) (x : Going) → AreGoing plan phases entries → AllWaited plan waits → AllMet phases waits met → Place plan waits met i → slice_get entries i ≡ Some x → is_ready_at phases waits met i ≡ is_ready (take i entries) x
ready-is plan phases waits met entries i x are waited all p e =
    ap (λ (o : Option Phase). option_map_or is_waiting o false && has_met (slice_get waits i) (slice_get met i)) (phase-of plan phases entries are i x e)
    ∙ ap (λ (o : Option (Vec ℕ)). is_waiting x.phase && has_met o (slice_get met i)) p.waits_at
    ∙ ap (λ (o : Option ℕ). is_waiting x.phase && has_met (Some p.places) o) p.met_at
    ∙ ap (λ (b : Bool). is_waiting x.phase && b) (whole-met phases p.places.items p.count (all i p.count p.places p.waits_at p.met_at))
    ∙ ap (λ (b : Bool). is_waiting x.phase && b) (all-ended plan phases entries i x.plan p.places.items are (waited i p.places p.waits_at) (plan-of plan phases entries are i x e))

choice-is : (plan : List Planned) (phases : List Phase) (waits : List (Vec ℕ)) (met : List ℕ) (running : List (Option ℕ)) (entries : List Going) (i : ℕ) (x : Going) → AreGoing plan phases entries → AllWaited plan waits → AllMet phases waits met → Place plan waits met i → slice_get entries i ≡ Some x → choice_at plan phases waits met running i ≡ cond (is_ready (take i entries) x) (chosen (blocked_by (take i entries) x) (list_any (clash_in plan x.plan) running)) Stay
choice-is plan phases waits met running entries i x are waited all p e =
    ap (λ (b : Bool). cond b (choice_in plan phases running (slice_get waits i) (slice_get plan i)) Stay) (ready-is plan phases waits met entries i x are waited all p e)
    ∙ ap (λ (o : Option (Vec ℕ)). cond (is_ready (take i entries) x) (choice_in plan phases running o (slice_get plan i)) Stay) p.waits_at
    ∙ ap (λ (o : Option Planned). cond (is_ready (take i entries) x) (choice_in plan phases running (Some p.places) o) Stay) (plan-of plan phases entries are i x e)
    ∙ ap (λ (o : Option ℕ). cond (is_ready (take i entries) x) (chosen o (list_any (clash_in plan x.plan) running)) Stay) (same-first plan phases entries i x p.places.items are (waited i p.places p.waits_at) e)

skip-alike : (r : Bool) (b : Option ℕ) (c : Bool) → skips (cond r (chosen b c) Stay) ≡ r && not (is_none b)
skip-alike true (Some by) c = refl
skip-alike true None true = refl
skip-alike true None false = refl
skip-alike false b c = refl

go-alike : (r : Bool) (b : Option ℕ) (c : Bool) → goes (cond r (chosen b c) Stay) ≡ (r && not (is_none b)) || (r && (is_none b && not c))
go-alike true (Some by) c = refl
go-alike true None true = refl
go-alike true None false = refl
go-alike false b c = refl

-- where there is no entry
none-chosen : (plan : List Planned) (phases : List Phase) (waits : List (Vec ℕ)) (met : List ℕ) (running : List (Option ℕ)) (entries : List Going) (i : ℕ) → AreGoing plan phases entries → slice_get entries i ≡ None → choice_at plan phases waits met running i ≡ Stay
none-chosen plan phases waits met running entries i are e =
    let at : slice_get phases i ≡ None = ap (λ (ps : List Phase). slice_get ps i) (sym are.are) ∙ slice_get-map (λ (x : Going). x.phase) entries i ∙ ap (option_map (λ (x : Going). x.phase)) e in
    ap (λ (o : Option Phase). cond (option_map_or is_waiting o false && has_met (slice_get waits i) (slice_get met i)) (choice_in plan phases running (slice_get waits i) (slice_get plan i)) Stay) at

pub skips-is : (plan : List Planned) (phases : List Phase) (waits : List (Vec ℕ)) (met : List ℕ) (marks : List Bool) (running : List (Option ℕ)) (s : State) (i : ℕ) → AreGoing plan phases s.entries → Kept plan phases waits met marks running → skips_at plan phases waits met running i ≡ enabled s (event.Skip i)
skips-is plan phases waits met marks running s i are q = by (slice_get s.entries i) refl
  where
    by : (o : Option Going) → slice_get s.entries i ≡ o → skips_at plan phases waits met running i ≡ may_skip (take i s.entries) (slice_get s.entries i)
    by None e = ap skips (none-chosen plan phases waits met running s.entries i are e) ∙ ap (may_skip (take i s.entries)) (sym e)
    by (Some x) e =
        let p = place-at plan waits met i x.plan q.many_waits q.many_met (plan-of plan phases s.entries are i x e) in
        ap skips (choice-is plan phases waits met running s.entries i x are q.waited q.met_all p e)
        ∙ skip-alike (is_ready (take i s.entries) x) (blocked_by (take i s.entries) x) (list_any (clash_in plan x.plan) running)
        ∙ ap (may_skip (take i s.entries)) (sym e)

pub goes-is : (plan : List Planned) (phases : List Phase) (waits : List (Vec ℕ)) (met : List ℕ) (marks : List Bool) (running : List (Option ℕ)) (s : State) (worker i : ℕ) → AreGoing plan phases s.entries → Kept plan phases waits met marks running → nat_lt worker 64 ≡ true → is_free worker s.entries ≡ true → goes_at plan phases waits met running i ≡ may_go worker s i
goes-is plan phases waits met marks running s worker i are q small free = by (slice_get s.entries i) refl
  where
    begins : (o : Option Going) → nat_lt worker 64 && (is_free worker s.entries && may_start s.entries (take i s.entries) o) ≡ may_start s.entries (take i s.entries) o
    begins o =
        ap (λ (b : Bool). b && (is_free worker s.entries && may_start s.entries (take i s.entries) o)) small
        ∙ ap (λ (b : Bool). b && may_start s.entries (take i s.entries) o) free

    both : (o : Option Going) → may_skip (take i s.entries) o || may_start s.entries (take i s.entries) o ≡ may_skip (take i s.entries) o || (nat_lt worker 64 && (is_free worker s.entries && may_start s.entries (take i s.entries) o))
    both o = ap (λ (b : Bool). may_skip (take i s.entries) o || b) (sym (begins o))

    by : (o : Option Going) → slice_get s.entries i ≡ o → goes_at plan phases waits met running i ≡ may_go worker s i
    by None e =
        ap goes (none-chosen plan phases waits met running s.entries i are e)
        ∙ both None
        ∙ ap (λ (o : Option Going). may_skip (take i s.entries) o || (nat_lt worker 64 && (is_free worker s.entries && may_start s.entries (take i s.entries) o))) (sym e)
    by (Some x) e =
        let p = place-at plan waits met i x.plan q.many_waits q.many_met (plan-of plan phases s.entries are i x e) in
        let b = blocked_by (take i s.entries) x in
        let r = is_ready (take i s.entries) x in
        let c = list_any (clash_in plan x.plan) running in
        ap goes (choice-is plan phases waits met running s.entries i x are q.waited q.met_all p e)
        ∙ go-alike r b c
        ∙ ap (λ (f : Bool). (r && not (is_none b)) || (r && (is_none b && f))) (sym (locks-is plan phases s.entries running x.plan are q.running_all))
        ∙ both (Some x)
        ∙ ap (λ (o : Option Going). may_skip (take i s.entries) o || (nat_lt worker 64 && (is_free worker s.entries && may_start s.entries (take i s.entries) o))) (sym e)

-- ---- the first that goes

same-found : (f g : ℕ → Bool) (ns : List ℕ) → ((n : ℕ) → f n ≡ g n) → find f ns ≡ find g ns
same-found f g [] h = refl
same-found f g (n ∷ ns) h =
    ap (λ (b : Bool). cond b (Some n) (find f ns)) (h n) ∙ ap (λ (o : Option ℕ). cond (g n) (Some n) o) (same-found f g ns h)

many-entries : (plan : List Planned) (phases : List Phase) (entries : List Going) → AreGoing plan phases entries → length plan ≡ length entries
many-entries plan phases entries are = ap length (sym are.plans) ∙ length-map entries (λ (x : Going). x.plan)

none-running : (entries : List Going) → list_all (λ x. has_ended x.phase) entries ≡ true → list_any (λ x. is_running x.phase) entries ≡ false
none-running entries all = by (list_any (λ x. is_running x.phase) entries) refl
  where
    ended-not : (p : Phase) → has_ended p ≡ true → is_running p ≡ true → ⊥
    ended-not Waiting h g = both_ways false g refl
    ended-not (Running w run) h g = both_ways false h refl
    ended-not (Ended status) h g = both_ways false g refl

    by : (b : Bool) → list_any (λ x. is_running x.phase) entries ≡ b → b ≡ false
    by false h = refl
    by true h =
        let m : Member (λ (x : Going). is_running x.phase) entries = any-in (λ (x : Going). is_running x.phase) entries h in
        absurd (ended-not m.item.phase (all-at (λ (x : Going). has_ended x.phase) entries m.place m.item all m.at) m.passes)

-- ---- a worker's turn

pub turn-is : (plan : List Planned) (phases : List Phase) (waits : List (Vec ℕ)) (met : List ℕ) (marks : List Bool) (running : List (Option ℕ)) (s : State) (worker : ℕ) → AreGoing plan phases s.entries → Kept plan phases waits met marks running → nat_lt worker 64 ≡ true → turn_of (next_turn plan phases waits met running) (entry_in running worker) ≡ turn worker s
turn-is plan phases waits met marks running s worker are q small = by (entry_in running worker) refl
  where
    skipping : ℕ → Bool
    skipping = skips_at plan phases waits met running

    at : (o : Option ℕ) → first_to_go worker s ≡ o → is_free worker s.entries ≡ true → turn_by skipping (list_any is_any running) o ≡ turn_at s o
    at (Some i) f free = ap (λ (b : Bool). cond b (turns.Skip i) (turns.Run i)) (skips-is plan phases waits met marks running s i are q)
    at None f free = ends (all_ended s) refl
      where
        ends : (b : Bool) → all_ended s ≡ b → cond (list_any is_any running) turns.NotYet turns.Finished ≡ cond b turns.Finished turns.NotYet
        ends true all =
            ap (λ (b : Bool). cond b turns.NotYet turns.Finished) (sym (any-runs-is plan phases s.entries running are q.running_all) ∙ none-running s.entries all)
        ends false going =
            let waits_now : turn worker s ≡ turns.NotYet =
            ap (λ (b : Bool). cond b (turn_at s (first_to_go worker s)) (turns.Run (place_of worker s.entries))) free
            ∙ ap (turn_at s) f
            ∙ ap (λ (b : Bool). cond b turns.Finished turns.NotYet) going in
            ap (λ (b : Bool). cond b turns.NotYet turns.Finished) (sym (any-runs-is plan phases s.entries running are q.running_all) ∙ one-runs worker s small waits_now)

    by : (o : Option ℕ) → entry_in running worker ≡ o → turn_of (next_turn plan phases waits met running) (entry_in running worker) ≡ turn worker s
    by (Some i) e =
        let free : is_free worker s.entries ≡ false = free-is plan phases s.entries running worker are q.running_all ∙ ap is_none e in
        ap (turn_of (next_turn plan phases waits met running)) e
        ∙ ap turns.Run (sym (place-is plan phases s.entries running worker i are q.running_all e))
        ∙ sym (ap (λ (b : Bool). cond b (turn_at s (first_to_go worker s)) (turns.Run (place_of worker s.entries))) free)
    by None e =
        let free : is_free worker s.entries ≡ true = free-is plan phases s.entries running worker are q.running_all ∙ ap is_none e in
        let first : first_place plan phases waits met running ≡ first_to_go worker s =
        same-found (goes_at plan phases waits met running) (may_go worker s) (range_with_len 0 (length plan)) (λ i. goes-is plan phases waits met marks running s worker i are q small free)
        ∙ ap (λ (n : ℕ). find (may_go worker s) (range_with_len 0 n)) (many-entries plan phases s.entries are) in
        ap (turn_of (next_turn plan phases waits met running)) e
        ∙ ap (turn_by skipping (list_any is_any running)) first
        ∙ at (first_to_go worker s) refl free
        ∙ sym (ap (λ (b : Bool). cond b (turn_at s (first_to_go worker s)) (turns.Run (place_of worker s.entries))) free)

-- what skips an entry
pub blocker-is : (plan : List Planned) (phases : List Phase) (waits : List (Vec ℕ)) (met : List ℕ) (marks : List Bool) (running : List (Option ℕ)) (entries : List Going) (i : ℕ) (x : Going) → AreGoing plan phases entries → Kept plan phases waits met marks running → slice_get entries i ≡ Some x → option_map_or (λ v. option_map_or (λ p. first_in plan phases v.items p.deps) (slice_get plan i) None) (slice_get waits i) None ≡ blocked_by (take i entries) x
blocker-is plan phases waits met marks running entries i x are q e =
    let at = plan-of plan phases entries are i x e in
    let p = place-at plan waits met i x.plan q.many_waits q.many_met at in
    ap (λ (o : Option (Vec ℕ)). option_map_or (λ v. option_map_or (λ y. first_in plan phases v.items y.deps) (slice_get plan i) None) o None) p.waits_at
    ∙ ap (λ (o : Option Planned). option_map_or (λ y. first_in plan phases p.places.items y.deps) o None) at
    ∙ same-first plan phases entries i x p.places.items are (q.waited i p.places p.waits_at) e
