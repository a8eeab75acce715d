-- The first of a range that goes, where none does before a place.
use Rattle.std.proofs.Common.{◌≡◌, ℕ, zero, suc, ◌+◌, ◌-◌, ◌/◌, ◌<◌, ◌≤◌, Bool, true, false, cond, List, Option, Some, refl, ap, subst, ◌∙◌, arith}
use Rattle.std.specs.Global.{Vec}
use Rattle.std.specs.List.{find, range_with_len, slice_get}
use Rattle.std.specs.Option.{option_map_or}
use Rattle.restore_plan.specs.declared.planned.Planned.{Planned}
use Rattle.restore_core.specs.declared.phase.Phase.{Phase}
use Rattle.restore_core.proofs.Booleans.{both_ways}
use Rattle.restore_queue.specs.declared.choice.Choice.TheVariants.{Stay}
use Rattle.restore_queue.specs.Choosing.{choice_in, goes, goes_at, is_marked}
use Rattle.restore_queue.specs.Indexed.{AreMarked, block}
use Rattle.restore_queue.specs.Ready.{is_ready_at}

find-past : (test : ℕ → Bool) (i d m : ℕ) → ((k : ℕ) → i ≤ k → k < i + d → test k ≡ false) → find test (range_with_len i (d + m)) ≡ find test (range_with_len (i + d) m)
find-past test i zero m none =
    let left : zero + m ≡ m = omega arith in
    let right : i ≡ i + zero = omega arith in
    ap (λ (n : ℕ). find test (range_with_len i n)) left ∙ ap (λ (n : ℕ). find test (range_with_len n m)) right
find-past test i (suc d) m none =
    let more : suc d + m ≡ suc (d + m) = omega arith in
    let on : i + 1 + d ≡ i + suc d = omega arith in
    ap (λ (n : ℕ). find test (range_with_len i n)) more
    ∙ ap (λ (b : Bool). cond b (Some i) (find test (range_with_len (i + 1) (d + m)))) (none i (omega arith) (omega arith))
    ∙ find-past test (i + 1) d m (λ k low less. none k (omega arith) (omega arith))
    ∙ ap (λ (n : ℕ). find test (range_with_len n m)) on

pub find-on : (test : ℕ → Bool) (i e n : ℕ) → i ≤ e → e ≤ n → ((k : ℕ) → i ≤ k → k < e → test k ≡ false) → find test (range_with_len i (n - i)) ≡ find test (range_with_len e (n - e))
find-on test i e n low high none =
    let parts : n - i ≡ (e - i) + (n - e) = omega arith in
    let there : i + (e - i) ≡ e = omega arith in
    ap (λ (m : ℕ). find test (range_with_len i m)) parts
    ∙ find-past test i (e - i) (n - e) (λ k above below. none k above (omega arith))
    ∙ ap (λ (m : ℕ). find test (range_with_len m (n - e))) there

-- none of a block goes that isn't marked
pub none-goes : (plan : List Planned) (phases : List Phase) (waits : List (Vec ℕ)) (met : List ℕ) (marks : List Bool) (running : List (Option ℕ)) (i k : ℕ) → AreMarked phases waits met marks → is_marked marks i ≡ false → k / block ≡ i / block → goes_at plan phases waits met running k ≡ false
none-goes plan phases waits met marks running i k marked not same = by (is_ready_at phases waits met k) refl
  where
    by : (b : Bool) → is_ready_at phases waits met k ≡ b → goes_at plan phases waits met running k ≡ false
    by true ready =
        absurd (both_ways (is_marked marks i) (ap (λ (o : Option Bool). option_map_or (λ is. is) o false) (subst (λ (n : ℕ). slice_get marks n ≡ Some true) same (marked k ready))) not)
    by false ready = ap (λ (b : Bool). goes (cond b (choice_in plan phases running (slice_get waits k) (slice_get plan k)) Stay)) ready
