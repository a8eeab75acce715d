-- A queue in which no entry has begun.
use Rattle.std.proofs.Common.{◌≡◌, ℕ, zero, suc, ◌*◌, ◌/◌, ◌<◌, ◌≤◌, true, false, List, length, replicate, nat_lt, Option, Some, None, refl, ap, sym, subst, ◌∙◌, arith}
use Rattle.std.specs.Global.{Vec}
use Rattle.std.specs.List.{slice_get}
use Rattle.std.specs.Option.{option_map_or}
use Rattle.std.proofs.lemmas.Bool.{ltb-true}
use Rattle.std.proofs.lemmas.List.{length-replicate}
use Rattle.std.proofs.lemmas.Option.{slice_get_within}
use Rattle.restore_plan.specs.declared.planned.Planned.{Planned}
use Rattle.restore_plan.specs.Order.{before, before_at, both}
use Rattle.restore_core.specs.declared.phase.Phase.{Phase}
use Rattle.restore_core.specs.declared.phase.Phase.TheVariants.{Waiting, Running}
use Rattle.restore_core.specs.Phases.{has_ended, is_waiting}
use Rattle.restore_core.proofs.Booleans.{and_first, both_ways}
use Rattle.restore_queue.specs.Indexed.{AllMet, AreMarked, AreRunning, Kept, block}
use Rattle.restore_queue.specs.Ready.{AllWaited, has_met, waits_in}
use Rattle.restore_queue.proofs.Ready.{of-places}

pub same-in : {A : Type 0} (n : ℕ) (y : A) (i : ℕ) (x : A) → slice_get (replicate n y) i ≡ Some x → y ≡ x
same-in zero y i x e = cc
same-in (suc n) y zero x e = cc
same-in (suc n) y (suc i) x e = same-in n y i x e

pub in-all : {A : Type 0} (n : ℕ) (y : A) (i : ℕ) → i < n → slice_get (replicate n y) i ≡ Some y
in-all zero y i less = absurd (omega arith)
in-all (suc n) y zero less = refl
in-all (suc n) y (suc i) less = in-all n y i (omega arith)

pub none-met : (plan : List Planned) (waits : List (Vec ℕ)) (n : ℕ) → AllWaited plan waits → length waits ≡ length plan → AllMet (replicate (length plan) Waiting) waits (replicate n 0)
none-met plan waits n waited many i m v e g = record {
  within = subst (λ (k : ℕ). k ≤ length v.items) (same-in n 0 i m g) (omega arith);
  below = λ k x less at. absurd (none k (subst (λ (j : ℕ). k < j) (sym (same-in n 0 i m g)) less));
  here = λ x at. ap (λ (o : Option Phase). option_map_or has_ended o true) (in-all (length plan) Waiting x (early x (subst (λ (j : ℕ). slice_get v.items j ≡ Some x) (sym (same-in n 0 i m g)) at)));
}
  where
    none : (k : ℕ) → k < 0 → ⊥
    none k less = omega arith

    early : (x : ℕ) → slice_get v.items 0 ≡ Some x → x < length plan
    early x at =
        let is : before_at plan x i ≡ true = sym (waited i v e x) ∙ of-places v.items 0 x at in
        let less : x < i = ltb-true x i (and_first (nat_lt x i) (both before (slice_get plan x) (slice_get plan i)) is) in
        let there : i < length waits = slice_get_within waits i v e in
        omega arith

pub all-marked : (waits : List (Vec ℕ)) (met : List ℕ) (many n : ℕ) → many ≤ n * block → AreMarked (replicate many Waiting) waits met (replicate n true)
all-marked waits met many n enough q ready = in-all n true (q / block) (there (slice_get (replicate many Waiting) q) refl (and_first (waits_in (replicate many Waiting) q) (has_met (slice_get waits q) (slice_get met q)) ready))
  where
    there : (o : Option Phase) → slice_get (replicate many Waiting) q ≡ o → option_map_or is_waiting o false ≡ true → q / block < n
    there None e h = absurd (both_ways false h refl)
    there (Some p) e h =
        let less : q < length (replicate many Waiting) = slice_get_within (replicate many Waiting) q p e in
        let same : length (replicate many Waiting) ≡ many = length-replicate many Waiting in
        omega arith

pub none-runs : (many : ℕ) → AreRunning (replicate many Waiting) (replicate 64 None)
none-runs many = record {
  many = let none : Option ℕ = None in length-replicate 64 none;
  runs = λ w i at. absurd (not i (same-in 64 None w (Some i) at));
  is_run = λ w i run at. absurd (not-run w run (same-in many Waiting i (Running w run) at));
}
  where
    not : (i : ℕ) → ◌≡◌ {A = Option ℕ} None (Some i) → ⊥
    not i e = cc

    not-run : (w run : ℕ) → Waiting ≡ Running w run → ⊥
    not-run w run e = cc

pub begun : (plan : List Planned) (waits : List (Vec ℕ)) (blocks : ℕ) → AllWaited plan waits → length waits ≡ length plan → length plan ≤ blocks * block → Kept plan (replicate (length plan) Waiting) waits (replicate (length plan) 0) (replicate blocks true) (replicate 64 None)
begun plan waits blocks waited many enough = record {
  many_waits = many;
  many_met = length-replicate (length plan) 0;
  waited = waited;
  met_all = none-met plan waits (length plan) waited many;
  marked = all-marked waits (replicate (length plan) 0) (length plan) blocks enough;
  running_all = none-runs (length plan);
}
