-- The places of sets, as lists, are those that entries wait for.
use Rattle.std.proofs.Common.{◌≡◌, ℕ, zero, suc, ◌+◌, Bool, ◌==◌, ◌||◌, List, [], ◌∷◌, map, Some, refl, ap, sym, ◌∙◌, arith}
use Rattle.std.specs.Global.{Vec}
use Rattle.std.specs.BTreeSet.{BTreeSet}
use Rattle.std.specs.BTreeMap.{is_at}
use Rattle.std.specs.Cmp.{unsigned_tied}
use Rattle.std.specs.Ordering.{is_eq, nat_cmp}
use Rattle.std.specs.List.{list_any, slice_get}
use Rattle.std.proofs.lemmas.Bool.{eq-eqb}
use Rattle.restore_plan.specs.declared.planned.Planned.{Planned}
use Rattle.restore_plan.specs.Entries.{is_among}
use Rattle.restore_plan.specs.Order.{before_at}
use Rattle.restore_core.proofs.Booleans.{same_number}
use Rattle.restore_queue.specs.Ready.{AllWaited, AreWaited}
use Rattle.restore_queue.proofs.Ready.{alike}
use Rattle.plan_waits.specs.Buckets.{AreWaits}

-- whether one number is another, either way round
turned : (k d : ℕ) → (k == d) ≡ (d == k)
turned k d =
    alike (k == d) (d == k) (λ h. eq-eqb d k (sym (same_number k d h))) (λ h. eq-eqb k d (sym (same_number d k h)))

pub same-test : (k d : ℕ) → is_eq (nat_cmp k d) ≡ (d == k)
same-test k d = unsigned_tied k d ∙ turned k d

pub among-is : (xs : List ℕ) (k : ℕ) → is_among k xs ≡ list_any (is_at (nat_cmp k)) xs
among-is [] k = refl
among-is (d ∷ ds) k =
    ap (λ (b : Bool). b || is_among k ds) (sym (same-test k d)) ∙ ap (λ (b : Bool). is_eq (nat_cmp k d) || b) (among-is ds k)

waited-from : (ps : List Planned) (sets : List (BTreeSet ℕ)) (lists : List (Vec ℕ)) (j i : ℕ) (v : Vec ℕ) → AreWaits ps j sets → map (λ v. v.items) lists ≡ map (λ s. s.keys) sets → slice_get lists i ≡ Some v → AreWaited ps (j + i) v.items
waited-from ps [] [] j i v waits same e k = cc
waited-from ps [] (l ∷ ls) j i v waits same e k = cc
waited-from ps (s ∷ ss) [] j i v waits same e k = cc
waited-from ps (s ∷ ss) (l ∷ ls) j zero v waits same e k =
    let here : l ≡ v = cc in
    let items : l.items ≡ s.keys = cc in
    let place : j ≡ j + 0 = omega arith in
    ap (λ (w : Vec ℕ). is_among k w.items) (sym here)
    ∙ ap (is_among k) items
    ∙ among-is s.keys k
    ∙ waits.0 k
    ∙ ap (λ (n : ℕ). before_at ps k n) place
waited-from ps (s ∷ ss) (l ∷ ls) j (suc i) v waits same e k =
    let rest : map (λ v. v.items) ls ≡ map (λ s. s.keys) ss = cc in
    let place : j + 1 + i ≡ j + suc i = omega arith in
    waited-from ps ss ls (j + 1) i v waits.1 rest e k ∙ ap (λ (n : ℕ). before_at ps k n) place

pub all-waited : (ps : List Planned) (sets : List (BTreeSet ℕ)) (lists : List (Vec ℕ)) → AreWaits ps 0 sets → map (λ v. v.items) lists ≡ map (λ s. s.keys) sets → AllWaited ps lists
all-waited ps sets lists waits same i v e k =
    let place : 0 + i ≡ i = omega arith in
    waited-from ps sets lists 0 i v waits same e k ∙ ap (λ (n : ℕ). before_at ps k n) place
