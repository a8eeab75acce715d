-- What holds of each two entries of a list: the first has ended, or isn't before the second, or the second hasn't
-- begun; and where both run they lock nothing in common. One entry may change, and both still hold.
use Rattle.std.proofs.Common.{◌≡◌, ℕ, zero, suc, Bool, true, false, not, ◌&&◌, ◌||◌, ◌==◌, List, [], ◌∷◌, map, take, Option, Some, None, refl, ap, sym, subst, ◌∙◌, inl, inr, ◌<◌, arith}
use Rattle.std.specs.Prelude.{◌⊎◌}
use Rattle.std.specs.List.{list_any, list_all, slice_get}
use Rattle.restore_plan.specs.declared.status.Note.{Note}
use Rattle.restore_plan.specs.Entries.{is_among}
use Rattle.restore_plan.specs.declared.planned.Planned.{Planned}
use Rattle.restore_plan.specs.Order.{before, clash}
use Rattle.restore_core.specs.declared.phase.Phase.{Phase}
use Rattle.restore_core.specs.Phases.{is_waiting, is_running, has_ended}
use Rattle.restore_core.specs.Machine.{Going, all_before_ended, locks_are_free, changed_at}
use Rattle.restore_core.proofs.Booleans.{and_first, and_second, and_both, or_first_false, or_second_false, or_false, or_other, or_by_second, or_by_first, not_true, not_false, both_ways, same_number, number_itself}

-- an entry goes into a phase, with these notes
abbrev pub to : Phase → List Note → Going → Going
to phase notes x = record { plan = x.plan; phase = phase; notes = notes }

pub head_is : {A : Type 0} (x y : A) → Some x ≡ Some y → x ≡ y
head_is x y e = cc

pub no_head : {A : Type 0} {B : Type 0} (y : A) → None ≡ Some y → B
no_head y e = cc

pub changed-same : (f g : Going → Going) (xs : List Going) (i : ℕ) (x : Going) → slice_get xs i ≡ Some x → f x ≡ g x → changed_at f i xs ≡ changed_at g i xs
changed-same f g [] i x e same = refl
changed-same f g (y ∷ ys) zero x e same =
    let is : y ≡ x = head_is y x e in
    ap (λ (z : Going). z ∷ ys) (ap f is ∙ same ∙ ap g (sym is))
changed-same f g (y ∷ ys) (suc i) x e same = ap (λ (zs : List Going). y ∷ zs) (changed-same f g ys i x e same)

pub plans-same : (p : Phase) (ns : List Note) (xs : List Going) (i : ℕ) → map (λ x. x.plan) (changed_at (to p ns) i xs) ≡ map (λ x. x.plan) xs
plans-same p ns [] i = refl
plans-same p ns (y ∷ ys) zero = refl
plans-same p ns (y ∷ ys) (suc i) = ap (λ (zs : List Planned). y.plan ∷ zs) (plans-same p ns ys i)

-- ---- before

abbrev pub Orders : Going → Going → Type 0
Orders x y = is_waiting y.phase ≡ false → has_ended x.phase || not (before x.plan y.plan) ≡ true

abbrev pub OrdersLater : Going → List Going → Type 0
OrdersLater x [] = Unit {0}
OrdersLater x (y ∷ ys) = Orders x y × OrdersLater x ys

abbrev pub Orderly : List Going → Type 0
Orderly [] = Unit {0}
Orderly (x ∷ xs) = OrdersLater x xs × Orderly xs

later-at : (x : Going) (ys : List Going) (i : ℕ) (y : Going) → OrdersLater x ys → slice_get ys i ≡ Some y → Orders x y
later-at x [] i y h e = no_head y e
later-at x (z ∷ zs) zero y h e = subst (Orders x) (head_is z y e) h.0
later-at x (z ∷ zs) (suc i) y h e = later-at x zs i y h.1 e

pub earlier-ended : (xs : List Going) (i : ℕ) (x : Going) → Orderly xs → slice_get xs i ≡ Some x → is_waiting x.phase ≡ false → all_before_ended (take i xs) x.plan ≡ true
earlier-ended [] i x h e begun = no_head x e
earlier-ended (y ∷ ys) zero x h e begun = refl
earlier-ended (y ∷ ys) (suc i) x h e begun =
    and_both (has_ended y.phase || not (before y.plan x.plan)) (all_before_ended (take i ys) x.plan) (later-at y ys i x h.0 e begun) (earlier-ended ys i x h.1 e begun)

later-to : (p : Phase) (ns : List Note) (x : Going) (ys : List Going) (i : ℕ) (y : Going) → slice_get ys i ≡ Some y → has_ended x.phase || not (before x.plan y.plan) ≡ true → OrdersLater x ys → OrdersLater x (changed_at (to p ns) i ys)
later-to p ns x [] i y e holds h = no_head y e
later-to p ns x (z ∷ zs) zero y e holds h = (λ begun. subst (λ (q : Going). has_ended x.phase || not (before x.plan q.plan) ≡ true) (sym (head_is z y e)) holds, h.1)
later-to p ns x (z ∷ zs) (suc i) y e holds h = (h.0, later-to p ns x zs i y e holds h.1)

later-from : (p : Phase) (ns : List Note) (x : Going) (ys : List Going) → has_ended x.phase ≡ false → OrdersLater x ys → OrdersLater (to p ns x) ys
later-from p ns x [] going h = tt
later-from p ns x (y ∷ ys) going h =
    (λ begun. or_by_second (has_ended p) (not (before x.plan y.plan)) (or_other (has_ended x.phase) (not (before x.plan y.plan)) going (h.0 begun)), later-from p ns x ys going h.1)

pub orderly-to : (p : Phase) (ns : List Note) (xs : List Going) (i : ℕ) (x : Going) → slice_get xs i ≡ Some x → has_ended x.phase ≡ false → all_before_ended (take i xs) x.plan ≡ true → Orderly xs → Orderly (changed_at (to p ns) i xs)
orderly-to p ns [] i x e going ended h = no_head x e
orderly-to p ns (y ∷ ys) zero x e going ended h =
    (later-from p ns y ys (subst (λ (q : Going). has_ended q.phase ≡ false) (sym (head_is y x e)) going) h.0, h.1)
orderly-to p ns (y ∷ ys) (suc i) x e going ended h = (
  later-to p ns y ys i x e (and_first (has_ended y.phase || not (before y.plan x.plan)) (all_before_ended (take i ys) x.plan) ended) h.0,
  orderly-to p ns ys i x e going (and_second (has_ended y.phase || not (before y.plan x.plan)) (all_before_ended (take i ys) x.plan) ended) h.1,
)

-- ---- locks

abbrev pub NoCommon : Planned → Planned → Type 0
NoCommon p q = (d : ℕ) → is_among d p.locks ≡ true → is_among d q.locks ≡ true → ⊥

no_common : (ls ks : List ℕ) (d : ℕ) → list_any (λ id. is_among id ks) ls ≡ false → is_among d ls ≡ true → is_among d ks ≡ true → ⊥
no_common [] ks d h m n = both_ways false m refl
no_common (l ∷ ls) ks d h m n = at (l == d) refl m (λ g. no_common ls ks d (or_second_false (is_among l ks) (list_any (λ id. is_among id ks) ls) h) g n)
  where
    at : (b : Bool) → (l == d) ≡ b → b || is_among d ls ≡ true → (is_among d ls ≡ true → ⊥) → ⊥
    at true e g later = both_ways (is_among d ks) n (subst (λ (j : ℕ). is_among j ks ≡ false) (same_number l d e) (or_first_false (is_among l ks) (list_any (λ id. is_among id ks) ls) h))
    at false e g later = later g

pub none-clash : (ls ks : List ℕ) → ((d : ℕ) → is_among d ls ≡ true → is_among d ks ≡ true → ⊥) → list_any (λ id. is_among id ks) ls ≡ false
none-clash [] ks h = refl
none-clash (l ∷ ls) ks h =
    or_false (is_among l ks) (list_any (λ id. is_among id ks) ls) (at (is_among l ks) refl)
    (none-clash ls ks (λ d m n. h d (or_by_second (l == d) (is_among d ls) m) n))
  where
    at : (b : Bool) → is_among l ks ≡ b → is_among l ks ≡ false
    at true e = absurd (h l (or_by_first (l == l) (is_among l ls) (number_itself l)) e)
    at false e = e

abbrev pub LockPair : Going → Going → Type 0
LockPair x y = is_running x.phase ≡ true → is_running y.phase ≡ true → NoCommon x.plan y.plan

abbrev pub LocksLater : Going → List Going → Type 0
LocksLater x [] = Unit {0}
LocksLater x (y ∷ ys) = LockPair x y × LocksLater x ys

abbrev pub LocksApart : List Going → Type 0
LocksApart [] = Unit {0}
LocksApart (x ∷ xs) = LocksLater x xs × LocksApart xs

-- an entry's locks meet those of no running entry
abbrev pub AllFree : Planned → List Going → Type 0
AllFree p [] = Unit {0}
AllFree p (x ∷ xs) = (is_running x.phase ≡ true → NoCommon p x.plan) × AllFree p xs

pub all-free : (p : Planned) (xs : List Going) → list_any (λ x. is_running x.phase && clash p x.plan) xs ≡ false → AllFree p xs
all-free p [] h = tt
all-free p (x ∷ xs) h = (
  λ runs. λ d m n. no_common p.locks x.plan.locks d (at (is_running x.phase) runs (or_first_false (is_running x.phase && clash p x.plan) (list_any (λ y. is_running y.phase && clash p y.plan) xs) h)) m n,
  all-free p xs (or_second_false (is_running x.phase && clash p x.plan) (list_any (λ y. is_running y.phase && clash p y.plan) xs) h),
)
  where
    at : (b : Bool) → b ≡ true → b && clash p x.plan ≡ false → clash p x.plan ≡ false
    at true r g = g
    at false r g = absurd (both_ways false r refl)

-- it ran before, or its locks were free
abbrev pub Runs : Phase → Going → List Going → Type 0
Runs p x xs = is_running p ≡ true → (is_running x.phase ≡ true) ⊎ AllFree x.plan xs

free-later : (x y : Going) (ys : List Going) → (is_running x.phase ≡ true) ⊎ AllFree x.plan (y ∷ ys) → (is_running x.phase ≡ true) ⊎ AllFree x.plan ys
free-later x y ys (inl r) = inl r
free-later x y ys (inr free) = inr free.1

lock-to : (z y : Going) (ys : List Going) → (is_running y.phase ≡ true) ⊎ AllFree y.plan (z ∷ ys) → LockPair z y → is_running z.phase ≡ true → NoCommon z.plan y.plan
lock-to z y ys (inl r) h runs = h runs r
lock-to z y ys (inr free) h runs = λ d m n. free.0 runs d n m

locks-to : (p : Phase) (ns : List Note) (z : Going) (ys : List Going) (i : ℕ) (y : Going) (all : List Going) → slice_get ys i ≡ Some y → (is_running p ≡ true → (is_running y.phase ≡ true) ⊎ AllFree y.plan (z ∷ all)) → LocksLater z ys → LocksLater z (changed_at (to p ns) i ys)
locks-to p ns z [] i y all e runs h = no_head y e
locks-to p ns z (x ∷ xs) zero y all e runs h =
    (λ r q. subst (λ (v : Going). NoCommon z.plan v.plan) (sym (head_is x y e)) (lock-to z y all (runs q) (subst (LockPair z) (head_is x y e) h.0) r), h.1)
locks-to p ns z (x ∷ xs) (suc i) y all e runs h = (h.0, locks-to p ns z xs i y all e runs h.1)

locks-from : (p : Phase) (ns : List Note) (x : Going) (ys : List Going) → (is_running p ≡ true → (is_running x.phase ≡ true) ⊎ AllFree x.plan ys) → LocksLater x ys → LocksLater (to p ns x) ys
locks-from p ns x [] runs h = tt
locks-from p ns x (y ∷ ys) runs h = (λ q r. at (runs q) r, locks-from p ns x ys (λ q. free-later x y ys (runs q)) h.1)
  where
    at : (is_running x.phase ≡ true) ⊎ AllFree x.plan (y ∷ ys) → is_running y.phase ≡ true → NoCommon x.plan y.plan
    at (inl q) r = h.0 q r
    at (inr free) r = free.0 r

pub locks-apart-to : (p : Phase) (ns : List Note) (xs : List Going) (i : ℕ) (x : Going) → slice_get xs i ≡ Some x → Runs p x xs → LocksApart xs → LocksApart (changed_at (to p ns) i xs)
locks-apart-to p ns [] i x e runs h = no_head x e
locks-apart-to p ns (y ∷ ys) zero x e runs h =
    let is : x ≡ y = sym (head_is y x e) in
    (locks-from p ns y ys (λ q. free-later y y ys (subst (λ (v : Going). (is_running v.phase ≡ true) ⊎ AllFree v.plan (y ∷ ys)) is (runs q))) h.0, h.1)
locks-apart-to p ns (y ∷ ys) (suc i) x e runs h =
    (locks-to p ns y ys i x ys e runs h.0, locks-apart-to p ns ys i x e (λ q. free-later x y ys (runs q)) h.1)

-- ---- two places of the list

pub locks-at : (xs : List Going) (i j : ℕ) (x y : Going) → LocksApart xs → i < j → slice_get xs i ≡ Some x → slice_get xs j ≡ Some y → LockPair x y
locks-at [] i j x y h less e g = no_head x e
locks-at (z ∷ zs) zero zero x y h less e g = absurd (omega arith)
locks-at (z ∷ zs) zero (suc j) x y h less e g = at zs j h.0 g
  where
    at : (ys : List Going) (k : ℕ) → LocksLater z ys → slice_get ys k ≡ Some y → LockPair x y
    at [] k l f = no_head y f
    at (v ∷ vs) zero l f = subst (λ (q : Going). LockPair q y) (head_is z x e) (subst (LockPair z) (head_is v y f) l.0)
    at (v ∷ vs) (suc k) l f = at vs k l.1 f
locks-at (z ∷ zs) (suc i) zero x y h less e g = absurd (omega arith)
locks-at (z ∷ zs) (suc i) (suc j) x y h less e g = locks-at zs i j x y h.1 (omega arith) e g

pub orders-at : (xs : List Going) (i j : ℕ) (x y : Going) → Orderly xs → i < j → slice_get xs i ≡ Some x → slice_get xs j ≡ Some y → Orders x y
orders-at [] i j x y h less e g = no_head x e
orders-at (z ∷ zs) zero zero x y h less e g = absurd (omega arith)
orders-at (z ∷ zs) zero (suc j) x y h less e g = subst (λ (q : Going). Orders q y) (head_is z x e) (later-at z zs j y h.0 g)
orders-at (z ∷ zs) (suc i) zero x y h less e g = absurd (omega arith)
orders-at (z ∷ zs) (suc i) (suc j) x y h less e g = orders-at zs i j x y h.1 (omega arith) e g
