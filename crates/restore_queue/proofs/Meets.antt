-- Places of which the first were met, where one entry more ends.
use Rattle.std.proofs.Common.{◌≡◌, ◌⊎◌, inl, inr, ℕ, ◌+◌, ◌/◌, ◌<◌, ◌≤◌, Bool, true, false, ◌&&◌, ◌||◌, ◌==◌, List, [], ◌∷◌, ◌++◌, length, get_or, Option, Some, refl, ap, sym, subst, ◌∙◌, arith}
use Rattle.std.proofs.Math.ListN.{set}
use Rattle.std.specs.Global.{Vec}
use Rattle.std.specs.List.{slice_get}
use Rattle.std.specs.Option.{option_map_or}
use Rattle.std.proofs.lemmas.Bool.{cases_eq}
use Rattle.std.proofs.lemmas.Option.{get_or_from_slice_get, slice_get_within}
use Rattle.restore_plan.specs.Entries.{is_among}
use Rattle.restore_core.specs.declared.phase.Phase.{Phase}
use Rattle.restore_core.specs.Phases.{has_ended, is_waiting}
use Rattle.restore_core.proofs.Booleans.{and_first, and_second, both_ways, same_number}
use Rattle.restore_queue.specs.Ready.{ended_in, waits_in, has_met, is_ready_at}
use Rattle.restore_queue.specs.Indexed.{AllMet, AllNearly, AllPartly, AreMarked, IsMet, IsNearly, block}
use Rattle.restore_queue.proofs.Lists.{get-set, get-others}
use Rattle.restore_queue.proofs.Ready.{of-places}

-- ---- going on over places

pub below-more : (phases : List Phase) (places : List ℕ) (m : ℕ) → ((k x : ℕ) → k < m → slice_get places k ≡ Some x → ended_in phases x ≡ true) → ended_in phases (get_or places m 0) ≡ true → (k x : ℕ) → k < m + 1 → slice_get places k ≡ Some x → ended_in phases x ≡ true
below-more phases places m below here k x less e = at (cases_eq k m)
  where
    at : (k ≡ m) ⊎ (k ≡ m → ⊥) → ended_in phases x ≡ true
    at (inl is) = subst (λ (y : ℕ). ended_in phases y ≡ true) (get_or_from_slice_get places m x 0 (subst (λ (n : ℕ). slice_get places n ≡ Some x) is e)) here
    at (inr not) = below k x (omega arith) e

pub met-here : (phases : List Phase) (places : List ℕ) (m : ℕ) → m ≤ length places → ((k x : ℕ) → k < m → slice_get places k ≡ Some x → ended_in phases x ≡ true) → ended_in phases (get_or places m 0) ≡ false → IsMet phases places m
met-here phases places m within below here =
    record { within = within; below = below; here = λ x e. subst (λ (y : ℕ). ended_in phases y ≡ false) (get_or_from_slice_get places m x 0 e) here }

pub met-whole : (phases : List Phase) (places : List ℕ) (m : ℕ) → m ≤ length places → ((k x : ℕ) → k < m → slice_get places k ≡ Some x → ended_in phases x ≡ true) → length places ≤ m → IsMet phases places m
met-whole phases places m within below past =
    record { within = within; below = below; here = λ x e. absurd (none x e (slice_get_within places m x e)) }
  where
    none : (x : ℕ) → slice_get places m ≡ Some x → m < length places → ⊥
    none x e less = omega arith

-- ---- marks

pub marked-again : (phases : List Phase) (waits : List (Vec ℕ)) (met : List ℕ) (marks : List Bool) (at : ℕ) (any : Bool) → at < length marks → AreMarked phases waits met marks → ((q : ℕ) → q / block ≡ at → is_ready_at phases waits met q ≡ true → any ≡ true) → AreMarked phases waits met (set marks at any)
marked-again phases waits met marks at any less marked is q ready = by (cases_eq (q / block) at)
  where
    by : (q / block ≡ at) ⊎ (q / block ≡ at → ⊥) → slice_get (set marks at any) (q / block) ≡ Some true
    by (inl same) = subst (λ (n : ℕ). slice_get (set marks at any) n ≡ Some true) (sym same) (get-set marks at any less ∙ ap Some (is q same ready))
    by (inr other) = get-others marks at (q / block) any other ∙ marked q ready

-- a place of which the entry goes on
pub marked-on : (phases : List Phase) (waits : List (Vec ℕ)) (met : List ℕ) (marks marks' : List Bool) (i m : ℕ) (v : Vec ℕ) → slice_get waits i ≡ Some v → i < length met → AreMarked phases waits met marks → ((k : ℕ) → slice_get marks k ≡ Some true → slice_get marks' k ≡ Some true) → ((m == length v.items) ≡ true → slice_get marks' (i / block) ≡ Some true) → AreMarked phases waits (set met i m) marks'
marked-on phases waits met marks marks' i m v there less marked kept here q ready = by (cases_eq q i)
  where
    met' : List ℕ
    met' = set met i m

    by : (q ≡ i) ⊎ (q ≡ i → ⊥) → slice_get marks' (q / block) ≡ Some true
    by (inl same) =
        let whole : has_met (slice_get waits i) (slice_get met' i) ≡ true = subst (λ (n : ℕ). has_met (slice_get waits n) (slice_get met' n) ≡ true) same (and_second (waits_in phases q) (has_met (slice_get waits q) (slice_get met' q)) ready) in
        let is : (m == length v.items) ≡ true = ap (λ (o : Option (Vec ℕ)). has_met o (Some m)) (sym there) ∙ ap (has_met (slice_get waits i)) (sym (get-set met i m less)) ∙ whole in
        subst (λ (n : ℕ). slice_get marks' (n / block) ≡ Some true) (sym same) (here is)
    by (inr other) =
        kept (q / block) (marked q (ap (λ (o : Option ℕ). waits_in phases q && has_met (slice_get waits q) o) (sym (get-others met i q m other)) ∙ ready))

-- ---- one entry ends

pub nearly-partly : (phases : List Phase) (waits : List (Vec ℕ)) (met : List ℕ) (j : ℕ) → AllNearly phases waits met j → AllPartly phases waits met
nearly-partly phases waits met j nearly i m v e g = let n = nearly i m v e g in record { within = n.within; below = n.below }

-- where one more is met
pub nearly-on : (phases : List Phase) (waits : List (Vec ℕ)) (met met' : List ℕ) (i j : ℕ) → AllNearly phases waits met j → ((v : Vec ℕ) (m : ℕ) → slice_get waits i ≡ Some v → slice_get met' i ≡ Some m → IsMet phases v.items m) → ((k : ℕ) → (k ≡ i → ⊥) → slice_get met' k ≡ slice_get met k) → AllNearly phases waits met' j
nearly-on phases waits met met' i j nearly here others k m v e g = by (cases_eq k i)
  where
    by : (k ≡ i) ⊎ (k ≡ i → ⊥) → IsNearly phases v.items m j
    by (inl same) =
        let n = here v m (subst (λ (q : ℕ). slice_get waits q ≡ Some v) same e) (subst (λ (q : ℕ). slice_get met' q ≡ Some m) same g) in
        record { within = n.within; below = n.below; here = λ x at not. n.here x at }
    by (inr other) = nearly k m v e (sym (others k other) ∙ g)

-- those of these places were met
abbrev pub Among : List Phase → List (Vec ℕ) → List ℕ → List ℕ → Type 0
Among phases waits met places = (k m : ℕ) (v : Vec ℕ) → is_among k places ≡ true → slice_get waits k ≡ Some v → slice_get met k ≡ Some m → IsMet phases v.items m

pub among-on : (phases : List Phase) (waits : List (Vec ℕ)) (met met' : List ℕ) (places places' : List ℕ) (i : ℕ) → Among phases waits met places → ((k : ℕ) → is_among k places' ≡ true → (k ≡ i) ⊎ (is_among k places ≡ true)) → ((v : Vec ℕ) (m : ℕ) → slice_get waits i ≡ Some v → slice_get met' i ≡ Some m → IsMet phases v.items m) → ((k : ℕ) → (k ≡ i → ⊥) → slice_get met' k ≡ slice_get met k) → Among phases waits met' places'
among-on phases waits met met' places places' i among split here others k m v is e g = by (cases_eq k i)
  where
    same : k ≡ i → IsMet phases v.items m
    same eq = here v m (subst (λ (q : ℕ). slice_get waits q ≡ Some v) eq e) (subst (λ (q : ℕ). slice_get met' q ≡ Some m) eq g)

    or : (k ≡ i → ⊥) → (k ≡ i) ⊎ (is_among k places ≡ true) → IsMet phases v.items m
    or other (inl eq) = same eq
    or other (inr before) = among k m v before e (sym (others k other) ∙ g)

    by : (k ≡ i) ⊎ (k ≡ i → ⊥) → IsMet phases v.items m
    by (inl eq) = same eq
    by (inr other) = or other (split k is)

pub among-push : (places : List ℕ) (i k : ℕ) → is_among k (places ++ i ∷ []) ≡ true → (k ≡ i) ⊎ (is_among k places ≡ true)
among-push [] i k h = at (i == k) refl h
  where
    at : (b : Bool) → (i == k) ≡ b → b || false ≡ true → (k ≡ i) ⊎ (false ≡ true)
    at true is g = inl (sym (same_number i k is))
    at false is g = absurd (both_ways false g refl)
among-push (p ∷ ps) i k h = at (p == k) h (among-push ps i k)
  where
    at : (b : Bool) → b || is_among k (ps ++ i ∷ []) ≡ true → (is_among k (ps ++ i ∷ []) ≡ true → (k ≡ i) ⊎ (is_among k ps ≡ true)) → (k ≡ i) ⊎ (b || is_among k ps ≡ true)
    at true g later = inr refl
    at false g later = later g

pub all-met : (phases : List Phase) (waits : List (Vec ℕ)) (met : List ℕ) (behind : List ℕ) (j : ℕ) → AllNearly phases waits met j → Among phases waits met behind → ((i : ℕ) (v : Vec ℕ) → slice_get waits i ≡ Some v → is_among j v.items ≡ true → is_among i behind ≡ true) → AllMet phases waits met
all-met phases waits met behind j nearly among has i m v e g = by (is_among i behind) refl
  where
    n : IsNearly phases v.items m j
    n = nearly i m v e g

    by : (b : Bool) → is_among i behind ≡ b → IsMet phases v.items m
    by true is = among i m v is e g
    by false is = record {
      within = n.within;
      below = n.below;
      here = λ x at. n.here x at (λ same. both_ways (is_among i behind) (has i v e (of-places v.items m j (at ∙ ap Some same))) is);
    }

-- where the j-th has ended
pub met-nearly : (phases : List Phase) (p : Phase) (waits : List (Vec ℕ)) (met : List ℕ) (j : ℕ) → j < length phases → has_ended p ≡ true → AllMet phases waits met → AllNearly (set phases j p) waits met j
met-nearly phases p waits met j less ended all i m v e g =
    let n = all i m v e g in
    record { within = n.within; below = λ k x early at. more x (cases_eq x j) (n.below k x early at); here = λ x at not. ap (λ (o : Option Phase). option_map_or has_ended o true) (get-others phases j x p not) ∙ n.here x at }
  where
    more : (x : ℕ) → (x ≡ j) ⊎ (x ≡ j → ⊥) → ended_in phases x ≡ true → ended_in (set phases j p) x ≡ true
    more x (inl same) h = subst (λ (n : ℕ). ended_in (set phases j p) n ≡ true) (sym same) (ap (λ (o : Option Phase). option_map_or has_ended o true) (get-set phases j p less) ∙ ended)
    more x (inr other) h = ap (λ (o : Option Phase). option_map_or has_ended o true) (get-others phases j x p other) ∙ h

-- where the j-th goes on, and hasn't ended and doesn't end
pub met-still : (phases : List Phase) (p : Phase) (waits : List (Vec ℕ)) (met : List ℕ) (j : ℕ) → j < length phases → has_ended p ≡ false → ended_in phases j ≡ false → AllMet phases waits met → AllMet (set phases j p) waits met
met-still phases p waits met j less going was all i m v e g =
    let n = all i m v e g in
    record { within = n.within; below = λ k x early at. same x ∙ n.below k x early at; here = λ x at. same x ∙ n.here x at }
  where
    by : (x : ℕ) → (x ≡ j) ⊎ (x ≡ j → ⊥) → ended_in (set phases j p) x ≡ ended_in phases x
    by x (inl eq) = subst (λ (n : ℕ). ended_in (set phases j p) n ≡ ended_in phases n) (sym eq) (ap (λ (o : Option Phase). option_map_or has_ended o true) (get-set phases j p less) ∙ going ∙ sym was)
    by x (inr other) = ap (λ (o : Option Phase). option_map_or has_ended o true) (get-others phases j x p other)

    same : (x : ℕ) → ended_in (set phases j p) x ≡ ended_in phases x
    same x = by x (cases_eq x j)

-- a phase in which an entry doesn't wait keeps the marks
pub marked-still : (phases : List Phase) (p : Phase) (waits : List (Vec ℕ)) (met : List ℕ) (marks : List Bool) (j : ℕ) → j < length phases → is_waiting p ≡ false → AreMarked phases waits met marks → AreMarked (set phases j p) waits met marks
marked-still phases p waits met marks j less begun marked q ready = marked q (by (cases_eq q j))
  where
    by : (q ≡ j) ⊎ (q ≡ j → ⊥) → is_ready_at phases waits met q ≡ true
    by (inl same) =
        absurd (both_ways (waits_in (set phases j p) q) (and_first (waits_in (set phases j p) q) (has_met (slice_get waits q) (slice_get met q)) ready) (subst (λ (n : ℕ). waits_in (set phases j p) n ≡ false) (sym same) (ap (λ (o : Option Phase). option_map_or is_waiting o false) (get-set phases j p less) ∙ begun)))
    by (inr other) = ap (λ (o : Option Phase). option_map_or is_waiting o false && has_met (slice_get waits q) (slice_get met q)) (sym (get-others phases j q p other)) ∙ ready
