-- Places that are listed behind others.
use Rattle.std.proofs.Common.{◌≡◌, ◌⊎◌, inl, inr, ℕ, ◌+◌, ◌<◌, true, false, ◌==◌, List, [], ◌∷◌, ◌++◌, length, get_or, Option, Some, ap, sym, subst, ◌∙◌, arith}
use Rattle.std.specs.Global.{Vec}
use Rattle.std.specs.List.{slice_get}
use Rattle.std.specs.Option.{option_map_or}
use Rattle.std.proofs.lemmas.Bool.{cases_eq}
use Rattle.std.proofs.lemmas.List.Folds.{list_any-append}
use Rattle.std.proofs.lemmas.Option.{get_or_from_slice_get}
use Rattle.restore_plan.specs.Entries.{is_among}
use Rattle.restore_core.proofs.Booleans.{number_itself, or_by_first, or_by_second}
use Rattle.restore_queue.specs.Queues.{is_behind}
use Rattle.restore_queue.proofs.Lists.{get-there}
use Rattle.restore_queue.proofs.Meets.{among-push}

pub among_kept : (places : List ℕ) (i k : ℕ) → is_among k places ≡ true → is_among k (places ++ i ∷ []) ≡ true
among_kept places i k h = list_any-append (λ (d : ℕ). d == k) places (i ∷ []) ∙ or_by_first (is_among k places) (is_among k (i ∷ [])) h

pub among_added : (places : List ℕ) (i : ℕ) → is_among i (places ++ i ∷ []) ≡ true
among_added places i =
    list_any-append (λ (d : ℕ). d == i) places (i ∷ []) ∙ or_by_second (is_among i places) (is_among i (i ∷ [])) (or_by_first (i == i) false (number_itself i))

pub added-on : (old new : List (Vec ℕ)) (xs : List ℕ) (x i : ℕ) → ((q : ℕ) → is_among q xs ≡ true → is_behind old q i ≡ true) → ((n k : ℕ) → is_behind old n k ≡ true → is_behind new n k ≡ true) → is_behind new x i ≡ true → (q : ℕ) → is_among q (xs ++ x ∷ []) ≡ true → is_behind new q i ≡ true
added-on old new xs x i before kept here q h = by (among-push xs x q h)
  where
    by : (q ≡ x) ⊎ (is_among q xs ≡ true) → is_behind new q i ≡ true
    by (inl same) = subst (λ (n : ℕ). is_behind new n i ≡ true) (sym same) here
    by (inr earlier) = kept q i (before q earlier)

-- what was listed of the entries before a place
abbrev pub AreListed : List (Vec ℕ) → List (Vec ℕ) → ℕ → Type 0
AreListed waits behind i = (n j : ℕ) (v : Vec ℕ) → n < i → slice_get waits n ≡ Some v → is_among j v.items ≡ true → is_behind behind j n ≡ true

pub listed-on : (waits old new : List (Vec ℕ)) (i : ℕ) (u : Vec ℕ) → u ≡ get_or waits i u → AreListed waits old i → ((n k : ℕ) → is_behind old n k ≡ true → is_behind new n k ≡ true) → ((j : ℕ) → is_among j u.items ≡ true → is_behind new j i ≡ true) → AreListed waits new (i + 1)
listed-on waits old new i u is before kept here n j v less e h = by (cases_eq n i)
  where
    by : (n ≡ i) ⊎ (n ≡ i → ⊥) → is_behind new j n ≡ true
    by (inl same) =
        let one : u ≡ v = is ∙ get_or_from_slice_get waits i v u (subst (λ (k : ℕ). slice_get waits k ≡ Some v) same e) in
        subst (λ (k : ℕ). is_behind new j k ≡ true) (sym same) (here j (subst (λ (w : Vec ℕ). is_among j w.items ≡ true) (sym one) h))
    by (inr other) = kept j n (before n j v (omega arith) e h)

-- what is listed behind a place that there is
pub behind-at : (behind : List (Vec ℕ)) (j i : ℕ) (u : Vec ℕ) → j < length behind → u ≡ get_or behind j u → is_behind behind j i ≡ true → is_among i u.items ≡ true
behind-at behind j i u there is h =
    let x = get-there behind j there in
    let one : u ≡ x.0 = is ∙ get_or_from_slice_get behind j x.0 u x.1 in
    subst (λ (v : Vec ℕ). is_among i v.items ≡ true) (sym one) (ap (λ (o : Option (Vec ℕ)). option_map_or (λ places. is_among i places.items) o true) (sym x.1) ∙ h)
