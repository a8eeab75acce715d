-- Counts of arcs, and the free places among them.
use Rattle.std.proofs.Common.{◌≡◌, ◌≢◌, ℕ, ◌+◌, ◌*◌, ◌-◌, ◌<◌, ◌≤◌, Bool, true, false, List, [], ◌∷◌, ◌++◌, length, get_or, set, take, drop, inl, inr, refl, sym, ap, subst, ◌∙◌, arith}
use Rattle.std.specs.Prelude.{nat_eq}
use Rattle.std.specs.List.{All}
use Rattle.std.specs.List.Sorted.{IsPermutation}
use Rattle.std.proofs.lemmas.Bool.{cases_eq, eq-eqb, ne_eqb}
use Rattle.std.proofs.lemmas.List.{take_more, take-append-drop, length-set, length-take-le, get_or-take, get_or-set_same, get_or-set_other}
use Rattle.std.proofs.lemmas.List.Elements.{All-head, All-tail}
use Rattle.std.proofs.lemmas.List.Sorted.{sum_by_pushed, IsPermutation-refl}
use Rattle.graph_walks.specs.Arcs.{Arc}
use Rattle.graph_walks.specs.Counting.{one_if, ending, times, AreFree, AreReleased}

abbrev none : Arc
none = (0, 0)

pub one_same : (a b : ℕ) → a ≡ b → one_if (nat_eq a b) ≡ 1
one_same a b h = rw (eq-eqb a b h) refl

pub one_other : (a b : ℕ) → a ≢ b → one_if (nat_eq a b) ≡ 0
one_other a b h = rw (ne_eqb a b h) refl

-- ---- arcs that end at a place

ending-append : (xs ys : List Arc) (v : ℕ) → ending (xs ++ ys) v ≡ ending xs v + ending ys v
ending-append [] ys v = omega arith
ending-append (x ∷ xs) ys v =
    let rest : ending (xs ++ ys) v ≡ ending xs v + ending ys v = ending-append xs ys v in
    omega arith

pub ending_more : (arcs : List Arc) (k v : ℕ) → k < length arcs → ending (take (k + 1) arcs) v ≡ ending (take k arcs) v + one_if (nat_eq (get_or arcs k none).1 v)
ending_more arcs k v small =
    let last : List Arc = get_or arcs k none ∷ [] in
    let joined : ending (take k arcs ++ last) v ≡ ending (take k arcs) v + ending last v = ending-append (take k arcs) last v in
    let all : ending (take (k + 1) arcs) v ≡ ending (take k arcs ++ last) v = ap (λ (l : List Arc). ending l v) (take_more arcs k none small) in
    omega arith

pub ending_front : (arcs : List Arc) (k v : ℕ) → ending (take k arcs) v ≤ ending arcs v
ending_front arcs k v =
    let joined : ending (take k arcs ++ drop k arcs) v ≡ ending (take k arcs) v + ending (drop k arcs) v = ending-append (take k arcs) (drop k arcs) v in
    let all : ending (take k arcs ++ drop k arcs) v ≡ ending arcs v = ap (λ (l : List Arc). ending l v) (take-append-drop k arcs) in
    omega arith

one_small : (b : Bool) → one_if b ≤ 1
one_small true = omega arith
one_small false = omega arith

ending_small : (arcs : List Arc) (v : ℕ) → ending arcs v ≤ length arcs
ending_small [] v = omega arith
ending_small (arc ∷ arcs) v =
    let rest : ending arcs v ≤ length arcs = ending_small arcs v in
    let here : one_if (nat_eq arc.1 v) ≤ 1 = one_small (nat_eq arc.1 v) in
    omega arith

pub ending_below : (arcs : List Arc) (k v : ℕ) → k ≤ length arcs → ending (take k arcs) v ≤ k
ending_below arcs k v le =
    let small : ending (take k arcs) v ≤ length (take k arcs) = ending_small (take k arcs) v in
    let long : length (take k arcs) ≡ k = length-take-le k arcs le in
    omega arith

pub counted_more : (counts : List ℕ) (arcs : List Arc) (k n x : ℕ) → k < length arcs → length counts ≡ n → (get_or arcs k none).1 < n → ((v : ℕ) → v < n → get_or counts v 0 ≡ ending (take k arcs) v) → x ≡ get_or counts (get_or arcs k none).1 0 → (v : ℕ) → v < n → get_or (set counts (get_or arcs k none).1 (x + 1)) v 0 ≡ ending (take (k + 1) arcs) v
counted_more counts arcs k n x small long within each is v low =
    let e : ℕ = (get_or arcs k none).1 in
    let more : ending (take (k + 1) arcs) v ≡ ending (take k arcs) v + one_if (nat_eq e v) = ending_more arcs k v small in
    let before : get_or counts v 0 ≡ ending (take k arcs) v = each v low in
    elim (cases_eq e v) [
      | inl same ↦
          let here : get_or (set counts v (x + 1)) v 0 ≡ x + 1 = get_or-set_same counts v (x + 1) 0 (omega arith) in
          let one : one_if (nat_eq e v) ≡ 1 = one_same e v same in
          let at : x ≡ get_or counts v 0 = subst (λ (i : ℕ). x ≡ get_or counts i 0) same is in
          subst (λ (i : ℕ). get_or (set counts i (x + 1)) v 0 ≡ ending (take (k + 1) arcs) v) (sym same) (omega arith)
      | inr other ↦
          let here : get_or (set counts e (x + 1)) v 0 ≡ get_or counts v 0 = get_or-set_other counts e v (x + 1) 0 (λ same. other (sym same)) in
          let zero' : one_if (nat_eq e v) ≡ 0 = one_other e v other in
          omega arith
    ]

-- ---- free places

pub times_pushed : (v x : ℕ) (xs ys : List ℕ) → IsPermutation (x ∷ xs) ys → times v ys ≡ one_if (nat_eq v x) + times v xs
times_pushed v x xs ys perm = sum_by_pushed (λ other. one_if (nat_eq v other)) x xs ys perm

times_none : (p : ℕ) (xs : List ℕ) → All (λ y. y < p) xs → times p xs ≡ 0
times_none p [] all = refl
times_none p (x ∷ xs) all =
    let low : x < p = All-head (λ y. y < p) x xs all in
    let rest : times p xs ≡ 0 = times_none p xs (All-tail (λ y. y < p) x xs all) in
    let here : one_if (nat_eq p x) ≡ 0 = one_other p x (λ same. omega arith) in
    let all : times p (x ∷ xs) ≡ one_if (nat_eq p x) + times p xs = times_pushed p x xs (x ∷ xs) (IsPermutation-refl (x ∷ xs)) in
    omega arith

front_at : (counts : List ℕ) (p v : ℕ) → v < p → get_or (take p counts) v 0 ≡ get_or counts v 0
front_at counts p v low = get_or-take p counts v 0 low

-- one more count; the place is put among the free ones where it is 0
pub free_more : (counts free more : List ℕ) (p : ℕ) → p < length counts → AreFree (λ _. 0) (take p counts) free → All (λ y. y < p) free → ((v : ℕ) → times v more ≡ one_if (nat_eq (get_or counts p 0) 0) * one_if (nat_eq v p) + times v free) → AreFree (λ _. 0) (take (p + 1) counts) more
free_more counts free more p small fits low pushed = record {
  each = λ v within.
      let long : length (take (p + 1) counts) ≡ p + 1 = length-take-le (p + 1) counts (omega arith) in
      let short : length (take p counts) ≡ p = length-take-le p counts (omega arith) in
      let all : get_or (take (p + 1) counts) v 0 ≡ get_or counts v 0 = front_at counts (p + 1) v (omega arith) in
      elim (cases_eq v p) [
        | inl same ↦
            let one : one_if (nat_eq v p) ≡ 1 = one_same v p same in
            let no : times v free ≡ 0 = subst (λ (i : ℕ). times i free ≡ 0) (sym same) (times_none p free low) in
            let at : get_or counts v 0 ≡ get_or counts p 0 = ap (λ (i : ℕ). get_or counts i 0) same in
            let more_v : times v more ≡ one_if (nat_eq (get_or counts p 0) 0) * one_if (nat_eq v p) + times v free = pushed v in
            let unit : one_if (nat_eq (get_or counts p 0) 0) * one_if (nat_eq v p) ≡ one_if (nat_eq (get_or counts p 0) 0) = rw one (omega arith) in
            let seen : one_if (nat_eq (get_or (take (p + 1) counts) v 0) 0) ≡ one_if (nat_eq (get_or counts p 0) 0) = ap (λ (i : ℕ). one_if (nat_eq i 0)) (all ∙ at) in
            omega arith
        | inr other ↦
            let none' : one_if (nat_eq v p) ≡ 0 = one_other v p other in
            let before : times v free + 0 ≡ one_if (nat_eq (get_or (take p counts) v 0) 0) = fits.each v (omega arith) in
            let at : get_or (take p counts) v 0 ≡ get_or counts v 0 = front_at counts p v (omega arith) in
            let seen : one_if (nat_eq (get_or (take (p + 1) counts) v 0) 0) ≡ one_if (nat_eq (get_or (take p counts) v 0) 0) = ap (λ (i : ℕ). one_if (nat_eq i 0)) (all ∙ sym at) in
            let more_v : times v more ≡ one_if (nat_eq (get_or counts p 0) 0) * one_if (nat_eq v p) + times v free = pushed v in
            let nothing : one_if (nat_eq (get_or counts p 0) 0) * one_if (nat_eq v p) ≡ 0 = rw none' (omega arith) in
            omega arith
      ];
}

-- ---- arcs that are taken out

pub one_left : (arcs : List Arc) (before counts : List ℕ) (k : ℕ) → k < length arcs → AreReleased (take k arcs) before counts → (get_or arcs k none).1 < length before → ending arcs (get_or arcs k none).1 ≤ get_or before (get_or arcs k none).1 0 → 1 ≤ get_or counts (get_or arcs k none).1 0
one_left arcs before counts k small released within counted =
    let e : ℕ = (get_or arcs k none).1 in
    let so_far : get_or counts e 0 + ending (take k arcs) e ≡ get_or before e 0 = released.each e within in
    let more : ending (take (k + 1) arcs) e ≡ ending (take k arcs) e + one_if (nat_eq e e) = ending_more arcs k e small in
    let one : one_if (nat_eq e e) ≡ 1 = one_same e e refl in
    let front : ending (take (k + 1) arcs) e ≤ ending arcs e = ending_front arcs (k + 1) e in
    omega arith

pub released_more : (arcs : List Arc) (before counts : List ℕ) (k : ℕ) → k < length arcs → AreReleased (take k arcs) before counts → (get_or arcs k none).1 < length before → 1 ≤ get_or counts (get_or arcs k none).1 0 → AreReleased (take (k + 1) arcs) before (set counts (get_or arcs k none).1 (get_or counts (get_or arcs k none).1 0 - 1))
released_more arcs before counts k small released within left =
    let e : ℕ = (get_or arcs k none).1 in
    let x : ℕ = get_or counts e 0 - 1 in
    let long : length counts ≡ length before = released.count_is in
    record {
      count_is = length-set counts e x ∙ released.count_is;
      each = λ v low.
          let so_far : get_or counts v 0 + ending (take k arcs) v ≡ get_or before v 0 = released.each v low in
          let more : ending (take (k + 1) arcs) v ≡ ending (take k arcs) v + one_if (nat_eq e v) = ending_more arcs k v small in
          elim (cases_eq e v) [
            | inl same ↦
                let here : get_or (set counts e x) e 0 ≡ x = get_or-set_same counts e x 0 (omega arith) in
                let at : get_or (set counts e x) v 0 ≡ x = subst (λ (i : ℕ). get_or (set counts e x) i 0 ≡ x) same here in
                let one : one_if (nat_eq e v) ≡ 1 = one_same e v same in
                let was : get_or counts v 0 ≡ get_or counts e 0 = ap (λ (i : ℕ). get_or counts i 0) (sym same) in
                omega arith
            | inr other ↦
                let here : get_or (set counts e x) v 0 ≡ get_or counts v 0 = get_or-set_other counts e v x 0 (λ same. other (sym same)) in
                let no : one_if (nat_eq e v) ≡ 0 = one_other e v other in
                omega arith
          ];
    }

-- a count falls by one; the place is put among the free ones where nothing is left
pub free_less : (gone : ℕ → ℕ) (counts free more : List ℕ) (e : ℕ) → e < length counts → 1 ≤ get_or counts e 0 → AreFree gone counts free → ((v : ℕ) → times v more ≡ one_if (nat_eq (get_or counts e 0 - 1) 0) * one_if (nat_eq v e) + times v free) → AreFree gone (set counts e (get_or counts e 0 - 1)) more
free_less gone counts free more e within left fits pushed =
    let x : ℕ = get_or counts e 0 - 1 in
    record {
      each = λ v small.
          let long : length (set counts e x) ≡ length counts = length-set counts e x in
          let before : times v free + gone v ≡ one_if (nat_eq (get_or counts v 0) 0) = fits.each v (omega arith) in
          let now : times v more ≡ one_if (nat_eq x 0) * one_if (nat_eq v e) + times v free = pushed v in
          elim (cases_eq v e) [
            | inl same ↦
                let here : get_or (set counts e x) e 0 ≡ x = get_or-set_same counts e x 0 within in
                let at : one_if (nat_eq (get_or (set counts e x) v 0) 0) ≡ one_if (nat_eq x 0) = ap (λ (i : ℕ). one_if (nat_eq i 0)) (subst (λ (i : ℕ). get_or (set counts e x) i 0 ≡ x) (sym same) here) in
                let one : one_if (nat_eq v e) ≡ 1 = one_same v e same in
                let was : one_if (nat_eq (get_or counts v 0) 0) ≡ 0 = one_other (get_or counts v 0) 0 (λ zero'. let le : 1 ≤ get_or counts v 0 = subst (λ (i : ℕ). 1 ≤ get_or counts i 0) (sym same) left in omega arith) in
                let unit : one_if (nat_eq x 0) * one_if (nat_eq v e) ≡ one_if (nat_eq x 0) = rw one (omega arith) in
                omega arith
            | inr other ↦
                let here : one_if (nat_eq (get_or (set counts e x) v 0) 0) ≡ one_if (nat_eq (get_or counts v 0) 0) = ap (λ (i : ℕ). one_if (nat_eq i 0)) (get_or-set_other counts e v x 0 other) in
                let no : one_if (nat_eq v e) ≡ 0 = one_other v e other in
                let nothing : one_if (nat_eq x 0) * one_if (nat_eq v e) ≡ 0 = rw no (omega arith) in
                omega arith
          ];
    }

pub less_one : (x e : ℕ) (free more : List ℕ) → x ≡ 0 → IsPermutation (e ∷ free) more → (v : ℕ) → times v more ≡ one_if (nat_eq x 0) * one_if (nat_eq v e) + times v free
less_one x e free more is perm v =
    let all : times v more ≡ one_if (nat_eq v e) + times v free = times_pushed v e free more perm in
    let one : one_if (nat_eq x 0) ≡ 1 = one_same x 0 is in
    rw one (omega arith)

pub less_none : (x e : ℕ) (free : List ℕ) → x ≢ 0 → (v : ℕ) → times v free ≡ one_if (nat_eq x 0) * one_if (nat_eq v e) + times v free
less_none x e free isnt v =
    let no : one_if (nat_eq x 0) ≡ 0 = one_other x 0 isnt in
    rw no (omega arith)
