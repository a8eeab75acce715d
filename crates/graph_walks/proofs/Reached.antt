-- What is found in rounds is all that a place leads to.
use Rattle.std.proofs.Common.{◌≡◌, ℕ, zero, suc, ◌+◌, ◌<◌, ◌≤◌, Bool, true, false, cond, List, [], ◌∷◌, ◌++◌, length, map, inl, inr, refl, sym, ap, subst, ◌∙◌, arith}
use Rattle.std.specs.Prelude.{◌&&◌, nat_eq, not}
use Rattle.std.specs.List.{AllByRecursion, filter}
use Rattle.std.proofs.lemmas.Bool.{false≢true, cases_Bool, eq-eqb}
use Rattle.std.proofs.lemmas.List.{append-nil}
use Rattle.graph_walks.specs.Arcs.{Arc, needs, is_in}
use Rattle.graph_walks.specs.Leading.{IsClosed, Leads}
use Rattle.graph_walks.specs.Reaching.{needed_next, found_from, reaches}
use Rattle.graph_walks.proofs.Tests.{both, or_left, not_true, one_test, in_left, in_right, holds_in, each_joined, holds_of_arc, each_arc}

pub leads_self : (arcs : List Arc) (a : ℕ) → Leads arcs a a
leads_self arcs a = record { into = λ set closed h. h }

pub leads_step : (arcs : List Arc) (a b : ℕ) → needs arcs a b ≡ true → Leads arcs a b
leads_step arcs a b h = record { into = λ set closed k. closed a b h k }

pub leads_on : (arcs : List Arc) (a b c : ℕ) → Leads arcs a b → Leads arcs b c → Leads arcs a c
leads_on arcs a b c h k = record { into = λ set closed l. k.into set closed (h.into set closed l) }

-- ---- what is found is led to

abbrev fires : List ℕ → Arc → Bool
fires places arc = is_in arc.0 places && not (is_in arc.1 places)

ends_hold : (set : ℕ → Bool) (places : List ℕ) (arcs : List Arc) → AllByRecursion (λ arc. set arc.0 ≡ true → set arc.1 ≡ true) arcs → AllByRecursion (λ p. set p ≡ true) places → AllByRecursion (λ p. set p ≡ true) (map (λ (arc : Arc). arc.1) (filter (fires places) arcs))
ends_hold set places [] closed all = tt
ends_hold set places (arc ∷ arcs) closed all =
    let rest = ends_hold set places arcs closed.1 all in
    elim (cases_Bool (fires places arc)) [
      | inl is ↦
          rw is
          (closed.0 (holds_in (λ p. set p ≡ true) arc.0 places all (both (is_in arc.0 places) (not (is_in arc.1 places)) is).0), rest)
      | inr isnt ↦ rw isnt rest
    ]

found_hold : (rounds : ℕ) (arcs : List Arc) (places : List ℕ) (set : ℕ → Bool) → IsClosed arcs set → AllByRecursion (λ p. set p ≡ true) places → AllByRecursion (λ p. set p ≡ true) (found_from rounds arcs places)
unfolding found_from needed_next
found_hold zero arcs places set closed all = all
found_hold (suc rounds) arcs places set closed all =
    let next = ends_hold set places arcs (each_arc (λ a b. set a ≡ true → set b ≡ true) arcs closed) all in
    found_hold rounds arcs (places ++ needed_next arcs places) set closed (each_joined (λ p. set p ≡ true) places (needed_next arcs places) all next)

pub reaches_leads : (arcs : List Arc) (a b : ℕ) → reaches arcs a b ≡ true → Leads arcs a b
unfolding reaches
reaches_leads arcs a b h =
    record { into = λ set closed k. holds_in (λ p. set p ≡ true) b (found_from (length arcs) arcs (a ∷ [])) (found_hold (length arcs) arcs (a ∷ []) set closed (k, tt)) h }

-- ---- what is led to is found

found_keeps : (rounds : ℕ) (arcs : List Arc) (places : List ℕ) (x : ℕ) → is_in x places ≡ true → is_in x (found_from rounds arcs places) ≡ true
unfolding found_from
found_keeps zero arcs places x h = h
found_keeps (suc rounds) arcs places x h = found_keeps rounds arcs (places ++ needed_next arcs places) x (in_left x places (needed_next arcs places) h)

-- the places hold what each of them needs by these arcs
abbrev IsDone : List Arc → List ℕ → Type 0
IsDone arcs places = AllByRecursion (λ arc. is_in arc.0 places ≡ true → is_in arc.1 places ≡ true) arcs

-- how many arcs end outside
abbrev unseen : List Arc → List ℕ → ℕ
unseen [] places = 0
unseen (arc ∷ arcs) places = cond (is_in arc.1 places) 0 1 + unseen arcs places

unseen_small : (arcs : List Arc) (places : List ℕ) → unseen arcs places ≤ length arcs
unseen_small [] places = omega arith
unseen_small (arc ∷ arcs) places =
    let rest : unseen arcs places ≤ length arcs = unseen_small arcs places in
    elim (cases_Bool (is_in arc.1 places)) [ inl is ↦ rw is (omega arith) | inr isnt ↦ rw isnt (omega arith) ]

none_unseen : (arcs : List Arc) (places : List ℕ) → unseen arcs places ≤ 0 → IsDone arcs places
none_unseen [] places h = tt
none_unseen (arc ∷ arcs) places h =
    elim (cases_Bool (is_in arc.1 places)) [
      | inl is ↦ let none : 0 + unseen arcs places ≤ 0 = rw is at h in ((λ _. is), none_unseen arcs places (omega arith))
      | inr isnt ↦ let none : 1 + unseen arcs places ≤ 0 = rw isnt at h in absurd (omega arith)
    ]

fewer_unseen : (arcs : List Arc) (places more : List ℕ) → unseen arcs (places ++ more) ≤ unseen arcs places
fewer_unseen [] places more = omega arith
fewer_unseen (arc ∷ arcs) places more =
    let rest : unseen arcs (places ++ more) ≤ unseen arcs places = fewer_unseen arcs places more in
    elim (cases_Bool (is_in arc.1 places)) [
      | inl is ↦ let kept : is_in arc.1 (places ++ more) ≡ true = in_left arc.1 places more is in rw (is, kept) (omega arith)
      | inr isnt ↦ elim (cases_Bool (is_in arc.1 (places ++ more))) [ inl now ↦ rw (isnt, now) (omega arith) | inr still ↦ rw (isnt, still) (omega arith) ]
    ]

fewer : (arcs : List Arc) (places more : List ℕ) (x : ℕ) (xs : List ℕ) → map (λ (arc : Arc). arc.1) (filter (fires places) arcs) ≡ x ∷ xs → is_in x more ≡ true → unseen arcs (places ++ more) < unseen arcs places
fewer [] places more x xs first h = absurd cc
fewer (arc ∷ arcs) places more x xs first h =
    elim (cases_Bool (fires places arc)) [
      | inl is ↦
          let all : arc.1 ∷ map (λ (e : Arc). e.1) (filter (fires places) arcs) ≡ x ∷ xs = rw is at first in
          let same : x ≡ arc.1 = cc in
          let out : is_in arc.1 places ≡ false = not_true (is_in arc.1 places) (both (is_in arc.0 places) (not (is_in arc.1 places)) is).1 in
          let now : is_in arc.1 (places ++ more) ≡ true = in_right arc.1 places more (subst (λ (n : ℕ). is_in n more ≡ true) same h) in
          let rest : unseen arcs (places ++ more) ≤ unseen arcs places = fewer_unseen arcs places more in
          rw (out, now) (omega arith)
      | inr isnt ↦
          let all : map (λ (e : Arc). e.1) (filter (fires places) arcs) ≡ x ∷ xs = rw isnt at first in
          let rest : unseen arcs (places ++ more) < unseen arcs places = fewer arcs places more x xs all h in
          elim (cases_Bool (is_in arc.1 places)) [
            | inl in' ↦ let kept : is_in arc.1 (places ++ more) ≡ true = in_left arc.1 places more in' in rw (in', kept) (omega arith)
            | inr out ↦ elim (cases_Bool (is_in arc.1 (places ++ more))) [ inl now ↦ rw (out, now) (omega arith) | inr still ↦ rw (out, still) (omega arith) ]
          ]
    ]

none_fires : (arcs : List Arc) (places : List ℕ) → map (λ (arc : Arc). arc.1) (filter (fires places) arcs) ≡ [] → IsDone arcs places
none_fires [] places none = tt
none_fires (arc ∷ arcs) places none =
    elim (cases_Bool (fires places arc)) [
      | inl is ↦ let all : arc.1 ∷ map (λ (e : Arc). e.1) (filter (fires places) arcs) ≡ [] = rw is at none in absurd cc
      | inr isnt ↦
          let all : map (λ (e : Arc). e.1) (filter (fires places) arcs) ≡ [] = rw isnt at none in
          (here isnt, none_fires arcs places all)
    ]
  where
    here : fires places arc ≡ false → is_in arc.0 places ≡ true → is_in arc.1 places ≡ true
    here isnt h =
        elim (cases_Bool (is_in arc.1 places)) [
          | inl is ↦ is
          | inr out ↦ absurd (false≢true (sym isnt ∙ rw (h, out) refl))
        ]

still : (rounds : ℕ) (arcs : List Arc) (places : List ℕ) → needed_next arcs places ≡ [] → found_from rounds arcs places ≡ places
unfolding found_from
still zero arcs places none = refl
still (suc rounds) arcs places none =
    ap (λ (next : List ℕ). found_from rounds arcs (places ++ next)) none
    ∙ ap (found_from rounds arcs) (append-nil places)
    ∙ still rounds arcs places none

done_closed : (arcs : List Arc) (places : List ℕ) → IsDone arcs places → IsClosed arcs (λ b. is_in b places)
done_closed arcs places done = holds_of_arc (λ a b. is_in a places ≡ true → is_in b places ≡ true) arcs done

found_closed : (rounds : ℕ) (arcs : List Arc) (places : List ℕ) → unseen arcs places ≤ rounds → IsClosed arcs (λ b. is_in b (found_from rounds arcs places))
unfolding found_from needed_next
found_closed zero arcs places few = done_closed arcs places (none_unseen arcs places few)
found_closed (suc rounds) arcs places few =
    by (λ ps small. found_closed rounds arcs ps small) (needed_next arcs places) refl
  where
    by : ((ps : List ℕ) → unseen arcs ps ≤ rounds → IsClosed arcs (λ b. is_in b (found_from rounds arcs ps))) → (next : List ℕ) → needed_next arcs places ≡ next → IsClosed arcs (λ b. is_in b (found_from rounds arcs (places ++ needed_next arcs places)))
    by later [] none =
        let same : found_from rounds arcs (places ++ needed_next arcs places) ≡ places = still (suc rounds) arcs places none in
        subst (λ (l : List ℕ). IsClosed arcs (λ b. is_in b l)) (sym same) (done_closed arcs places (none_fires arcs places none))
    by later (x ∷ xs) some =
        let x_in : is_in x (needed_next arcs places) ≡ true = subst (λ (l : List ℕ). is_in x l ≡ true) (sym some) (or_left (nat_eq x x) (is_in x xs) (eq-eqb x x refl)) in
        let less : unseen arcs (places ++ needed_next arcs places) < unseen arcs places = fewer arcs places (needed_next arcs places) x xs some x_in in
        later (places ++ needed_next arcs places) (omega arith)

pub leads_reaches : (arcs : List Arc) (a b : ℕ) → Leads arcs a b → reaches arcs a b ≡ true
unfolding reaches
leads_reaches arcs a b leads =
    leads.into (λ x. is_in x (found_from (length arcs) arcs (a ∷ []))) (found_closed (length arcs) arcs (a ∷ []) (unseen_small arcs (a ∷ [])))
    (found_keeps (length arcs) arcs (a ∷ []) a (or_left (nat_eq a a) false (eq-eqb a a refl)))

-- ---- arcs that are the same ones

-- what leads on by one list of arcs leads on by another that has them all
pub leads_by : (arcs more : List Arc) → ((a b : ℕ) → needs arcs a b ≡ true → needs more a b ≡ true) → (a b : ℕ) → Leads arcs a b → Leads more a b
leads_by arcs more has a b leads = record { into = λ set closed h. leads.into set (λ x y n. closed x y (has x y n)) h }

pub same_reach : (arcs others : List Arc) → ((a b : ℕ) → needs arcs a b ≡ needs others a b) → (a b : ℕ) → reaches arcs a b ≡ reaches others a b
same_reach arcs others same a b =
    one_test (reaches arcs a b) (reaches others a b)
    (λ h. leads_reaches others a b (leads_by arcs others (λ x y n. sym (same x y) ∙ n) a b (reaches_leads arcs a b h)))
    (λ h. leads_reaches arcs a b (leads_by others arcs (λ x y n. same x y ∙ n) a b (reaches_leads others a b h)))
