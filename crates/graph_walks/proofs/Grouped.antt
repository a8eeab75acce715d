-- A path of groups as a search goes on: a group behind it, groups that are joined, a group that is closed.
use Rattle.std.proofs.Common.{◌≡◌, ℕ, Bool, true, false, List, [], ◌∷◌, ◌++◌, map, inl, inr, refl, sym, subst, ◌∙◌}
use Rattle.std.specs.Prelude.{◌&&◌, ◌||◌, ◌⊎◌, nat_eq}
use Rattle.std.specs.List.{AllByRecursion}
use Rattle.std.proofs.lemmas.Bool.{false≢true, cases_Bool, eqb-true, eq-eqb}
use Rattle.graph_walks.specs.Arcs.{Arc, needs, arcs_from, is_in}
use Rattle.graph_walks.specs.Leading.{Leads}
use Rattle.graph_walks.specs.Searching.{Group, path_of, IsGroup, AreGroups}
use Rattle.graph_walks.proofs.Reached.{leads_self, leads_step, leads_on}
use Rattle.graph_walks.proofs.Tests.{either, both, and_true, or_left, or_right, in_left, in_right, in_either, holds_in}

-- ---- what is seen

abbrev Under : (ℕ → Bool) → (ℕ → Bool) → Type 0
Under seen more = (x : ℕ) → seen x ≡ true → more x ≡ true

under_or : (seen more : ℕ → Bool) (nodes : List ℕ) → Under seen more → Under (λ x. seen x || is_in x nodes) (λ x. more x || is_in x nodes)
under_or seen more nodes under x h =
    elim (either (seen x) (is_in x nodes) h) [
      | inl is ↦ or_left (more x) (is_in x nodes) (under x is)
      | inr in' ↦ or_right (more x) (is_in x nodes) in'
    ]

pub groups_weaker : (arcs : List Arc) (seen more : ℕ → Bool) (groups : List Group) → Under seen more → AreGroups arcs seen groups → AreGroups arcs more groups
groups_weaker arcs seen more [] under sound = tt
groups_weaker arcs seen more (g ∷ gs) under sound =
    let top = sound.0 in (
      record {
        member = top.member;
        is_member = top.is_member;
        among = top.among;
        onward = top.onward;
        from_below = top.from_below;
        covered = λ x y in' need. elim (top.covered x y in' need) [ inl is ↦ inl (under y is) | inr other ↦ inr other ];
      },
      groups_weaker arcs (λ x. seen x || is_in x g.nodes) (λ x. more x || is_in x g.nodes) gs (under_or seen more g.nodes under) sound.1,
    )

-- ---- the last place to be looked at is taken

abbrev pub group : List ℕ → List ℕ → Group
group nodes todo = record { nodes = nodes; todo = todo }

pub groups_taken : (arcs : List Arc) (seen : ℕ → Bool) (nodes todo : List ℕ) (y : ℕ) (gs : List Group) → AreGroups arcs seen (group nodes (todo ++ y ∷ []) ∷ gs) → AreGroups arcs (λ z. seen z || nat_eq z y) (group nodes todo ∷ gs)
groups_taken arcs seen nodes todo y gs sound =
    let top = sound.0 in
    let under : Under seen (λ z. seen z || nat_eq z y) = λ x is. or_left (seen x) (nat_eq x y) is in (
      record {
        member = top.member;
        is_member = top.is_member;
        among = top.among;
        onward = λ x z in' at. top.onward x z in' (in_left z todo (y ∷ []) at);
        from_below = top.from_below;
        covered = λ x z in' need. elim (top.covered x z in' need) [
          | inl is ↦ inl (under z is)
          | inr other ↦ elim other [
            | inl node ↦ inr (inl node)
            | inr at ↦ elim (in_either z todo (y ∷ []) at) [
              | inl left ↦ inr (inr left)
              | inr last ↦ inl (or_right (seen z) (nat_eq z y) (one_of z last))
            ]
          ]
        ];
      },
      groups_weaker arcs (λ x. seen x || is_in x nodes) (λ x. (seen x || nat_eq x y) || is_in x nodes) gs (under_or seen (λ z. seen z || nat_eq z y) nodes under) sound.1,
    )
  where
    one_of : (z : ℕ) → is_in z (y ∷ []) ≡ true → nat_eq z y ≡ true
    one_of z h = elim (either (nat_eq z y) false h) [ inl is ↦ is | inr no' ↦ absurd (false≢true no') ]

pub leads_to_taken : (arcs : List Arc) (seen : ℕ → Bool) (nodes todo : List ℕ) (y : ℕ) (gs : List Group) → AreGroups arcs seen (group nodes (todo ++ y ∷ []) ∷ gs) → (x : ℕ) → is_in x (path_of gs ++ nodes) ≡ true → Leads arcs x y
leads_to_taken arcs seen nodes todo y gs sound x h =
    let top = sound.0 in
    let last : is_in y (todo ++ y ∷ []) ≡ true = in_right y todo (y ∷ []) (or_left (nat_eq y y) false (eq-eqb y y refl)) in
    elim (in_either x (path_of gs) nodes h) [
      | inl below ↦ leads_on arcs x top.member y (top.from_below x top.member below top.is_member) (top.onward top.member y top.is_member last)
      | inr node ↦ top.onward x y node last
    ]

-- ---- a new place goes behind the path

is_one : (z y : ℕ) → is_in z (y ∷ []) ≡ true → z ≡ y
is_one z y h = elim (either (nat_eq z y) false h) [ inl is ↦ eqb-true z y is | inr no' ↦ absurd (false≢true no') ]

pub needed_end : (y z : ℕ) (arcs : List Arc) → needs arcs y z ≡ true → is_in z (map (λ (arc : Arc). arc.1) (arcs_from y arcs)) ≡ true
needed_end y z [] h = absurd (false≢true h)
needed_end y z (arc ∷ arcs) h =
    elim (cases_Bool (nat_eq arc.0 y)) [
      | inl is ↦ elim (either (nat_eq arc.0 y && nat_eq arc.1 z) (needs arcs y z) h) [
        | inl here ↦
            let same : z ≡ arc.1 = sym (eqb-true arc.1 z (both (nat_eq arc.0 y) (nat_eq arc.1 z) here).1) in
            rw is (or_left (nat_eq z arc.1) (is_in z (map (λ (a : Arc). a.1) (arcs_from y arcs))) (eq-eqb z arc.1 same))
        | inr more ↦ rw is (or_right (nat_eq z arc.1) (is_in z (map (λ (a : Arc). a.1) (arcs_from y arcs))) (needed_end y z arcs more))
      ]
      | inr isnt ↦
          let more : needs arcs y z ≡ true = elim (either (nat_eq arc.0 y && nat_eq arc.1 z) (needs arcs y z) h) [
            | inl here ↦ absurd (false≢true (sym isnt ∙ (both (nat_eq arc.0 y) (nat_eq arc.1 z) here).0))
            | inr more ↦ more
          ] in
          rw isnt (needed_end y z arcs more)
    ]

-- each end of an arc from a place is needed by it
ends_needed : (y : ℕ) (arcs all : List Arc) → ((a b : ℕ) → needs arcs a b ≡ true → needs all a b ≡ true) → AllByRecursion (λ z. needs all y z ≡ true) (map (λ (arc : Arc). arc.1) (arcs_from y arcs))
ends_needed y [] all has = tt
ends_needed y (arc ∷ arcs) all has =
    let rest = ends_needed y arcs all (λ a b h. has a b (or_right (nat_eq arc.0 a && nat_eq arc.1 b) (needs arcs a b) h)) in
    elim (cases_Bool (nat_eq arc.0 y)) [
      | inl is ↦
          let own : needs (arc ∷ arcs) y arc.1 ≡ true = or_left (nat_eq arc.0 y && nat_eq arc.1 arc.1) (needs arcs y arc.1) (and_true (nat_eq arc.0 y) (nat_eq arc.1 arc.1) is (eq-eqb arc.1 arc.1 refl)) in
          let here : needs all y arc.1 ≡ true = has y arc.1 own in
          rw is (here, rest)
      | inr isnt ↦ rw isnt rest
    ]

pub groups_opened : (arcs : List Arc) (seen more : ℕ → Bool) (y : ℕ) (gs : List Group) → AreGroups arcs seen gs → Under seen (λ z. more z || is_in z (y ∷ [])) → ((x : ℕ) → is_in x (path_of gs) ≡ true → Leads arcs x y) → AreGroups arcs more (group (y ∷ []) (map (λ (arc : Arc). arc.1) (arcs_from y arcs)) ∷ gs)
groups_opened arcs seen more y gs sound under leads = (
  record {
    member = y;
    is_member = or_left (nat_eq y y) false (eq-eqb y y refl);
    among = λ a b in_a in_b. subst (λ (n : ℕ). Leads arcs n b) (sym (is_one a y in_a)) (subst (λ (n : ℕ). Leads arcs y n) (sym (is_one b y in_b)) (leads_self arcs y));
    onward = λ a b in_a in_b. subst (λ (n : ℕ). Leads arcs n b) (sym (is_one a y in_a)) (leads_step arcs y b (holds_in (λ z. needs arcs y z ≡ true) b (map (λ (arc : Arc). arc.1) (arcs_from y arcs)) (ends_needed y arcs arcs (λ a b h. h)) in_b));
    from_below = λ a b in_a in_b. subst (λ (n : ℕ). Leads arcs a n) (sym (is_one b y in_b)) (leads a in_a);
    covered = λ a b in_a need. inr (inr (needed_end y b arcs (subst (λ (n : ℕ). needs arcs n b ≡ true) (is_one a y in_a) need)));
  },
  groups_weaker arcs seen (λ z. more z || is_in z (y ∷ [])) gs under sound,
)

-- ---- the last two groups are joined

abbrev pub joined : Group → Group → Group
joined g h = group (h.nodes ++ g.nodes) (h.todo ++ g.todo)

pub groups_joined : (arcs : List Arc) (seen : ℕ → Bool) (g h : Group) (gs : List Group) (y : ℕ) → AreGroups arcs seen (g ∷ h ∷ gs) → is_in y (path_of (h ∷ gs)) ≡ true → ((x : ℕ) → is_in x (path_of (g ∷ h ∷ gs)) ≡ true → Leads arcs x y) → AreGroups arcs seen (joined g h ∷ gs)
groups_joined arcs seen g h gs y sound below leads = (
  record {
    member = lower.member;
    is_member = in_left lower.member h.nodes g.nodes lower.is_member;
    among = among;
    onward = onward;
    from_below = from_below;
    covered = covered;
  },
  groups_weaker arcs (λ x. (seen x || is_in x g.nodes) || is_in x h.nodes) (λ x. seen x || is_in x (h.nodes ++ g.nodes)) gs under sound.1.1,
)
  where
    top : IsGroup arcs (path_of (h ∷ gs)) seen g
    top = sound.0

    lower : IsGroup arcs (path_of gs) (λ x. seen x || is_in x g.nodes) h
    lower = sound.1.0

    under : Under (λ x. (seen x || is_in x g.nodes) || is_in x h.nodes) (λ x. seen x || is_in x (h.nodes ++ g.nodes))
    under x k =
        elim (either (seen x || is_in x g.nodes) (is_in x h.nodes) k) [
          | inl first ↦ elim (either (seen x) (is_in x g.nodes) first) [
            | inl is ↦ or_left (seen x) (is_in x (h.nodes ++ g.nodes)) is
            | inr in' ↦ or_right (seen x) (is_in x (h.nodes ++ g.nodes)) (in_right x h.nodes g.nodes in')
          ]
          | inr in' ↦ or_right (seen x) (is_in x (h.nodes ++ g.nodes)) (in_left x h.nodes g.nodes in')
        ]

    -- from the last group back to the one below
    back : (z : ℕ) → is_in z h.nodes ≡ true → Leads arcs y z
    back z in' =
        elim (in_either y (path_of gs) h.nodes below) [
          | inl deep ↦ lower.from_below y z deep in'
          | inr here ↦ lower.among y z here in'
        ]

    to_y : (x : ℕ) → is_in x g.nodes ≡ true → Leads arcs x y
    to_y x in' = leads x (in_right x (path_of (h ∷ gs)) g.nodes in')

    up : (x z : ℕ) → is_in x h.nodes ≡ true → is_in z g.nodes ≡ true → Leads arcs x z
    up x z in_x in_z = top.from_below x z (in_right x (path_of gs) h.nodes in_x) in_z

    among : (a b : ℕ) → is_in a (h.nodes ++ g.nodes) ≡ true → is_in b (h.nodes ++ g.nodes) ≡ true → Leads arcs a b
    among a b in_a in_b =
        elim (in_either a h.nodes g.nodes in_a) [
          | inl a_h ↦ elim (in_either b h.nodes g.nodes in_b) [ inl b_h ↦ lower.among a b a_h b_h | inr b_g ↦ up a b a_h b_g ]
          | inr a_g ↦ elim (in_either b h.nodes g.nodes in_b) [ inl b_h ↦ leads_on arcs a y b (to_y a a_g) (back b b_h) | inr b_g ↦ top.among a b a_g b_g ]
        ]

    onward : (a b : ℕ) → is_in a (h.nodes ++ g.nodes) ≡ true → is_in b (h.todo ++ g.todo) ≡ true → Leads arcs a b
    onward a b in_a in_b =
        elim (in_either b h.todo g.todo in_b) [
          | inl b_h ↦ leads_on arcs a lower.member b (among a lower.member in_a (in_left lower.member h.nodes g.nodes lower.is_member)) (lower.onward lower.member b lower.is_member b_h)
          | inr b_g ↦ leads_on arcs a top.member b (among a top.member in_a (in_right top.member h.nodes g.nodes top.is_member)) (top.onward top.member b top.is_member b_g)
        ]

    from_below : (a b : ℕ) → is_in a (path_of gs) ≡ true → is_in b (h.nodes ++ g.nodes) ≡ true → Leads arcs a b
    from_below a b in_a in_b =
        elim (in_either b h.nodes g.nodes in_b) [
          | inl b_h ↦ lower.from_below a b in_a b_h
          | inr b_g ↦ top.from_below a b (in_left a (path_of gs) h.nodes in_a) b_g
        ]

    covered : (a b : ℕ) → is_in a (h.nodes ++ g.nodes) ≡ true → needs arcs a b ≡ true → (seen b ≡ true) ⊎ ((is_in b (h.nodes ++ g.nodes) ≡ true) ⊎ (is_in b (h.todo ++ g.todo) ≡ true))
    covered a b in_a need =
        elim (in_either a h.nodes g.nodes in_a) [
          | inl a_h ↦ elim (lower.covered a b a_h need) [
            | inl first ↦ elim (either (seen b) (is_in b g.nodes) first) [ inl is ↦ inl is | inr in' ↦ inr (inl (in_right b h.nodes g.nodes in')) ]
            | inr other ↦ elim other [ inl node ↦ inr (inl (in_left b h.nodes g.nodes node)) | inr at ↦ inr (inr (in_left b h.todo g.todo at)) ]
          ]
          | inr a_g ↦ elim (top.covered a b a_g need) [
            | inl is ↦ inl is
            | inr other ↦ elim other [ inl node ↦ inr (inl (in_right b h.nodes g.nodes node)) | inr at ↦ inr (inr (in_right b h.todo g.todo at)) ]
          ]
        ]

-- ---- the place that was looked at is in the last group

pub groups_found : (arcs : List Arc) (seen more : ℕ → Bool) (g : Group) (gs : List Group) → AreGroups arcs seen (g ∷ gs) → Under seen (λ z. more z || is_in z g.nodes) → AreGroups arcs more (g ∷ gs)
groups_found arcs seen more g gs sound under =
    let top = sound.0 in (
      record {
        member = top.member;
        is_member = top.is_member;
        among = top.among;
        onward = top.onward;
        from_below = top.from_below;
        covered = λ x y in' need. elim (top.covered x y in' need) [
          | inl is ↦ elim (either (more y) (is_in y g.nodes) (under y is)) [ inl is' ↦ inl is' | inr node ↦ inr (inl node) ]
          | inr other ↦ inr other
        ];
      },
      groups_weaker arcs (λ x. seen x || is_in x g.nodes) (λ x. more x || is_in x g.nodes) gs
          (λ x h. elim (either (seen x) (is_in x g.nodes) h) [ inl is ↦ under x is | inr node ↦ or_right (more x) (is_in x g.nodes) node ])
          sound.1,
    )
