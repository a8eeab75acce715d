-- A search that stands well goes on to stand well.
use Rattle.std.proofs.Common.{◌≡◌, ◌≢◌, ℕ, zero, suc, ◌+◌, ◌*◌, ◌-◌, ◌<◌, ◌≤◌, Bool, true, false, List, [], ◌∷◌, ◌++◌, length, map, get_or, set, take, drop, replicate, Option, Some, None, inl, inr, refl, sym, ap, subst, ◌∙◌, arith}
use Rattle.std.specs.Prelude.{◌&&◌, ◌||◌, ◌⊎◌, nat_eq, slice_get, option_map}
use Rattle.std.specs.List.{All}
use Rattle.std.specs.Option.{IsSomeAnd}
use Rattle.std.proofs.lemmas.Bool.{false≢true, cases_Bool, cases_lt, cases_eq, eqb-true, eq-eqb}
use Rattle.std.proofs.lemmas.List.{append-nil, append_assoc, length-append, length_push, length-set, length-map, nil_from_length, same_from_push, take_at, drop_at, take_more, get_or_append_left, get_or-append_right, get_or_push, get_or-set_same, get_or-set_other}
use Rattle.std.proofs.lemmas.List.Elements.{All-nil, All-push, All-append, All-map, All-take, recursion_from_All}
use Rattle.graph_walks.specs.Arcs.{Arc, needs, arcs_from, is_in, AreWithin}
use Rattle.graph_walks.specs.Counting.{one_if}
use Rattle.graph_walks.specs.Leading.{Leads}
use Rattle.graph_walks.specs.Starts.{Net}
use Rattle.graph_walks.specs.declared.components.Status.{Status}
use Rattle.graph_walks.specs.declared.components.Status.TheVariants.{New, Open, Closed}
use Rattle.graph_walks.specs.Searching.{status_of, is_closed, is_new, shut, fresh, Group, path_of, todo_of, begins_of, IsGroup, AreGroups, AreMarked, AreOpen, Standing, IsSearch, none_seen, IsLooking, last_todo, work, AreClosed}
use Rattle.graph_walks.proofs.Grouped.{group, joined, groups_weaker, groups_taken, leads_to_taken, groups_opened, groups_joined, groups_found}
use Rattle.graph_walks.proofs.Reached.{reaches_leads, leads_reaches}
use Rattle.graph_walks.proofs.Tests.{either, both, and_true, or_left, or_right, one_test, in_left, in_right, in_either, holds_of_arc}
use Rattle.graph_walks.specs.Reaching.{reaches}

-- ---- statuses

none_status : (n x : ℕ) → status_of (replicate n New) x ≡ New
none_status zero x = refl
none_status (suc n) zero = refl
none_status (suc n) (suc x) = none_status n x

fresh_all : (n : ℕ) → fresh (replicate n New) ≡ n
fresh_all zero = refl
fresh_all (suc n) = let rest : fresh (replicate n New) ≡ n = fresh_all n in omega arith

shut_new : (statuses : List Status) (x : ℕ) → status_of statuses x ≡ New → shut statuses x ≡ false
shut_new statuses x is = ap is_closed is

pub fresh_set : (statuses : List Status) (y at : ℕ) → y < length statuses → status_of statuses y ≡ New → fresh (set statuses y (Open at)) + 1 ≡ fresh statuses
fresh_set [] y at small is = absurd (omega arith)
fresh_set (s ∷ statuses) zero at small is =
    let one : one_if (is_new s) ≡ 1 = ap (λ (t : Status). one_if (is_new t)) is in
    omega arith
fresh_set (s ∷ statuses) (suc y) at small is =
    let rest : fresh (set statuses y (Open at)) + 1 ≡ fresh statuses = fresh_set statuses y at (omega arith) is in
    omega arith

fresh_closed : (statuses : List Status) (y : ℕ) → y < length statuses → is_new (status_of statuses y) ≡ false → fresh (set statuses y Closed) ≡ fresh statuses
fresh_closed [] y small is = absurd (omega arith)
fresh_closed (s ∷ statuses) zero small is =
    let none : one_if (is_new s) ≡ 0 = ap one_if is in
    omega arith
fresh_closed (s ∷ statuses) (suc y) small is =
    let rest : fresh (set statuses y Closed) ≡ fresh statuses = fresh_closed statuses y (omega arith) is in
    omega arith

-- ---- lists by places

pub in_at : (xs : List ℕ) (j : ℕ) → j < length xs → is_in (get_or xs j 0) xs ≡ true
in_at [] j small = absurd (omega arith)
in_at (x ∷ xs) zero small = or_left (nat_eq x x) (is_in x xs) (eq-eqb x x refl)
in_at (x ∷ xs) (suc j) small = or_right (nat_eq (get_or xs j 0) x) (is_in (get_or xs j 0) xs) (in_at xs j (omega arith))

pub at_in : (x : ℕ) (xs : List ℕ) → is_in x xs ≡ true → (j : ℕ) × (j < length xs) × (get_or xs j 0 ≡ x)
at_in x [] h = absurd (false≢true h)
at_in x (y ∷ xs) h =
    elim (either (nat_eq x y) (is_in x xs) h) [
      | inl is ↦ (0, omega arith, sym (eqb-true x y is))
      | inr more ↦ let found = at_in x xs more in let low = found.1 in (suc found.0, omega arith, found.2)
    ]

last_of : (X : Type 0) (xs : List X) (x : X) → slice_get (xs ++ x ∷ []) (length (xs ++ x ∷ []) - 1) ≡ Some x
last_of X xs x =
    let long : length (xs ++ x ∷ []) - 1 ≡ length xs = omega (arith, length_push xs x) in
    subst (λ (k : ℕ). slice_get (xs ++ x ∷ []) k ≡ Some x) (sym long) (there xs)
  where
    there : (ys : List X) → slice_get (ys ++ x ∷ []) (length ys) ≡ Some x
    there [] = refl
    there (y ∷ ys) = there ys

last_todo_is : (g : Group) (gs : List Group) → last_todo (begins_of (g ∷ gs)) ≡ Some (length (todo_of gs))
last_todo_is g gs = ap (option_map (λ (b : ℕ × ℕ). b.1)) (last_of (ℕ × ℕ) (begins_of gs) (length (path_of gs), length (todo_of gs)))

-- ---- a search begins

abbrev start_of : ℕ → Standing
start_of n = record { statuses = replicate n New; marks = replicate n 0; found = 0; path = []; pending = []; begins = [] }

not_shut : (n x : ℕ) → shut (replicate n New) x ≡ true → ⊥
not_shut n x h = false≢true (sym (shut_new (replicate n New) x (none_status n x)) ∙ h)

pub search_starts : (net : Net) (search : Standing) → search.statuses ≡ replicate net.count New → length search.marks ≡ net.count → search.found ≡ 0 → search.path ≡ [] → search.pending ≡ [] → search.begins ≡ [] → IsSearch net none_seen search
search_starts net search statuses marks found path pending begins = record {
  groups = [];
  path_is = path;
  todo_is = pending;
  begins_are = begins;
  sound = tt;
  statuses_count = ap length statuses ∙ length_of net.count;
  marks_count = marks;
  todo_within = subst (All (λ y. y < net.count)) (sym pending) (All-nil (λ y. y < net.count));
  opened = record {
    within = subst (All (λ y. y < net.count)) (sym path) (All-nil (λ y. y < net.count));
    status = λ at low. let none : length search.path ≡ 0 = ap length path in absurd (omega arith);
    below = λ x at is. let no : New ≡ Open at = sym (none x) ∙ is in absurd cc;
    place = λ x at is. let no : New ≡ Open at = sym (none x) ∙ is in absurd cc;
  };
  marked = record {
    closed = λ x y need h. absurd (never x h);
    low = λ x h. absurd (never x h);
    alike = λ x y h k same. absurd (never x h);
    together = λ x y h k a b. absurd (never x h);
    falling = λ x y need h. absurd (never x h);
  };
  few =
      let some : fresh search.statuses ≡ net.count = ap fresh statuses ∙ fresh_all net.count in
      let no : length search.begins ≡ 0 = ap length begins in
      omega arith;
}
  where
    length_of : (n : ℕ) → length (replicate n New) ≡ n
    length_of zero = refl
    length_of (suc n) = let rest : length (replicate n New) ≡ n = length_of n in omega arith

    none : (x : ℕ) → status_of search.statuses x ≡ New
    none x = ap (λ (l : List Status). status_of l x) statuses ∙ none_status net.count x

    never : (x : ℕ) → shut search.statuses x ≡ true → ⊥
    never x h = false≢true (sym (shut_new search.statuses x (none x)) ∙ h)

pub search_weaker : (net : Net) (seen more : ℕ → Bool) (search : Standing) → ((x : ℕ) → seen x ≡ true → more x ≡ true) → IsSearch net seen search → IsSearch net more search
search_weaker net seen more search under is = record {
  groups = is.groups;
  path_is = is.path_is;
  todo_is = is.todo_is;
  begins_are = is.begins_are;
  sound = groups_weaker net.arcs (λ x. shut search.statuses x || seen x) (λ x. shut search.statuses x || more x) is.groups
      (λ x h. elim (either (shut search.statuses x) (seen x) h) [ inl s ↦ or_left (shut search.statuses x) (more x) s | inr t ↦ or_right (shut search.statuses x) (more x) (under x t) ])
      is.sound;
  statuses_count = is.statuses_count;
  marks_count = is.marks_count;
  todo_within = is.todo_within;
  opened = is.opened;
  marked = is.marked;
  few = is.few;
}

no_groups : (gs : List Group) → begins_of gs ≡ [] → path_of gs ≡ []
no_groups [] h = refl
no_groups (g ∷ gs) h =
    let none : length (begins_of gs ++ (length (path_of gs), length (todo_of gs)) ∷ []) ≡ 0 = ap length h in
    absurd (omega (arith, length_push (begins_of gs) (length (path_of gs), length (todo_of gs))))

pub empty_path : (net : Net) (seen : ℕ → Bool) (search : Standing) → IsSearch net seen search → length search.begins ≡ 0 → search.path ≡ []
empty_path net seen search is empty =
    is.path_is ∙ no_groups is.groups (sym is.begins_are ∙ nil_from_length search.begins empty)

-- the first place of a path is looked at
pub begins_looking : (net : Net) (search : Standing) (y : ℕ) → IsSearch net none_seen search → length search.begins ≡ 0 → IsLooking net y search
begins_looking net search y is empty = record {
  stands = search_weaker net none_seen (λ x. nat_eq x y) search (λ x h. absurd (false≢true h)) is;
  leads = λ x h. absurd (false≢true (subst (λ (l : List ℕ). is_in x l ≡ true) (empty_path net none_seen search is empty) h));
}

-- on an empty path each place that isn't new is closed
pub closed_all : (net : Net) (search : Standing) (x : ℕ) → IsSearch net none_seen search → length search.begins ≡ 0 → is_new (status_of search.statuses x) ≡ false → shut search.statuses x ≡ true
closed_all net search x is empty come = by (status_of search.statuses x) refl
  where
    by : (s : Status) → status_of search.statuses x ≡ s → shut search.statuses x ≡ true
    by New here = absurd (false≢true (sym come ∙ ap is_new here))
    by (Open at) here =
        let low : at < length search.path = is.opened.below x at here in
        let none : length search.path ≡ 0 = ap length (empty_path net none_seen search is empty) in
        absurd (omega arith)
    by Closed here = ap is_closed here

-- ---- the next place is taken

snoc : (xs : List ℕ) → 0 < length xs → (ys : List ℕ) × (y : ℕ) × (xs ≡ ys ++ y ∷ [])
snoc [] h = absurd (omega arith)
snoc (x ∷ []) h = ([], x, refl)
snoc (x ∷ z ∷ xs) h = let rest = snoc (z ∷ xs) (omega arith) in (x ∷ rest.0, rest.1, ap (λ (l : List ℕ). x ∷ l) rest.2)

some_is : {X : Type 0} (P : X → Type 0) (o : Option X) (x : X) → IsSomeAnd o P → o ≡ Some x → P x
some_is P o x h is = subst (λ o. IsSomeAnd o P) is h

pub search_taken : (net : Net) (search : Standing) (left : List ℕ) (y : ℕ) → IsSearch net none_seen search → IsSomeAnd (last_todo search.begins) (λ todo. todo < length search.pending) → search.pending ≡ left ++ y ∷ [] → IsLooking net y (record search { pending = left })
search_taken net search left y is todo apart = by is.groups is.path_is is.todo_is is.begins_are is.sound
  where
    by : (gs : List Group) → search.path ≡ path_of gs → search.pending ≡ todo_of gs → search.begins ≡ begins_of gs → AreGroups net.arcs (λ x. shut search.statuses x || none_seen x) gs → IsLooking net y (record search { pending = left })
    by [] path pending begins sound =
        let some : IsSomeAnd (last_todo []) (λ todo. todo < length search.pending) = subst (λ (l : List (ℕ × ℕ)). IsSomeAnd (last_todo l) (λ todo. todo < length search.pending)) begins todo in
        absurd some
    by (g ∷ gs) path pending begins sound =
        let at : length (todo_of gs) < length search.pending = some_is (λ t. t < length search.pending) (last_todo search.begins) (length (todo_of gs)) todo (ap last_todo begins ∙ last_todo_is g gs) in
        let more : 0 < length g.todo = omega (arith, ap length pending, length-append (todo_of gs) g.todo) in
        let cut = snoc g.todo more in
        let whole : left ++ y ∷ [] ≡ (todo_of gs ++ cut.0) ++ cut.1 ∷ [] =
        sym apart ∙ pending ∙ ap (λ (l : List ℕ). todo_of gs ++ l) cut.2 ∙ sym (append_assoc (todo_of gs) cut.0 (cut.1 ∷ [])) in
        let same = same_from_push left (todo_of gs ++ cut.0) y cut.1 whole in
        let end : g.todo ≡ cut.0 ++ y ∷ [] = cut.2 ∙ ap (λ (n : ℕ). cut.0 ++ n ∷ []) (sym same.1) in
        let sound' : AreGroups net.arcs (λ x. shut search.statuses x || none_seen x) (group g.nodes (cut.0 ++ y ∷ []) ∷ gs) = subst (λ (l : List ℕ). AreGroups net.arcs (λ x. shut search.statuses x || none_seen x) (group g.nodes l ∷ gs)) end sound in
        record {
          stands = record {
            groups = group g.nodes cut.0 ∷ gs;
            path_is = path;
            todo_is = same.0;
            begins_are = begins;
            sound = groups_weaker net.arcs (λ x. (shut search.statuses x || none_seen x) || nat_eq x y) (λ x. shut search.statuses x || nat_eq x y) (group g.nodes cut.0 ∷ gs) (under) (groups_taken net.arcs (λ x. shut search.statuses x || none_seen x) g.nodes cut.0 y gs sound');
            statuses_count = is.statuses_count;
            marks_count = is.marks_count;
            todo_within = fewer;
            opened = is.opened;
            marked = is.marked;
            few = is.few;
          };
          leads = λ x h. leads_to_taken net.arcs (λ x. shut search.statuses x || none_seen x) g.nodes cut.0 y gs sound' x (subst (λ (l : List ℕ). is_in x l ≡ true) path h);
        }
      where
        under : (x : ℕ) → ((shut search.statuses x || none_seen x) || nat_eq x y) ≡ true → (shut search.statuses x || nat_eq x y) ≡ true
        under x h =
            elim (either (shut search.statuses x || none_seen x) (nat_eq x y) h) [
              | inl first ↦ elim (either (shut search.statuses x) (none_seen x) first) [ inl s ↦ or_left (shut search.statuses x) (nat_eq x y) s | inr n ↦ absurd (false≢true n) ]
              | inr one ↦ or_right (shut search.statuses x) (nat_eq x y) one
            ]

        fewer : All (λ z. z < net.count) left
        fewer =
            let all : All (λ z. z < net.count) (left ++ y ∷ []) = subst (All (λ z. z < net.count)) apart is.todo_within in
            subst (All (λ z. z < net.count)) (take_at left (y ∷ []) (length left) refl) (All-take (λ z. z < net.count) (length left) (left ++ y ∷ []) all)

pub taken_within : (net : Net) (search : Standing) (left : List ℕ) (y : ℕ) → IsSearch net none_seen search → search.pending ≡ left ++ y ∷ [] → y < net.count
taken_within net search left y is apart =
    let all : All (λ z. z < net.count) (left ++ y ∷ []) = subst (All (λ z. z < net.count)) apart is.todo_within in
    let long : length (left ++ y ∷ []) ≡ length left + 1 = length_push left y in
    let here : get_or (left ++ y ∷ []) (length left) 0 ≡ y = get_or_push left y 0 (length left) refl in
    let low : get_or (left ++ y ∷ []) (length left) 0 < net.count = all (length left) 0 (omega arith) in
    omega arith

-- a closed place needs no look
pub looked_at_closed : (net : Net) (search : Standing) (y : ℕ) → IsLooking net y search → shut search.statuses y ≡ true → IsSearch net none_seen search
looked_at_closed net search y looking closed = let is = looking.stands in record {
  groups = is.groups;
  path_is = is.path_is;
  todo_is = is.todo_is;
  begins_are = is.begins_are;
  sound = groups_weaker net.arcs (λ x. shut search.statuses x || nat_eq x y) (λ x. shut search.statuses x || none_seen x) is.groups
      (λ x h. elim (either (shut search.statuses x) (nat_eq x y) h) [
        | inl s ↦ or_left (shut search.statuses x) (none_seen x) s
        | inr one ↦ or_left (shut search.statuses x) (none_seen x) (subst (λ (n : ℕ). shut search.statuses n ≡ true) (sym (eqb-true x y one)) closed)
      ])
      is.sound;
  statuses_count = is.statuses_count;
  marks_count = is.marks_count;
  todo_within = is.todo_within;
  opened = is.opened;
  marked = is.marked;
  few = is.few;
}

-- ---- a new place is opened

status_other : (statuses : List Status) (y x : ℕ) (s : Status) → x ≢ y → status_of (set statuses y s) x ≡ status_of statuses x
status_other statuses y x s other = get_or-set_other statuses y x s New other

status_same : (statuses : List Status) (y : ℕ) (s : Status) → y < length statuses → status_of (set statuses y s) y ≡ s
status_same statuses y s small = get_or-set_same statuses y s New small

shut_open : (statuses : List Status) (y at : ℕ) → y < length statuses → status_of statuses y ≡ New → (x : ℕ) → shut (set statuses y (Open at)) x ≡ shut statuses x
shut_open statuses y at small new x =
    elim (cases_eq x y) [
      | inl same ↦
          let now : shut (set statuses y (Open at)) y ≡ false = ap is_closed (status_same statuses y (Open at) small) in
          let before : shut statuses y ≡ false = shut_new statuses y new in
          subst (λ (n : ℕ). shut (set statuses y (Open at)) n ≡ shut statuses n) (sym same) (now ∙ sym before)
      | inr other ↦ ap is_closed (status_other statuses y x (Open at) other)
    ]

marked_same : (arcs : List Arc) (s t : List Status) (marks : List ℕ) (found : ℕ) → ((x : ℕ) → shut t x ≡ shut s x) → AreMarked arcs s marks found → AreMarked arcs t marks found
marked_same arcs s t marks found same is = record {
  closed = λ x y need h. same y ∙ is.closed x y need (sym (same x) ∙ h);
  low = λ x h. is.low x (sym (same x) ∙ h);
  alike = λ x y h k. is.alike x y (sym (same x) ∙ h) (sym (same y) ∙ k);
  together = λ x y h k. is.together x y (sym (same x) ∙ h) (sym (same y) ∙ k);
  falling = λ x y need h. is.falling x y need (sym (same x) ∙ h);
}

open_more : (n : ℕ) (statuses : List Status) (path : List ℕ) (y : ℕ) → length statuses ≡ n → y < n → status_of statuses y ≡ New → AreOpen n statuses path → AreOpen n (set statuses y (Open (length path))) (path ++ y ∷ [])
open_more n statuses path y long small new is = record {
  within = All-push (λ x. x < n) path y is.within small;
  status = λ at low.
      let wide : length (path ++ y ∷ []) ≡ length path + 1 = length_push path y in
      elim (cases_lt at (length path)) [
        | inl front ↦
            let x : ℕ = get_or path at 0 in
            let here : get_or (path ++ y ∷ []) at 0 ≡ x = get_or_append_left path (y ∷ []) 0 at front in
            let was : status_of statuses x ≡ Open at = is.status at front in
            let other : x ≢ y = λ same. let no : New ≡ Open at = sym new ∙ ap (status_of statuses) (sym same) ∙ was in cc in
            ap (status_of (set statuses y (Open (length path)))) here ∙ status_other statuses y x (Open (length path)) other ∙ was
        | inr end ↦
            let last : length path ≡ at = omega arith in
            let here : get_or (path ++ y ∷ []) at 0 ≡ y = get_or_push path y 0 at last in
            ap (status_of (set statuses y (Open (length path)))) here ∙ status_same statuses y (Open (length path)) (omega arith) ∙ ap Open last
      ];
  below = λ x at h.
      let wide : length (path ++ y ∷ []) ≡ length path + 1 = length_push path y in
      elim (cases_eq x y) [
        | inl same ↦ let last : at ≡ length path = last_at x at same h in omega arith
        | inr other ↦ let low : at < length path = is.below x at (sym (status_other statuses y x (Open (length path)) other) ∙ h) in omega arith
      ];
  place = λ x at h. elim (cases_eq x y) [
    | inl same ↦ get_or_push path y 0 at (sym (last_at x at same h)) ∙ sym same
    | inr other ↦
        let was : status_of statuses x ≡ Open at = sym (status_other statuses y x (Open (length path)) other) ∙ h in
        get_or_append_left path (y ∷ []) 0 at (is.below x at was) ∙ is.place x at was
  ];
}
  where
    last_at : (x at : ℕ) → x ≡ y → status_of (set statuses y (Open (length path))) x ≡ Open at → at ≡ length path
    last_at x at same h =
        let now : Open (length path) ≡ Open at = sym (status_same statuses y (Open (length path)) (omega arith)) ∙ ap (status_of (set statuses y (Open (length path)))) (sym same) ∙ h in
        cc

abbrev pub ends_of : ℕ → List Arc → List ℕ
ends_of y arcs = map (λ (arc : Arc). arc.1) (arcs_from y arcs)

abbrev pub opened_with : Standing → ℕ → List ℕ → Standing
opened_with search y ends = record {
  statuses = set search.statuses y (Open (length search.path));
  marks = search.marks;
  found = search.found;
  path = search.path ++ y ∷ [];
  pending = search.pending ++ ends;
  begins = search.begins ++ (length search.path, length search.pending) ∷ [];
}

pub search_opened : (net : Net) (search : Standing) (y : ℕ) → y < net.count → status_of search.statuses y ≡ New → AreWithin net.count (arcs_from y net.arcs) → IsLooking net y search → IsSearch net none_seen (opened_with search y (ends_of y net.arcs))
search_opened net search y small new within looking = let is = looking.stands in record {
  groups = group (y ∷ []) (ends_of y net.arcs) ∷ is.groups;
  path_is = ap (λ (l : List ℕ). l ++ y ∷ []) is.path_is;
  todo_is = ap (λ (l : List ℕ). l ++ ends_of y net.arcs) is.todo_is;
  begins_are =
      let at : (length search.path, length search.pending) ≡ (length (path_of is.groups), length (todo_of is.groups)) = let p = ap length is.path_is in let t = ap length is.todo_is in cc in
      ap (λ (b : ℕ × ℕ). search.begins ++ b ∷ []) at ∙ ap (λ (l : List (ℕ × ℕ)). l ++ (length (path_of is.groups), length (todo_of is.groups)) ∷ []) is.begins_are;
  sound = groups_opened net.arcs (λ x. shut search.statuses x || nat_eq x y) (λ x. shut (set search.statuses y (Open (length search.path))) x || none_seen x) y is.groups is.sound under
      (λ x h. looking.leads x (subst (λ (l : List ℕ). is_in x l ≡ true) (sym is.path_is) h));
  statuses_count = length-set search.statuses y (Open (length search.path)) ∙ is.statuses_count;
  marks_count = is.marks_count;
  todo_within = All-append (λ x. x < net.count) search.pending (ends_of y net.arcs) is.todo_within (All-map (λ x. x < net.count) (λ (arc : Arc). arc.1) (arcs_from y net.arcs) (λ k d low. (within k d low).1));
  opened = open_more net.count search.statuses search.path y is.statuses_count small new is.opened;
  marked = marked_same net.arcs search.statuses (set search.statuses y (Open (length search.path))) search.marks search.found (shut_open search.statuses y (length search.path) (room) new) is.marked;
  few =
      let less : fresh (set search.statuses y (Open (length search.path))) + 1 ≡ fresh search.statuses = fresh_set search.statuses y (length search.path) room new in
      let more : length (search.begins ++ (length search.path, length search.pending) ∷ []) ≡ length search.begins + 1 = length_push search.begins (length search.path, length search.pending) in
      omega (arith, is.few);
}
  where
    room : y < length search.statuses
    room = let long : length search.statuses ≡ net.count = looking.stands.statuses_count in omega arith

    under : (x : ℕ) → (shut search.statuses x || nat_eq x y) ≡ true → ((shut (set search.statuses y (Open (length search.path))) x || none_seen x) || is_in x (y ∷ [])) ≡ true
    under x h =
        let now : Bool = shut (set search.statuses y (Open (length search.path))) x in
        elim (either (shut search.statuses x) (nat_eq x y) h) [
          | inl s ↦ or_left (now || none_seen x) (is_in x (y ∷ [])) (or_left now (none_seen x) (shut_open search.statuses y (length search.path) room new x ∙ s))
          | inr one ↦ or_right (now || none_seen x) (is_in x (y ∷ [])) (or_left (nat_eq x y) false one)
        ]

kept_short : (y : ℕ) (arcs : List Arc) → length (arcs_from y arcs) ≤ length arcs
kept_short y [] = omega arith
kept_short y (arc ∷ arcs) =
    let rest : length (arcs_from y arcs) ≤ length arcs = kept_short y arcs in
    elim (cases_Bool (nat_eq arc.0 y)) [ inl is ↦ rw is (omega arith) | inr isnt ↦ rw isnt (omega arith) ]

pub opened_less : (net : Net) (search : Standing) (y : ℕ) → y < length search.statuses → status_of search.statuses y ≡ New → work net (opened_with search y (ends_of y net.arcs)) < work net search
opened_less net search y small new =
    let f : ℕ = fresh (set search.statuses y (Open (length search.path))) in
    let k : ℕ = length net.arcs + 2 in
    let less : f + 1 ≡ fresh search.statuses = fresh_set search.statuses y (length search.path) small new in
    let more : length (search.begins ++ (length search.path, length search.pending) ∷ []) ≡ length search.begins + 1 = length_push search.begins (length search.path, length search.pending) in
    let wide : length (search.pending ++ ends_of y net.arcs) ≡ length search.pending + length (ends_of y net.arcs) = length-append search.pending (ends_of y net.arcs) in
    let ends : length (ends_of y net.arcs) ≡ length (arcs_from y net.arcs) = length-map (arcs_from y net.arcs) (λ (arc : Arc). arc.1) in
    let short : length (arcs_from y net.arcs) ≤ length net.arcs = kept_short y net.arcs in
    let all : fresh search.statuses * k ≡ f * k + k = subst (λ (m : ℕ). m * k ≡ f * k + k) less (omega arith) in
    omega arith

-- ---- groups are joined

abbrev pub with_begins : Standing → List (ℕ × ℕ) → Standing
with_begins search begins = record search { begins = begins }

front_at : (xs ys : List ℕ) (at : ℕ) → at < length xs → get_or (xs ++ ys) at 0 ≡ get_or xs at 0
front_at xs ys at low = get_or_append_left xs ys 0 at low

pub search_joined : (net : Net) (search : Standing) (at : ℕ) (begins : List (ℕ × ℕ)) (begin : ℕ × ℕ) → IsLooking net (get_or search.path at 0) search → search.begins ≡ begins ++ begin ∷ [] → at < begin.0 → IsLooking net (get_or search.path at 0) (with_begins search begins)
search_joined net search at begins begin looking apart low = by looking.stands.groups looking.stands.path_is looking.stands.todo_is looking.stands.begins_are looking.stands.sound
  where
    y : ℕ
    y = get_or search.path at 0

    fewer : search.found + length begins + fresh search.statuses ≤ net.count
    fewer = omega (arith, looking.stands.few, ap length apart, length_push begins begin)

    by : (gs : List Group) → search.path ≡ path_of gs → search.pending ≡ todo_of gs → search.begins ≡ begins_of gs → AreGroups net.arcs (λ x. shut search.statuses x || nat_eq x (get_or search.path at 0)) gs → IsLooking net (get_or search.path at 0) (with_begins search begins)
    by [] path pending are sound =
        let none : length (begins ++ begin ∷ []) ≡ 0 = ap length (sym apart ∙ are) in
        absurd (omega (arith, length_push begins begin))
    by (g ∷ []) path pending are sound =
        let same = same_from_push begins [] begin (0, 0) (sym apart ∙ are) in
        let zero' : begin.0 ≡ 0 = ap (λ (b : ℕ × ℕ). b.0) same.1 in
        absurd (omega arith)
    by (g ∷ h ∷ gs) path pending are sound =
        let lower : List ℕ = path_of (h ∷ gs) in
        let same = same_from_push begins (begins_of (h ∷ gs)) begin (length lower, length (todo_of (h ∷ gs))) (sym apart ∙ are) in
        let start : begin.0 ≡ length lower = ap (λ (b : ℕ × ℕ). b.0) same.1 in
        let here : get_or search.path at 0 ≡ get_or lower at 0 = ap (λ (l : List ℕ). get_or l at 0) path ∙ front_at lower g.nodes at (omega arith) in
        let below : is_in (get_or search.path at 0) lower ≡ true = subst (λ (n : ℕ). is_in n lower ≡ true) (sym here) (in_at lower at (omega arith)) in
        let is = looking.stands in
        record {
          stands = record {
            groups = joined g h ∷ gs;
            path_is = path ∙ append_assoc (path_of gs) h.nodes g.nodes;
            todo_is = pending ∙ append_assoc (todo_of gs) h.todo g.todo;
            begins_are = same.0;
            sound = groups_joined net.arcs (λ x. shut search.statuses x || nat_eq x (get_or search.path at 0)) g h gs (get_or search.path at 0) sound below (λ x k. looking.leads x (subst (λ (l : List ℕ). is_in x l ≡ true) (sym path) k));
            statuses_count = is.statuses_count;
            marks_count = is.marks_count;
            todo_within = is.todo_within;
            opened = is.opened;
            marked = is.marked;
            few = fewer;
          };
          leads = looking.leads;
        }

pub search_found : (net : Net) (search : Standing) (at : ℕ) (begins : List (ℕ × ℕ)) (begin : ℕ × ℕ) → IsLooking net (get_or search.path at 0) search → search.begins ≡ begins ++ begin ∷ [] → begin.0 ≤ at → at < length search.path → IsSearch net none_seen search
search_found net search at begins begin looking apart low inside = by looking.stands.groups looking.stands.path_is looking.stands.begins_are looking.stands.sound (λ groups path begins sound. let is = looking.stands in record {
  groups = groups;
  path_is = path.0;
  todo_is = path.1;
  begins_are = begins;
  sound = sound;
  statuses_count = is.statuses_count;
  marks_count = is.marks_count;
  todo_within = is.todo_within;
  opened = is.opened;
  marked = is.marked;
  few = is.few;
}) looking.stands.todo_is
  where
    by : (gs : List Group) → search.path ≡ path_of gs → search.begins ≡ begins_of gs → AreGroups net.arcs (λ x. shut search.statuses x || nat_eq x (get_or search.path at 0)) gs → ((groups : List Group) → (search.path ≡ path_of groups) × (search.pending ≡ todo_of groups) → search.begins ≡ begins_of groups → AreGroups net.arcs (λ x. shut search.statuses x || none_seen x) groups → IsSearch net none_seen search) → search.pending ≡ todo_of gs → IsSearch net none_seen search
    by [] path are sound make todo = let none : length search.path ≡ 0 = ap length path in absurd (omega arith)
    by (g ∷ gs) path are sound make todo =
        let same = same_from_push begins (begins_of gs) begin (length (path_of gs), length (todo_of gs)) (sym apart ∙ are) in
        let start : begin.0 ≡ length (path_of gs) = ap (λ (b : ℕ × ℕ). b.0) same.1 in
        let wide : length search.path ≡ length (path_of gs) + length g.nodes = ap length path ∙ length-append (path_of gs) g.nodes in
        let here : get_or search.path at 0 ≡ get_or g.nodes (at - length (path_of gs)) 0 = ap (λ (l : List ℕ). get_or l at 0) path ∙ get_or-append_right (path_of gs) g.nodes (length (path_of gs)) at 0 refl (omega arith) in
        let node : is_in (get_or search.path at 0) g.nodes ≡ true = subst (λ (n : ℕ). is_in n g.nodes ≡ true) (sym here) (in_at g.nodes (at - length (path_of gs)) (omega arith)) in
        make (g ∷ gs) (path, todo) are
        (groups_found net.arcs (λ x. shut search.statuses x || nat_eq x (get_or search.path at 0)) (λ x. shut search.statuses x || none_seen x) g gs sound
        (λ x h. elim (either (shut search.statuses x) (nat_eq x (get_or search.path at 0)) h) [
          | inl s ↦ or_left (shut search.statuses x || none_seen x) (is_in x g.nodes) (or_left (shut search.statuses x) (none_seen x) s)
          | inr one ↦ or_right (shut search.statuses x || none_seen x) (is_in x g.nodes) (subst (λ (n : ℕ). is_in n g.nodes ≡ true) (sym (eqb-true x (get_or search.path at 0) one)) node)
        ]))

-- ---- the last group is closed

pub record IsLast (net : Net) (search : Standing) (begins : List (ℕ × ℕ)) (start : ℕ) : Type 0 where
  pub group_of : Group
  pub groups : List Group
  pub within : start ≤ length search.path
  pub nodes_are : drop start search.path ≡ group_of.nodes
  pub path_is : take start search.path ≡ path_of groups
  pub whole : search.path ≡ path_of groups ++ group_of.nodes
  pub start_is : start ≡ length (path_of groups)
  pub todo_is : search.pending ≡ todo_of groups
  pub begins_are : begins ≡ begins_of groups
  pub top : IsGroup net.arcs (path_of groups) (λ x. shut search.statuses x || none_seen x) group_of
  pub none_left : group_of.todo ≡ []
  pub sound : AreGroups net.arcs (λ x. (shut search.statuses x || none_seen x) || is_in x group_of.nodes) groups

pub last_is : (net : Net) (search : Standing) (begins : List (ℕ × ℕ)) (begin : ℕ × ℕ) → IsSearch net none_seen search → search.begins ≡ begins ++ begin ∷ [] → IsSomeAnd (last_todo search.begins) (λ todo. length search.pending ≤ todo) → IsLast net search begins begin.0
last_is net search begins begin is apart done = by is.groups is.path_is is.todo_is is.begins_are is.sound
  where
    by : (gs : List Group) → search.path ≡ path_of gs → search.pending ≡ todo_of gs → search.begins ≡ begins_of gs → AreGroups net.arcs (λ x. shut search.statuses x || none_seen x) gs → IsLast net search begins begin.0
    by [] path pending are sound =
        let none : length (begins ++ begin ∷ []) ≡ 0 = ap length (sym apart ∙ are) in
        absurd (omega (arith, length_push begins begin))
    by (g ∷ gs) path pending are sound =
        let same = same_from_push begins (begins_of gs) begin (length (path_of gs), length (todo_of gs)) (sym apart ∙ are) in
        let start : begin.0 ≡ length (path_of gs) = ap (λ (b : ℕ × ℕ). b.0) same.1 in
        let le : length search.pending ≤ length (todo_of gs) = some_is (λ t. length search.pending ≤ t) (last_todo search.begins) (length (todo_of gs)) done (ap last_todo are ∙ last_todo_is g gs) in
        let none : g.todo ≡ [] = nil_from_length g.todo (omega (arith, ap length pending, length-append (todo_of gs) g.todo)) in
        record {
          group_of = g;
          groups = gs;
          within = omega (arith, ap length path, length-append (path_of gs) g.nodes);
          nodes_are = ap (drop begin.0) path ∙ drop_at (path_of gs) g.nodes begin.0 (sym start);
          path_is = ap (take begin.0) path ∙ take_at (path_of gs) g.nodes begin.0 (sym start);
          whole = path;
          start_is = start;
          todo_is = pending ∙ ap (λ (l : List ℕ). todo_of gs ++ l) none ∙ append-nil (todo_of gs);
          begins_are = same.0;
          top = sound.0;
          none_left = none;
          sound = sound.1;
        }

-- the places of the last group are open
pub last_open : (net : Net) (search : Standing) (begins : List (ℕ × ℕ)) (start : ℕ) → IsSearch net none_seen search → (last : IsLast net search begins start) → (j : ℕ) → j < length last.group_of.nodes → status_of search.statuses (get_or last.group_of.nodes j 0) ≡ Open (start + j)
last_open net search begins start is last j low =
    let s : start ≡ length (path_of last.groups) = last.start_is in
    let wide : length search.path ≡ length (path_of last.groups) + length last.group_of.nodes = ap length last.whole ∙ length-append (path_of last.groups) last.group_of.nodes in
    let here : get_or search.path (start + j) 0 ≡ get_or last.group_of.nodes (start + j - length (path_of last.groups)) 0 = ap (λ (l : List ℕ). get_or l (start + j) 0) last.whole ∙ get_or-append_right (path_of last.groups) last.group_of.nodes (length (path_of last.groups)) (start + j) 0 refl (omega arith) in
    let at : start + j - length (path_of last.groups) ≡ j = omega arith in
    let there : get_or search.path (start + j) 0 ≡ get_or last.group_of.nodes j 0 = here ∙ ap (λ (k : ℕ). get_or last.group_of.nodes k 0) at in
    ap (status_of search.statuses) (sym there) ∙ is.opened.status (start + j) (omega arith)

-- no place of the last group is closed, and none stands lower on the path
last_not_shut : (net : Net) (search : Standing) (begins : List (ℕ × ℕ)) (start : ℕ) → IsSearch net none_seen search → (last : IsLast net search begins start) → (x : ℕ) → is_in x last.group_of.nodes ≡ true → shut search.statuses x ≡ false
last_not_shut net search begins start is last x h =
    let at = at_in x last.group_of.nodes h in
    ap is_closed (ap (status_of search.statuses) (sym at.2) ∙ last_open net search begins start is last at.0 at.1)

last_high : (net : Net) (search : Standing) (begins : List (ℕ × ℕ)) (start : ℕ) → IsSearch net none_seen search → (last : IsLast net search begins start) → (x p : ℕ) → is_in x last.group_of.nodes ≡ true → status_of search.statuses x ≡ Open p → start ≤ p
last_high net search begins start is last x p h there =
    let at = at_in x last.group_of.nodes h in
    let j : ℕ = at.0 in
    let two : Open p ≡ Open (start + j) = sym there ∙ ap (status_of search.statuses) (sym at.2) ∙ last_open net search begins start is last j at.1 in
    let same : p ≡ start + j = cc in
    omega arith

-- a place of the path from the start on is one of the last group
last_has : (net : Net) (search : Standing) (begins : List (ℕ × ℕ)) (start : ℕ) → (last : IsLast net search begins start) → (p : ℕ) → start ≤ p → p < length search.path → is_in (get_or search.path p 0) last.group_of.nodes ≡ true
last_has net search begins start last p low high =
    let s : start ≡ length (path_of last.groups) = last.start_is in
    let wide : length search.path ≡ length (path_of last.groups) + length last.group_of.nodes = ap length last.whole ∙ length-append (path_of last.groups) last.group_of.nodes in
    let here : get_or search.path p 0 ≡ get_or last.group_of.nodes (p - length (path_of last.groups)) 0 = ap (λ (l : List ℕ). get_or l p 0) last.whole ∙ get_or-append_right (path_of last.groups) last.group_of.nodes (length (path_of last.groups)) p 0 refl (omega arith) in
    subst (λ (n : ℕ). is_in n last.group_of.nodes ≡ true) (sym here) (in_at last.group_of.nodes (p - length (path_of last.groups)) (omega arith))

in_or_out : (x : ℕ) (xs : List ℕ) → (is_in x xs ≡ true) ⊎ (is_in x xs ≡ false)
in_or_out x xs = cases_Bool (is_in x xs)

abbrev pub closed_with : Standing → List Status → List ℕ → List ℕ → List (ℕ × ℕ) → Standing
closed_with search statuses marks path begins = record { statuses = statuses; marks = marks; found = search.found + 1; path = path; pending = search.pending; begins = begins }

pub search_closed : (net : Net) (search : Standing) (begins : List (ℕ × ℕ)) (begin : ℕ × ℕ) (statuses : List Status) (marks : List ℕ) → IsSearch net none_seen search → search.begins ≡ begins ++ begin ∷ [] → IsSomeAnd (last_todo search.begins) (λ todo. length search.pending ≤ todo) → AreClosed (drop begin.0 search.path) search.found search.statuses statuses search.marks marks → IsSearch net none_seen (closed_with search statuses marks (take begin.0 search.path) begins)
search_closed net search begins begin statuses marks is apart done closed' = record {
  groups = last.groups;
  path_is = last.path_is;
  todo_is = last.todo_is;
  begins_are = last.begins_are;
  sound = groups_weaker net.arcs (λ x. (shut search.statuses x || none_seen x) || is_in x nodes) (λ x. shut statuses x || none_seen x) last.groups
      (λ x h. or_left (shut statuses x) (none_seen x) (elim (either (shut search.statuses x || none_seen x) (is_in x nodes) h) [
        | inl first ↦ elim (either (shut search.statuses x) (none_seen x) first) [ inl s ↦ stays x s | inr n ↦ absurd (false≢true n) ]
        | inr in' ↦ now_shut x in'
      ]))
      last.sound;
  statuses_count = closed.statuses_count ∙ is.statuses_count;
  marks_count = closed.marks_count ∙ is.marks_count;
  todo_within = is.todo_within;
  opened = record {
    within = All-take (λ x. x < net.count) begin.0 search.path is.opened.within;
    status = λ at low.
        let short : at < length (path_of last.groups) = subst (λ (l : List ℕ). at < length l) last.path_is low in
        let s : begin.0 ≡ length (path_of last.groups) = last.start_is in
        let x : ℕ = get_or (path_of last.groups) at 0 in
        let wide : length search.path ≡ length (path_of last.groups) + length nodes = ap length last.whole ∙ length-append (path_of last.groups) nodes in
        let there : get_or search.path at 0 ≡ x = ap (λ (l : List ℕ). get_or l at 0) last.whole ∙ front_at (path_of last.groups) nodes at short in
        let was : status_of search.statuses x ≡ Open at = ap (status_of search.statuses) (sym there) ∙ is.opened.status at (omega arith) in
        let out : is_in x nodes ≡ false = elim (in_or_out x nodes) [ inl in' ↦ let high : begin.0 ≤ at = last_high net search begins begin.0 is last x at in' was in absurd (omega arith) | inr o ↦ o ] in
        ap (λ (l : List ℕ). status_of statuses (get_or l at 0)) last.path_is ∙ closed.outside x out ∙ was;
    below = λ x at h.
        let was : status_of search.statuses x ≡ Open at = before x at h in
        let low : at < length search.path = is.opened.below x at was in
        let s : begin.0 ≡ length (path_of last.groups) = last.start_is in
        let long : length (take begin.0 search.path) ≡ length (path_of last.groups) = ap length last.path_is in
        elim (cases_lt at begin.0) [
          | inl front ↦ omega arith
          | inr high ↦ absurd (false≢true (sym (outside x at h) ∙ subst (λ (n : ℕ). is_in n nodes ≡ true) (is.opened.place x at was) (last_has net search begins begin.0 last at high low)))
        ];
    place = λ x at h.
        let was : status_of search.statuses x ≡ Open at = before x at h in
        let low : at < length search.path = is.opened.below x at was in
        let s : begin.0 ≡ length (path_of last.groups) = last.start_is in
        elim (cases_lt at begin.0) [
          | inl front ↦
              let there : get_or search.path at 0 ≡ get_or (path_of last.groups) at 0 = ap (λ (l : List ℕ). get_or l at 0) last.whole ∙ front_at (path_of last.groups) nodes at (omega arith) in
              ap (λ (l : List ℕ). get_or l at 0) last.path_is ∙ sym there ∙ is.opened.place x at was
          | inr high ↦ absurd (false≢true (sym (outside x at h) ∙ subst (λ (n : ℕ). is_in n nodes ≡ true) (is.opened.place x at was) (last_has net search begins begin.0 last at high low)))
        ];
  };
  marked = record {
    closed = λ x y need h. elim (in_or_out x nodes) [
      | inl in_x ↦ elim (last.top.covered x y in_x need) [
        | inl first ↦ elim (either (shut search.statuses y) (none_seen y) first) [ inl s ↦ stays y s | inr n ↦ absurd (false≢true n) ]
        | inr other ↦ elim other [
          | inl node ↦ now_shut y node
          | inr todo ↦ absurd (false≢true (subst (λ (l : List ℕ). is_in y l ≡ true) last.none_left todo))
        ]
      ]
      | inr out_x ↦ stays y (is.marked.closed x y need (was_shut x out_x h))
    ];
    low = λ x h. elim (in_or_out x nodes) [
      | inl in_x ↦ let m : get_or marks x 0 ≡ search.found = closed.marked x in_x in omega arith
      | inr out_x ↦
          let m : get_or marks x 0 ≡ get_or search.marks x 0 = closed.others x out_x in
          let l : get_or search.marks x 0 < search.found = is.marked.low x (was_shut x out_x h) in
          omega arith
    ];
    alike = λ x y h k same. elim (in_or_out x nodes) [
      | inl in_x ↦ elim (in_or_out y nodes) [
        | inl in_y ↦ last.top.among x y in_x in_y
        | inr out_y ↦ absurd (mixed x y in_x out_y k same)
      ]
      | inr out_x ↦ elim (in_or_out y nodes) [
        | inl in_y ↦ absurd (mixed y x in_y out_x h (sym same))
        | inr out_y ↦ is.marked.alike x y (was_shut x out_x h) (was_shut y out_y k) (sym (closed.others x out_x) ∙ same ∙ closed.others y out_y)
      ]
    ];
    together = λ x y h k to back. elim (in_or_out x nodes) [
      | inl in_x ↦ elim (in_or_out y nodes) [
        | inl in_y ↦ closed.marked x in_x ∙ sym (closed.marked y in_y)
        | inr out_y ↦ absurd (apart_from y x in_x (was_shut y out_y k) back)
      ]
      | inr out_x ↦ elim (in_or_out y nodes) [
        | inl in_y ↦ absurd (apart_from x y in_y (was_shut x out_x h) to)
        | inr out_y ↦ closed.others x out_x ∙ is.marked.together x y (was_shut x out_x h) (was_shut y out_y k) to back ∙ sym (closed.others y out_y)
      ]
    ];
    falling = λ x y need h. elim (in_or_out x nodes) [
      | inl in_x ↦
          let m : get_or marks x 0 ≡ search.found = closed.marked x in_x in
          elim (in_or_out y nodes) [
            | inl in_y ↦ let k : get_or marks y 0 ≡ search.found = closed.marked y in_y in omega arith
            | inr out_y ↦ elim (last.top.covered x y in_x need) [
              | inl first ↦ elim (either (shut search.statuses y) (none_seen y) first) [
                | inl s ↦
                    let k : get_or marks y 0 ≡ get_or search.marks y 0 = closed.others y out_y in
                    let l : get_or search.marks y 0 < search.found = is.marked.low y s in
                    omega arith
                | inr n ↦ absurd (false≢true n)
              ]
              | inr other ↦ elim other [
                | inl node ↦ absurd (false≢true (sym out_y ∙ node))
                | inr todo ↦ absurd (false≢true (subst (λ (l : List ℕ). is_in y l ≡ true) last.none_left todo))
              ]
            ]
          ]
      | inr out_x ↦
          let was : shut search.statuses x ≡ true = was_shut x out_x h in
          let m : get_or marks x 0 ≡ get_or search.marks x 0 = closed.others x out_x in
          let out_y : is_in y nodes ≡ false = elim (in_or_out y nodes) [ inl in_y ↦ absurd (false≢true (sym (last_not_shut net search begins begin.0 is last y in_y) ∙ is.marked.closed x y need was)) | inr o ↦ o ] in
          let k : get_or marks y 0 ≡ get_or search.marks y 0 = closed.others y out_y in
          let le : get_or search.marks y 0 ≤ get_or search.marks x 0 = is.marked.falling x y need was in
          omega arith
    ];
  };
  few = omega (arith, is.few, closed.fresh_is, ap length apart, length_push begins begin);
}
  where
    last : IsLast net search begins begin.0
    last = last_is net search begins begin is apart done

    nodes : List ℕ
    nodes = last.group_of.nodes

    closed : AreClosed nodes search.found search.statuses statuses search.marks marks
    closed = subst (λ (l : List ℕ). AreClosed l search.found search.statuses statuses search.marks marks) last.nodes_are closed'

    now_shut : (x : ℕ) → is_in x nodes ≡ true → shut statuses x ≡ true
    now_shut x in' = ap is_closed (closed.inside x in')

    stays : (x : ℕ) → shut search.statuses x ≡ true → shut statuses x ≡ true
    stays x s = elim (in_or_out x nodes) [ inl in' ↦ now_shut x in' | inr out ↦ ap is_closed (closed.outside x out) ∙ s ]

    was_shut : (x : ℕ) → is_in x nodes ≡ false → shut statuses x ≡ true → shut search.statuses x ≡ true
    was_shut x out h = sym (ap is_closed (closed.outside x out)) ∙ h

    outside : (x at : ℕ) → status_of statuses x ≡ Open at → is_in x nodes ≡ false
    outside x at h = elim (in_or_out x nodes) [ inl in' ↦ let no' : Closed ≡ Open at = sym (closed.inside x in') ∙ h in absurd cc | inr out ↦ out ]

    before : (x at : ℕ) → status_of statuses x ≡ Open at → status_of search.statuses x ≡ Open at
    before x at h = sym (closed.outside x (outside x at h)) ∙ h

    mixed : (x y : ℕ) → is_in x nodes ≡ true → is_in y nodes ≡ false → shut statuses y ≡ true → get_or marks x 0 ≡ get_or marks y 0 → ⊥
    mixed x y in_x out_y k same =
        let m : get_or marks x 0 ≡ search.found = closed.marked x in_x in
        let o : get_or marks y 0 ≡ get_or search.marks y 0 = closed.others y out_y in
        let l : get_or search.marks y 0 < search.found = is.marked.low y (was_shut y out_y k) in
        omega arith

    -- a place that was closed leads to none of the group
    apart_from : (y x : ℕ) → is_in x nodes ≡ true → shut search.statuses y ≡ true → Leads net.arcs y x → ⊥
    apart_from y x in_x was leads =
        false≢true (sym (last_not_shut net search begins begin.0 is last x in_x) ∙ leads.into (shut search.statuses) (λ a b need h. is.marked.closed a b need h) was)

-- ---- one more place is closed

pub closed_more : (places : List ℕ) (k mark : ℕ) (statuses statuses' : List Status) (marks marks' : List ℕ) → k < length places → get_or places k 0 < length statuses → length marks ≡ length statuses → is_new (status_of statuses (get_or places k 0)) ≡ false → AreClosed (take k places) mark statuses statuses' marks marks' → AreClosed (take (k + 1) places) mark statuses (set statuses' (get_or places k 0) Closed) marks (set marks' (get_or places k 0) mark)
closed_more places k mark statuses statuses' marks marks' small within long come is = record {
  statuses_count = length-set statuses' p Closed ∙ is.statuses_count;
  marks_count = length-set marks' p mark ∙ is.marks_count;
  inside = λ x h. elim (cases_eq x p) [
    | inl same ↦ subst (λ (n : ℕ). status_of (set statuses' p Closed) n ≡ Closed) (sym same) (status_same statuses' p Closed (omega (arith, is.statuses_count)))
    | inr other ↦ status_other statuses' p x Closed other ∙ is.inside x (earlier x other h)
  ];
  outside = λ x h.
      let out = apart x h in
      status_other statuses' p x Closed out.1 ∙ is.outside x out.0;
  marked = λ x h. elim (cases_eq x p) [
    | inl same ↦ subst (λ (n : ℕ). get_or (set marks' p mark) n 0 ≡ mark) (sym same) (get_or-set_same marks' p mark 0 (omega (arith, is.marks_count)))
    | inr other ↦ get_or-set_other marks' p x mark 0 other ∙ is.marked x (earlier x other h)
  ];
  others = λ x h.
      let out = apart x h in
      get_or-set_other marks' p x mark 0 out.1 ∙ is.others x out.0;
  fresh_is = fresh_closed statuses' p (omega (arith, is.statuses_count)) still ∙ is.fresh_is;
}
  where
    p : ℕ
    p = get_or places k 0

    more : take (k + 1) places ≡ take k places ++ p ∷ []
    more = take_more places k 0 small

    earlier : (x : ℕ) → x ≢ p → is_in x (take (k + 1) places) ≡ true → is_in x (take k places) ≡ true
    earlier x other h =
        elim (in_either x (take k places) (p ∷ []) (subst (λ (l : List ℕ). is_in x l ≡ true) more h)) [
          | inl front ↦ front
          | inr last ↦ elim (either (nat_eq x p) false last) [ inl one ↦ absurd (other (eqb-true x p one)) | inr no' ↦ absurd (false≢true no') ]
        ]

    apart : (x : ℕ) → is_in x (take (k + 1) places) ≡ false → (is_in x (take k places) ≡ false) × (x ≢ p)
    apart x h = (
      elim (in_or_out x (take k places)) [ inl in' ↦ absurd (false≢true (sym h ∙ subst (λ (l : List ℕ). is_in x l ≡ true) (sym more) (in_left x (take k places) (p ∷ []) in'))) | inr out ↦ out ],
      λ same. false≢true (sym h ∙ subst (λ (l : List ℕ). is_in x l ≡ true) (sym more) (in_right x (take k places) (p ∷ []) (or_left (nat_eq x p) false (eq-eqb x p same)))),
    )

    still : is_new (status_of statuses' p) ≡ false
    still = elim (in_or_out p (take k places)) [ inl in' ↦ ap is_new (is.inside p in') | inr out ↦ ap is_new (is.outside p out) ∙ come ]

-- ---- standings by their parts

pub same_standing : (s t : Standing) → s.statuses ≡ t.statuses → s.marks ≡ t.marks → s.found ≡ t.found → s.path ≡ t.path → s.pending ≡ t.pending → s.begins ≡ t.begins → s ≡ t
same_standing s t a b c d e f = λ i. record { statuses = a i; marks = b i; found = c i; path = d i; pending = e i; begins = f i }

-- a list of which the last element is known
pub last_apart : (xs : List (ℕ × ℕ)) (x : ℕ × ℕ) → slice_get xs (length xs - 1) ≡ Some x → xs ≡ take (length xs - 1) xs ++ x ∷ []
last_apart [] x h = absurd cc
last_apart (y ∷ xs) x h = by (cut (y ∷ xs) (omega arith))
  where
    cut : (ys : List (ℕ × ℕ)) → 0 < length ys → (zs : List (ℕ × ℕ)) × (z : ℕ × ℕ) × (ys ≡ zs ++ z ∷ [])
    cut [] low = absurd (omega arith)
    cut (z ∷ []) low = ([], z, refl)
    cut (z ∷ w ∷ ys) low = let rest = cut (w ∷ ys) (omega arith) in (z ∷ rest.0, rest.1, ap (λ (l : List (ℕ × ℕ)). z ∷ l) rest.2)

    by : (zs : List (ℕ × ℕ)) × (z : ℕ × ℕ) × (y ∷ xs ≡ zs ++ z ∷ []) → y ∷ xs ≡ take (length (y ∷ xs) - 1) (y ∷ xs) ++ x ∷ []
    by parts =
        let zs : List (ℕ × ℕ) = parts.0 in
        let z : ℕ × ℕ = parts.1 in
        let is : y ∷ xs ≡ zs ++ z ∷ [] = parts.2 in
        let end : Some z ≡ Some x = sym (last_of (ℕ × ℕ) zs z) ∙ ap (λ (l : List (ℕ × ℕ)). slice_get l (length l - 1)) (sym is) ∙ h in
        let same : z ≡ x = cc in
        let front : take (length (zs ++ z ∷ []) - 1) (zs ++ z ∷ []) ≡ zs = take_at zs (z ∷ []) (length (zs ++ z ∷ []) - 1) (omega (arith, length_push zs z)) in
        let all : zs ++ z ∷ [] ≡ take (length (zs ++ z ∷ []) - 1) (zs ++ z ∷ []) ++ x ∷ [] = ap (λ (l : List (ℕ × ℕ)). l ++ z ∷ []) (sym front) ∙ ap (λ (w : ℕ × ℕ). take (length (zs ++ z ∷ []) - 1) (zs ++ z ∷ []) ++ w ∷ []) same in
        subst (λ (l : List (ℕ × ℕ)). l ≡ take (length l - 1) l ++ x ∷ []) (sym is) all

pub not_new : (s : Status) → s ≢ New → is_new s ≡ false
not_new New h = absurd (h refl)
not_new (Open at) h = refl
not_new Closed h = refl

-- ---- the marks at the end

pub marks_alike : (net : Net) (search : Standing) → IsSearch net none_seen search → ((x : ℕ) → x < net.count → shut search.statuses x ≡ true) → (a b : ℕ) → a < net.count → b < net.count → nat_eq (get_or search.marks a 0) (get_or search.marks b 0) ≡ (reaches net.arcs a b && reaches net.arcs b a)
marks_alike net search is all a b low_a low_b =
    one_test (nat_eq (get_or search.marks a 0) (get_or search.marks b 0)) (reaches net.arcs a b && reaches net.arcs b a)
    (λ h. let same : get_or search.marks a 0 ≡ get_or search.marks b 0 = eqb-true (get_or search.marks a 0) (get_or search.marks b 0) h in
    and_true (reaches net.arcs a b) (reaches net.arcs b a)
    (leads_reaches net.arcs a b (is.marked.alike a b (all a low_a) (all b low_b) same))
    (leads_reaches net.arcs b a (is.marked.alike b a (all b low_b) (all a low_a) (sym same))))
    (λ h. let parts = both (reaches net.arcs a b) (reaches net.arcs b a) h in
    eq-eqb (get_or search.marks a 0) (get_or search.marks b 0)
    (is.marked.together a b (all a low_a) (all b low_b) (reaches_leads net.arcs a b parts.0) (reaches_leads net.arcs b a parts.1)))

pub marks_fall : (net : Net) (search : Standing) → AreWithin net.count net.arcs → IsSearch net none_seen search → ((x : ℕ) → x < net.count → shut search.statuses x ≡ true) → (a b : ℕ) → needs net.arcs a b ≡ true → get_or search.marks b 0 ≤ get_or search.marks a 0
marks_fall net search within is all a b need =
    let low : a < net.count = (holds_of_arc (λ a b. (a < net.count) × (b < net.count)) net.arcs (recursion_from_All (λ arc. (arc.0 < net.count) × (arc.1 < net.count)) net.arcs within) a b need).0 in
    is.marked.falling a b need (all a low)

pub no_last : (xs : List (ℕ × ℕ)) → slice_get xs (length xs - 1) ≡ None → length xs ≡ 0
no_last [] h = refl
no_last (y ∷ xs) h = by (cut (y ∷ xs) (omega arith))
  where
    cut : (ys : List (ℕ × ℕ)) → 0 < length ys → (zs : List (ℕ × ℕ)) × (z : ℕ × ℕ) × (ys ≡ zs ++ z ∷ [])
    cut [] low = absurd (omega arith)
    cut (z ∷ []) low = ([], z, refl)
    cut (z ∷ w ∷ ys) low = let rest = cut (w ∷ ys) (omega arith) in (z ∷ rest.0, rest.1, ap (λ (l : List (ℕ × ℕ)). z ∷ l) rest.2)

    by : (zs : List (ℕ × ℕ)) × (z : ℕ × ℕ) × (y ∷ xs ≡ zs ++ z ∷ []) → length (y ∷ xs) ≡ 0
    by parts =
        let end : Some parts.1 ≡ None = sym (last_of (ℕ × ℕ) parts.0 parts.1) ∙ ap (λ (l : List (ℕ × ℕ)). slice_get l (length l - 1)) (sym parts.2) ∙ h in
        absurd cc
