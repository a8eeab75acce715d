-- Objects that are made, by their ids.
use Rattle.std.proofs.Common.{◌≡◌, ℕ, ◌+◌, ◌<◌, ◌≤◌, Bool, true, false, true≢false, cond, List, [], ◌∷◌, ◌++◌, length, map, get_or, drop, Option, Some, None, is_some, inl, inr, BTreeMap, refl, sym, ap, subst, ◌∙◌, arith}
use Rattle.std.specs.Prelude.{◌&&◌, nat_eq, if◌then◌else◌}
use Rattle.std.specs.List.{position_from}
use Rattle.std.specs.Option.{option_map_or, option_and_then, IfSome}
use Rattle.std.specs.Ordering.{eq_by_cmp, is_eq, nat_cmp}
use Rattle.std.specs.Cmp.{tied_then, unsigned_tied}
use Rattle.std.specs.BTreeMap as tree
use Rattle.std.proofs.lemmas.Bool.{cases_Bool, eqb-true, eq-eqb, and_parts}
use Rattle.std.proofs.lemmas.Iterator.Adapters.{position_from-zero}
use Rattle.std.proofs.lemmas.List.{drop_more, drop_all, get_or-map, length-append}
use Rattle.graph_parts.specs.declared.object.Obj.{Obj}
use Rattle.graph_parts.specs.declared.object.ObjId.{ObjId}
use Rattle.graph_parts.specs.declared.graph.Edge.{Edge}
use Rattle.dep_sort.specs.Cut.{same_id, breaks, made_at, made_once, made_by, taker}
use Rattle.dep_sort.specs.Indexed.{id_order, IsIndexed}

same_ids : (a b : ObjId) → eq_by_cmp id_order a b ≡ same_id a b
same_ids a b =
    sym (tied_then (nat_cmp a.class b.class) (nat_cmp a.oid b.oid))
    ∙ ap (λ (t : Bool). t && is_eq (nat_cmp a.oid b.oid)) (unsigned_tied a.class b.class)
    ∙ ap (λ (t : Bool). nat_eq a.class b.class && t) (unsigned_tied a.oid b.oid)

pub same_ids_are : (a b : ObjId) → same_id a b ≡ true → a ≡ b
same_ids_are a b is =
    let parts = and_parts (nat_eq a.class b.class) (nat_eq a.oid b.oid) is in
    let class : a.class ≡ b.class = eqb-true a.class b.class parts.0 in
    let oid : a.oid ≡ b.oid = eqb-true a.oid b.oid parts.1 in
    ap (λ (n : ℕ). let i : ObjId = record { class = n; oid = a.oid } in i) class ∙ ap (λ (n : ℕ). let i : ObjId = record { class = b.class; oid = n } in i) oid

pub same_id_self : (a : ObjId) → same_id a a ≡ true
same_id_self a = rw (eq-eqb a.class a.class refl, eq-eqb a.oid a.oid refl) refl

-- ---- places among the objects

abbrev found : ObjId → ℕ → List Obj → Option ℕ
found id n made = position_from (λ (o : Obj). same_id id o.id) n made

pub at_is : (made : List Obj) (id : ObjId) → made_at made id ≡ position_from (λ (o : Obj). same_id id o.id) 0 made
unfolding made_at
at_is made id = position_from-zero (λ (o : Obj). same_id id o.id) made

found_push : (id : ObjId) (n : ℕ) (made : List Obj) (object : Obj) → found id n (made ++ object ∷ []) ≡ cond (is_some (found id n made)) (found id n made) (cond (same_id id object.id) (Some (n + length made)) None)
found_push id n [] object = let at : n ≡ n + 0 = omega arith in ap (λ (k : ℕ). cond (same_id id object.id) (Some k) None) at
found_push id n (o ∷ made) object =
    let at : n + 1 + length made ≡ n + length (o ∷ made) = omega arith in
    elim (cases_Bool (same_id id o.id)) [
      | inl is ↦ rw is refl
      | inr isnt ↦ rw isnt (found_push id (n + 1) made object ∙ ap (λ (k : ℕ). cond (is_some (found id (n + 1) made)) (found id (n + 1) made) (cond (same_id id object.id) (Some k) None)) at)
    ]

pub no_place : (p : Option ℕ) → is_some p ≡ false → p ≡ None
no_place None e = refl
no_place (Some n) e = absurd (true≢false e)

pub at_push : (made : List Obj) (object : Obj) (id : ObjId) → made_at (made ++ object ∷ []) id ≡ cond (is_some (made_at made id)) (made_at made id) (cond (same_id id object.id) (Some (length made)) None)
at_push made object id =
    let zero' : 0 + length made ≡ length made = omega arith in
    at_is (made ++ object ∷ []) id
    ∙ found_push id 0 made object
    ∙ ap (λ (p : Option ℕ). cond (is_some p) p (cond (same_id id object.id) (Some (0 + length made)) None)) (sym (at_is made id))
    ∙ ap (λ (k : ℕ). cond (is_some (made_at made id)) (made_at made id) (cond (same_id id object.id) (Some k) None)) zero'

either : (p : Option ℕ) → p ≡ cond (is_some p) p None
either None = refl
either (Some n) = refl

pub indexed_none : (places : BTreeMap ObjId ℕ) → ((id : ObjId) → tree.get id_order places id ≡ None) → IsIndexed [] places
unfolding made_at
indexed_none places none = λ id. none id

pub indexed_push : (made : List Obj) (places more : BTreeMap ObjId ℕ) (object : Obj) (n : ℕ) → IsIndexed made places → n ≡ length made → made_at made object.id ≡ None
    → ((q : ObjId) → tree.get id_order more q ≡ cond (eq_by_cmp id_order object.id q) (Some n) (tree.get id_order places q)) → IsIndexed (made ++ object ∷ []) more
indexed_push made places more object n indexed at free u q =
    u q
    ∙ ap (λ (b : Bool). cond b (Some n) (tree.get id_order places q)) (same_ids object.id q)
    ∙ ap (cond (same_id object.id q) (Some n)) (indexed q)
    ∙ elim (cases_Bool (same_id object.id q)) [
      | inl is ↦
          let same : object.id ≡ q = same_ids_are object.id q is in
          let none : made_at made q ≡ None = ap (made_at made) (sym same) ∙ free in
          let other : same_id q object.id ≡ true = ap (λ (i : ObjId). same_id q i) same ∙ same_id_self q in
          let here : made_at (made ++ object ∷ []) q ≡ Some (length made) = at_push made object q ∙ rw (none, other) refl in
          rw is (ap (λ (k : ℕ). Some k) at ∙ sym here)
      | inr isnt ↦
          let other : same_id q object.id ≡ false = elim (cases_Bool (same_id q object.id)) [
            | inl back ↦
                let same : q ≡ object.id = same_ids_are q object.id back in
                let there : same_id object.id q ≡ true = ap (λ (i : ObjId). same_id object.id i) same ∙ same_id_self object.id in
                absurd (true≢false (sym there ∙ isnt))
            | inr apart ↦ apart
          ] in
          rw isnt (either (made_at made q) ∙ sym (at_push made object q ∙ ap (λ (b : Bool). cond (is_some (made_at made q)) (made_at made q) (cond b (Some (length made)) None)) other))
    ]

-- ---- what is made

pub once_there : (made : List Obj) (object : Obj) → is_some (made_at made object.id) ≡ true → made ≡ made_once made object
unfolding made_once
once_there made object is = rw is refl

pub once_new : (made : List Obj) (object : Obj) → made_at made object.id ≡ None → made ++ object ∷ [] ≡ made_once made object
unfolding made_once
once_new made object is = rw is refl

pub made_more : (all edges : List Edge) (i : ℕ) (edge : Edge) (made : List Obj) → i < length edges → edge ≡ get_or edges i edge
    → made_by all (drop i edges) made ≡ made_by all (drop (i + 1) edges) (if breaks all edge then option_map_or (made_once made) edge.moves_to made else made)
unfolding made_by
made_more all edges i edge made low is =
    let cut : drop i edges ≡ edge ∷ drop (i + 1) edges = drop_more edges i edge low ∙ ap (λ (e : Edge). e ∷ drop (i + 1) edges) (sym is) in
    ap (λ (l : List Edge). made_by all l made) cut

pub made_all : (edges : List Edge) (i : ℕ) (made : List Obj) → length edges ≤ i → made ≡ made_by edges (drop i edges) made
unfolding made_by
made_all edges i made le = ap (λ (l : List Edge). made_by edges l made) (sym (drop_all i edges le))

-- whether the edge at a place breaks
pub breaks_at : (all edges : List Edge) (breaking : List Bool) (i : ℕ) (edge : Edge) (d : Bool) → breaking ≡ map (breaks all) edges → i < length edges → edge ≡ get_or edges i edge → get_or breaking i d ≡ breaks all edge
breaks_at all edges breaking i edge d are low is =
    ap (λ (l : List Bool). get_or l i d) are ∙ get_or-map (breaks all) edges i edge d low ∙ ap (breaks all) (sym is)

-- ---- no more are made than there are edges, and a place is that of one of them

once_few : (made : List Obj) (object : Obj) → length (made_once made object) ≤ length made + 1
unfolding made_once
once_few made object =
    elim (cases_Bool (is_some (made_at made object.id))) [
      | inl is ↦ rw is (omega arith)
      | inr isnt ↦ rw isnt (omega (arith, length-append made (object ∷ [])))
    ]

moved_few : (made : List Obj) (moves_to : Option Obj) → length (option_map_or (made_once made) moves_to made) ≤ length made + 1
moved_few made None = omega arith
moved_few made (Some object) = once_few made object

pub by_few : (all edges : List Edge) (made : List Obj) → length (made_by all edges made) ≤ length made + length edges
unfolding made_by
by_few all [] made = omega arith
by_few all (edge ∷ edges) made =
    elim (cases_Bool (breaks all edge)) [
      | inl is ↦
          rw is (
          let one : length (option_map_or (made_once made) edge.moves_to made) ≤ length made + 1 = moved_few made edge.moves_to in
          let rest : length (made_by all edges (option_map_or (made_once made) edge.moves_to made)) ≤ length (option_map_or (made_once made) edge.moves_to made) + length edges = by_few all edges (option_map_or (made_once made) edge.moves_to made) in
          omega arith
          )
      | inr isnt ↦ rw isnt (let rest : length (made_by all edges made) ≤ length made + length edges = by_few all edges made in omega arith)
    ]

found_low : (id : ObjId) (n : ℕ) (made : List Obj) → IfSome (found id n made) (λ at. at < n + length made)
found_low id n [] = tt
found_low id n (o ∷ made) =
    elim (cases_Bool (same_id id o.id)) [
      | inl is ↦ rw is (omega arith)
      | inr isnt ↦
          let at : n + 1 + length made ≡ n + length (o ∷ made) = omega arith in
          rw isnt (subst (λ (k : ℕ). IfSome (found id (n + 1) made) (λ p. p < k)) at (found_low id (n + 1) made))
    ]

pub at_low : (made : List Obj) (id : ObjId) → IfSome (made_at made id) (λ at. at < length made)
at_low made id =
    let zero' : 0 + length made ≡ length made = omega arith in
    subst (λ (p : Option ℕ). IfSome p (λ at. at < length made)) (sym (at_is made id)) (subst (λ (k : ℕ). IfSome (found id 0 made) (λ p. p < k)) zero' (found_low id 0 made))

taken_low : (made : List Obj) (moves_to : Option Obj) → IfSome (option_and_then (λ (object : Obj). made_at made object.id) moves_to) (λ at. at < length made)
taken_low made None = tt
taken_low made (Some object) = at_low made object.id

pub taker_low : (made : List Obj) (edge : Edge) → IfSome (taker made edge) (λ at. at < length made)
unfolding taker
taker_low made edge = taken_low made edge.moves_to
