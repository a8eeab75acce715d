-- Places of objects, edges that links give one after another, and that these lead from one of the objects to another.
use Rattle.std.proofs.Common.{◌≡◌, ◌≢◌, ℕ, suc, ◌+◌, ◌<◌, ◌≤◌, ◌==◌, Bool, true, false, cond, List, [], ◌∷◌, ◌++◌, length, take, map, Option, Some, None, filter_map, All, IfSome, refl, sym, ap, append_assoc, ◌∙◌, arith}
use Rattle.std.specs.List.{cons_option, enumerate_from}
use Rattle.std.specs.Ordering.{eq_by_cmp}
use Rattle.std.proofs.Math.ListN.{get_or}
use Rattle.std.proofs.lemmas.List.{append-nil, take_more, length-take}
use Rattle.std.proofs.lemmas.List.Elements.{All-nil, All-cons}
use Rattle.std.proofs.lemmas.Bool.Decides.{nat_tests}
use Rattle.graph_parts.specs.declared.graph.Edge.{Edge}
use Rattle.graph_parts.specs.declared.object.Obj.{Obj}
use Rattle.graph_parts.specs.declared.object.ObjId.{ObjId}
use Rattle.graph_parts.specs.Parts.{LeadsAcross}
use Rattle.obj_graph.specs.Graphs.{numbered, place_of, between, edge_of, edges_between}
use Rattle.obj_graph.specs.Ids.{id_cmp}
use Rattle.obj_graph.specs.Links.{first_at}
use Rattle.obj_graph.specs.declared.link.Link.{Link}

-- ---- one after another

-- one more, where there is one, before the others
pub joined : {A : Type 0} (es : List A) (o : Option A) (ys : List A) → (es ++ filter_map (λ p. p) (o ∷ [])) ++ ys ≡ es ++ cons_option o ys
joined es None ys = ap (λ l. l ++ ys) (append-nil es)
joined es (Some x) ys = append_assoc es (x ∷ []) ys

-- ---- places

-- the ids of objects with their places, counted from a number
abbrev numbered_from : ℕ → List Obj → List (ObjId × ℕ)
numbered_from n objects = map (λ e. (e.1.id, e.0)) (enumerate_from n objects)

numbered_push : (n : ℕ) (objects : List Obj) (o : Obj) → numbered_from n (objects ++ o ∷ []) ≡ numbered_from n objects ++ (o.id, n + length objects) ∷ []
numbered_push n [] o = let e : n ≡ n + 0 = omega arith in ap (λ p. (o.id, p) ∷ []) e
numbered_push n (x ∷ xs) o =
    let e : n + 1 + length xs ≡ n + suc (length xs) = omega arith in
    ap (λ l. (x.id, n) ∷ l) (numbered_push (n + 1) xs o ∙ ap (λ p. numbered_from (n + 1) xs ++ (o.id, p) ∷ []) e)

-- the places with one more
pub numbered_more : (objects : List Obj) (i : ℕ) (o : Obj) → i < length objects → o ≡ get_or objects i o → numbered (take (i + 1) objects) ≡ numbered (take i objects) ++ (o.id, i) ∷ []
numbered_more objects i o h is =
    let at : 0 + length (take i objects) ≡ i = omega (arith, length-take i objects) in
    ap numbered (take_more objects i o h ∙ ap (λ r. take i objects ++ r ∷ []) (sym is))
    ∙ numbered_push 0 (take i objects) o
    ∙ ap (λ p. numbered (take i objects) ++ (o.id, p) ∷ []) at

-- what is found is the place of an object
place_within : (m n : ℕ) (objects : List Obj) (id : ObjId) → n + length objects ≤ m → IfSome (first_at id_cmp (numbered_from n objects) id) (λ p. p < m)
place_within m n [] id le = tt
place_within m n (o ∷ os) id le = by (eq_by_cmp id_cmp id o.id) (omega arith) (place_within m (n + 1) os id (omega arith))
  where
    by : (b : Bool) → n < m → IfSome (first_at id_cmp (numbered_from (n + 1) os) id) (λ p. p < m) → IfSome (cond b (Some n) (first_at id_cmp (numbered_from (n + 1) os) id)) (λ p. p < m)
    by true here rest = here
    by false here rest = rest

-- ---- edges

apart : (a b : ℕ) → a == b ≡ false → a ≢ b
apart a b e = grind (arith, nat_tests)

between_leads : (m : ℕ) (l : Link) (from to : Option ℕ) → IfSome from (λ p. p < m) → IfSome to (λ p. p < m) → IfSome (between l from to) (LeadsAcross m)
between_leads m l None to f t = tt
between_leads m l (Some a) None f t = tt
between_leads m l (Some a) (Some b) f t = by (a == b) refl
  where
    by : (s : Bool) → a == b ≡ s → IfSome (cond s None (Some (record { from = a; to = b; moves_to = l.moves_to; stays = l.stays }))) (LeadsAcross m)
    by true is = tt
    by false is = record { from = f; to = t; across = apart a b is }

edge_leads : (objects : List Obj) (l : Link) → IfSome (edge_of objects l) (LeadsAcross (length objects))
edge_leads objects l =
    let m = length objects in
    let within : (id : ObjId) → IfSome (place_of objects id) (λ p. p < m) = λ id. place_within m 0 objects id (omega arith) in
    between_leads m l (place_of objects l.from) (place_of objects l.to) (within l.from) (within l.to)

-- each edge leads from one of the objects to another
pub all_lead : (objects : List Obj) (ls : List Link) → All (LeadsAcross (length objects)) (edges_between objects ls)
unfolding edges_between
all_lead objects [] = All-nil (LeadsAcross (length objects))
all_lead objects (l ∷ ls) = by (edge_of objects l) (edge_leads objects l) (all_lead objects ls)
  where
    by : (o : Option Edge) → IfSome o (LeadsAcross (length objects)) → All (LeadsAcross (length objects)) (filter_map (edge_of objects) ls) → All (LeadsAcross (length objects)) (cons_option o (filter_map (edge_of objects) ls))
    by None one rest = rest
    by (Some e) one rest = All-cons (LeadsAcross (length objects)) e (filter_map (edge_of objects) ls) one rest
