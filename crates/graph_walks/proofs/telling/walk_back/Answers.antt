use Rattle.std.proofs.Common.{◌≡◌, ℕ, ◌+◌, ◌<◌, ◌++◌, Bool, true, false, List, [], ◌∷◌, length, map, set, replicate, Vec, Global, sym, ap, subst, ◌∙◌, arith}
use Rattle.std.specs.Vec.{with_items}
use Rattle.std.proofs.lemmas.List.{nil_from_length, with_items_is}
use Rattle.std.proofs.lemmas.Result.{IfOk-weaker}
use Rattle.graph_walks.specs.Arcs.{Arc, AreWithin}
use Rattle.graph_walks.specs.Telling.{Visits, IsRound, told_cycle}
use Rattle.graph_walks.proofs.Children.{child}
use Rattle.graph_walks.proofs.Walked.{round_is, told_begins, IsWalk, IsLastStep, last_step, start_low, walk_starts, walk_back', walk_on, walk_told, work_back, work_on, walk_work, needed_some, needed_none, child_low, no_end}
use Rattle.graph_walks.proofs.telling.walk_back.Goals as goal

pub index_mut-requires : goal.index_mut-requires
index_mut-requires c =
    let low : c.args.start < c.args.arcs.now.count = start_low c.args.arcs.now.count c.args.arcs.now.arcs c.args.start c.requires in
    omega (arith, c.in_ok-visited.ensures.len, c.count.ensures.count)

pub loop-step-init : goal.loop-step-init
loop-step-init c =
    let n : ℕ = c.args.arcs.now.count in
    let low : c.args.start < n = start_low n c.args.arcs.now.arcs c.args.start c.requires in
    let path : c.push.new.self.items ≡ (c.args.start, 0) ∷ [] = c.in_ok-push.ensures.items ∙ ap (λ (l : List (ℕ × ℕ)). l ++ (c.args.start, 0) ∷ []) c.new-path.ensures.items in
    let new : c.in_ok-visited.visited.items ≡ replicate n false = c.in_ok-visited.ensures.items_if_clones_equal (λ y e. e) ∙ ap (λ (k : ℕ). replicate k false) c.count.ensures.count in
    subst (λ (l : List (ℕ × ℕ)). IsWalk n c.args.arcs.now.arcs c.args.start (set c.in_ok-visited.visited.items c.args.start true) l) (sym path) (walk_starts n c.args.arcs.now.arcs c.args.start c.in_ok-visited.visited.items low new)

pub needed-requires : goal.needed-requires
needed-requires c =
    (last_step c.args.arcs.now.count c.args.arcs.now.arcs c.args.start c.loop-step.visited.items c.loop-step.path.items c.pop.new.self.items c.in-Some.step.0 c.in-Some.step.1 c.in-Some.ensures.items c.loop-step.invariant).place_low

pub loop-step-smaller-in_default-needed : goal.loop-step-smaller-in_default-needed
loop-step-smaller-in_default-needed c =
    work_back c.args.arcs.now.arcs c.loop-step.visited.items c.loop-step.path.items c.pop.new.self.items c.in-Some.step.0 c.in-Some.step.1 c.in-Some.ensures.items

pub loop-step-preserved-in_default-needed : goal.loop-step-preserved-in_default-needed
loop-step-preserved-in_default-needed c =
    let n : ℕ = c.args.arcs.now.count in
    let arcs : List Arc = c.args.arcs.now.arcs in
    let last : IsLastStep n arcs c.args.start c.loop-step.visited.items c.pop.new.self.items c.in-Some.step.0 c.in-Some.step.1 = last_step n arcs c.args.start c.loop-step.visited.items c.loop-step.path.items c.pop.new.self.items c.in-Some.step.0 c.in-Some.step.1 c.in-Some.ensures.items c.loop-step.invariant in
    walk_back' n arcs c.args.start c.loop-step.visited.items c.pop.new.self.items c.in-Some.step.0 c.in-Some.step.1 c.requires (needed_none arcs c.in-Some.step.0 c.in-Some.step.1 (sym c.needed.ensures.value ∙ c.in_default-needed.is)) last

pub returns-then-next-start : goal.returns-then-next-start
returns-then-next-start c =
    let n : ℕ = c.args.arcs.now.count in
    let arcs : List Arc = c.args.arcs.now.arcs in
    let within : AreWithin n arcs = subst (λ (k : ℕ). AreWithin k arcs) c.count.ensures.count c.count.ensures.within in
    let last : IsLastStep n arcs c.args.start c.loop-step.visited.items c.pop.new.self.items c.in-Some.step.0 c.in-Some.step.1 = last_step n arcs c.args.start c.loop-step.visited.items c.loop-step.path.items c.pop.new.self.items c.in-Some.step.0 c.in-Some.step.1 c.in-Some.ensures.items c.loop-step.invariant in
    let next = needed_some arcs c.in-Some.step.0 c.in-Some.step.1 c.in-Some-needed.next (sym c.needed.ensures.value ∙ c.in-Some-needed.is) in
    let told = walk_told n arcs c.args.start c.loop-step.visited.items c.pop.new.self.items c.in-Some.step.0 c.in-Some.step.1 within c.count.ensures.rising c.requires last next.0 (next.1 ∙ c.if-next-start.true) in
    let path : c.deref.result.now ≡ c.pop.new.self.items ++ (c.in-Some.step.0, c.in-Some.step.1 + 1) ∷ [] = c.deref.ensures.value ∙ c.in_ok-push-2.ensures.items in
    let cycle : (v : Vec ℕ Global) → v.items ≡ map (λ (step : ℕ × ℕ). step.0) c.deref.result.now ++ c.args.start ∷ [] → v.items ≡ told_cycle n arcs = λ v is. is ∙ ap (λ (l : List (ℕ × ℕ)). map (λ (step : ℕ × ℕ). step.0) l ++ c.args.start ∷ []) path ∙ told in
    record {
      value = IfOk-weaker c.cycle_of.result (λ (v : Vec ℕ Global). v.items ≡ map (λ (step : ℕ × ℕ). step.0) c.deref.result.now ++ c.args.start ∷ []) (λ (v : Vec ℕ Global). v.items ≡ told_cycle n arcs) cycle c.cycle_of.ensures;
      back = IfOk-weaker c.cycle_of.result (λ (v : Vec ℕ Global). v.items ≡ map (λ (step : ℕ × ℕ). step.0) c.deref.result.now ++ c.args.start ∷ []) (λ (v : Vec ℕ Global). IsRound v.items)
          (λ v is. round_is (map (λ (step : ℕ × ℕ). step.0) c.deref.result.now) _ v.items c.args.start is (cycle v is ∙ told_begins n arcs c.args.start c.requires)) c.cycle_of.ensures;
    }

pub visit-requires : goal.visit-requires
visit-requires c =
    let n : ℕ = c.args.arcs.now.count in
    let arcs : List Arc = c.args.arcs.now.arcs in
    let within : AreWithin n arcs = subst (λ (k : ℕ). AreWithin k arcs) c.count.ensures.count c.count.ensures.within in
    let next = needed_some arcs c.in-Some.step.0 c.in-Some.step.1 c.in-Some-needed.next (sym c.needed.ensures.value ∙ c.in-Some-needed.is) in
    let low : c.in-Some-needed.next < n = subst (λ (k : ℕ). k < n) next.1 (child_low n arcs c.in-Some.step.0 c.in-Some.step.1 within next.0) in
    let long : length c.deref_mut.result.now ≡ n = ap length c.deref_mut.ensures.value ∙ c.loop-step.invariant.count_is in
    omega arith

pub loop-step-smaller : goal.loop-step-smaller
loop-step-smaller c =
    let n : ℕ = c.args.arcs.now.count in
    let arcs : List Arc = c.args.arcs.now.arcs in
    let within : AreWithin n arcs = subst (λ (k : ℕ). AreWithin k arcs) c.count.ensures.count c.count.ensures.within in
    let next = needed_some arcs c.in-Some.step.0 c.in-Some.step.1 c.in-Some-needed.next (sym c.needed.ensures.value ∙ c.in-Some-needed.is) in
    let low : c.in-Some-needed.next < n = subst (λ (k : ℕ). k < n) next.1 (child_low n arcs c.in-Some.step.0 c.in-Some.step.1 within next.0) in
    let count : length c.loop-step.visited.items ≡ n = c.loop-step.invariant.count_is in
    let goes : Visits c.in-Some-needed.next c.loop-step.visited.items (c.pop.new.self.items ++ (c.in-Some.step.0, c.in-Some.step.1 + 1) ∷ []) c.visit.new.visited c.visit.new.path.items =
    subst (λ (l : List Bool). Visits c.in-Some-needed.next l (c.pop.new.self.items ++ (c.in-Some.step.0, c.in-Some.step.1 + 1) ∷ []) c.visit.new.visited c.visit.new.path.items) c.deref_mut.ensures.value
    (subst (λ (l : List (ℕ × ℕ)). Visits c.in-Some-needed.next c.deref_mut.result.now l c.visit.new.visited c.visit.new.path.items) c.in_ok-push-2.ensures.items c.in_ok-visit.ensures) in
    let same : (with_items c.loop-step.visited c.visit.new.visited).items ≡ c.visit.new.visited = with_items_is c.loop-step.visited c.visit.new.visited (c.visit.auto.visited ∙ c.deref_mut.ensures.len) in
    subst (λ (l : List Bool). walk_work arcs l c.visit.new.path.items < walk_work arcs c.loop-step.visited.items c.loop-step.path.items) (sym same)
    (work_on n arcs c.args.start c.loop-step.visited.items c.loop-step.path.items c.pop.new.self.items c.in-Some.step.0 c.in-Some.step.1 c.in-Some-needed.next c.visit.new.visited c.visit.new.path.items c.in-Some.ensures.items (omega arith) next.0 goes)

pub loop-step-preserved : goal.loop-step-preserved
loop-step-preserved c =
    let n : ℕ = c.args.arcs.now.count in
    let arcs : List Arc = c.args.arcs.now.arcs in
    let within : AreWithin n arcs = subst (λ (k : ℕ). AreWithin k arcs) c.count.ensures.count c.count.ensures.within in
    let last : IsLastStep n arcs c.args.start c.loop-step.visited.items c.pop.new.self.items c.in-Some.step.0 c.in-Some.step.1 = last_step n arcs c.args.start c.loop-step.visited.items c.loop-step.path.items c.pop.new.self.items c.in-Some.step.0 c.in-Some.step.1 c.in-Some.ensures.items c.loop-step.invariant in
    let next = needed_some arcs c.in-Some.step.0 c.in-Some.step.1 c.in-Some-needed.next (sym c.needed.ensures.value ∙ c.in-Some-needed.is) in
    let goes : Visits c.in-Some-needed.next c.loop-step.visited.items (c.pop.new.self.items ++ (c.in-Some.step.0, c.in-Some.step.1 + 1) ∷ []) c.visit.new.visited c.visit.new.path.items =
    subst (λ (l : List Bool). Visits c.in-Some-needed.next l (c.pop.new.self.items ++ (c.in-Some.step.0, c.in-Some.step.1 + 1) ∷ []) c.visit.new.visited c.visit.new.path.items) c.deref_mut.ensures.value
    (subst (λ (l : List (ℕ × ℕ)). Visits c.in-Some-needed.next c.deref_mut.result.now l c.visit.new.visited c.visit.new.path.items) c.in_ok-push-2.ensures.items c.in_ok-visit.ensures) in
    let child_goes : Visits (child arcs c.in-Some.step.0 c.in-Some.step.1) c.loop-step.visited.items (c.pop.new.self.items ++ (c.in-Some.step.0, c.in-Some.step.1 + 1) ∷ []) c.visit.new.visited c.visit.new.path.items = subst (λ (k : ℕ). Visits k c.loop-step.visited.items (c.pop.new.self.items ++ (c.in-Some.step.0, c.in-Some.step.1 + 1) ∷ []) c.visit.new.visited c.visit.new.path.items) (sym next.1) goes in
    let same : (with_items c.loop-step.visited c.visit.new.visited).items ≡ c.visit.new.visited = with_items_is c.loop-step.visited c.visit.new.visited (c.visit.auto.visited ∙ c.deref_mut.ensures.len) in
    subst (λ (l : List Bool). IsWalk n arcs c.args.start l c.visit.new.path.items) (sym same)
    (walk_on n arcs c.args.start c.loop-step.visited.items c.pop.new.self.items c.in-Some.step.0 c.in-Some.step.1 c.visit.new.visited c.visit.new.path.items within last next.0 (λ back. c.if-next-start.false (sym next.1 ∙ back)) child_goes)

pub returns : goal.returns
returns c =
    absurd (no_end c.args.arcs.now.count c.args.arcs.now.arcs c.args.start c.loop-step.visited.items c.loop-step.path.items c.loop-step.invariant (nil_from_length c.loop-step.path.items (sym c.loop-step.path.ok.0 ∙ c.in_default.ensures.cases.0)))
