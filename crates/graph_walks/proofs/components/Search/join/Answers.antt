use Rattle.std.proofs.Common.{◌≡◌, ℕ, ◌+◌, ◌-◌, ◌<◌, ◌≤◌, ◌++◌, List, [], ◌∷◌, length, take, None, sym, ap, ◌∙◌, arith}
use Rattle.std.specs.Prelude.{slice_get}
use Rattle.std.proofs.lemmas.List.{length_push}
use Rattle.graph_walks.specs.declared.components.Search.{Search}
use Rattle.graph_walks.specs.Searching.{standing}
use Rattle.graph_walks.proofs.Standings.{search_joined, search_found, empty_path, last_apart, no_last}
use Rattle.graph_walks.proofs.components.Search.join.Goals as goal

pub loop-group-preserved : goal.loop-group-preserved
loop-group-preserved c =
    let groups : List (ℕ × ℕ) = c.loop-group.self.groups.items in
    let x : ℕ × ℕ = c.in-Some.group in
    let left : take (length groups - 1) groups ≡ c.pop.new.self.items = ap (λ (k : ℕ). take (k - 1) groups) (sym c.loop-group.self.groups.ok.0) ∙ sym c.pop.ensures.rest in
    let apart : groups ≡ c.pop.new.self.items ++ x ∷ [] = last_apart groups x (sym c.in-Some.ensures) ∙ ap (λ (l : List (ℕ × ℕ)). l ++ x ∷ []) left in
    let long : length groups ≡ length c.pop.new.self.items + 1 = ap length apart ∙ length_push c.pop.new.self.items x in
    let before : length groups ≤ length c.args.self.now.groups.items = c.loop-group.invariant.fewer in
    record {
      looks = λ net l. search_joined net (standing c.loop-group.self) c.args.at c.pop.new.self.items x (c.loop-group.invariant.looks net l) apart c.if-group-at.false;
      fewer = omega arith;
      same = ap (λ (s : Search). record s { groups = c.pop.new.self }) c.loop-group.invariant.same;
      within = c.loop-group.invariant.within;
    }

pub returns-then-group-at-clause-stands : goal.returns-then-group-at-clause-stands
returns-then-group-at-clause-stands c =
    λ net l.
    let groups : List (ℕ × ℕ) = c.loop-group.self.groups.items in
    search_found net (standing c.loop-group.self) c.args.at (take (length groups - 1) groups) c.in-Some.group (c.loop-group.invariant.looks net l) (last_apart groups c.in-Some.group (sym c.in-Some.ensures)) c.if-group-at.true c.loop-group.invariant.within

pub returns-in_default-clause-stands : goal.returns-in_default-clause-stands
returns-in_default-clause-stands c =
    λ net l.
    let groups : List (ℕ × ℕ) = c.loop-group.self.groups.items in
    let none : slice_get groups (length groups - 1) ≡ None = sym c.last_group.ensures ∙ c.in_default.is in
    let path : c.loop-group.self.path.items ≡ [] = empty_path net _ (standing c.loop-group.self) (c.loop-group.invariant.looks net l).stands (no_last groups none) in
    let long : length c.loop-group.self.path.items ≡ 0 = ap length path in
    let within : c.args.at < length c.loop-group.self.path.items = c.loop-group.invariant.within in
    absurd (omega arith)
