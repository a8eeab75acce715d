use Rattle.std.proofs.Common.{◌≡◌, ℕ, ◌-◌, ◌<◌, List, length, get_or, Vec, Global, sym, ap, subst, ◌∙◌}
use Rattle.std.specs.Prelude.{All}
use Rattle.std.proofs.lemmas.List.Elements.{All-nil}
use Rattle.std.proofs.lemmas.Result.{IfOk-weaker}
use Rattle.graph_walks.specs.Telling.{told_cycle}
use Rattle.graph_walks.proofs.Mates.{told_none}
use Rattle.graph_walks.proofs.Orders.{told_within}
use Rattle.graph_walks.proofs.telling.tell_cycle.Goals as goal

pub returns-in_default : goal.returns-in_default
returns-in_default c = record {
  value = c.new.ensures.items ∙ told_none c.args.arcs.now.count c.args.arcs.now.arcs (sym c.start_of.ensures ∙ c.in_default.is);
  back = ap (λ (l : List ℕ). get_or l 0 0) c.new.ensures.items ∙ sym (ap (λ (l : List ℕ). get_or l (length l - 1) 0) c.new.ensures.items);
  within = subst (All (λ place. place < c.args.arcs.now.count)) (sym c.new.ensures.items) (All-nil (λ place. place < c.args.arcs.now.count));
}

pub returns-clause-within : goal.returns-clause-within
returns-clause-within c =
    IfOk-weaker c.walk_back.result (λ (v : Vec ℕ Global). v.items ≡ told_cycle c.args.arcs.now.count c.args.arcs.now.arcs) (λ (v : Vec ℕ Global). All (λ place. place < c.args.arcs.now.count) v.items)
    (λ v is. subst (All (λ place. place < c.args.arcs.now.count)) (sym is) (told_within c.args.arcs.now.count c.args.arcs.now.arcs)) c.walk_back.ensures.value
