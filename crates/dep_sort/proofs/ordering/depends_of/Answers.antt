use Rattle.std.proofs.Common.{◌≡◌, ℕ, List, length, map, Vec, Global, sym, ap, ◌∙◌}
use Rattle.std.specs.Prelude.{nat_eq}
use Rattle.std.specs.List.{dedup, range_with_len}
use Rattle.std.proofs.lemmas.List.{length-map}
use Rattle.std.proofs.lemmas.List.FromFn.{length-map-range_with_len}
use Rattle.std.proofs.lemmas.Result.{IfOk-weaker}
use Rattle.graph_walks.specs.Arcs.{Arc, arcs_from}
use Rattle.dep_sort.specs.Ordering.{depends_of}
use Rattle.dep_sort.proofs.Depending.{depends_are}
use Rattle.dep_sort.proofs.ordering.depends_of.Goals as goal

abbrev items : Vec ℕ Global → List ℕ
items d = d.items

abbrev ends : List Arc → ℕ → List ℕ
ends arcs p = dedup nat_eq (map (λ (arc : Arc). arc.1) (arcs_from p arcs))

pub returns-clause-value : goal.returns-clause-value
returns-clause-value c =
    IfOk-weaker c.all_ends.result (λ (v : Vec (Vec ℕ Global) Global). map items v.items ≡ map (ends c.in_ok-net.net.arcs) (range_with_len 0 c.in_ok-net.net.count)) (λ (v : Vec (Vec ℕ Global) Global). map items v.items ≡ depends_of c.args.arcs.now c.args.places.now)
    (λ v is. is ∙ depends_are c.args.places.now c.args.arcs.now c.in_ok-net.net.arcs c.in_ok-net.net.count c.requires.distinct c.requires.places c.requires.within c.in_ok-net.ensures.count c.in_ok-net.ensures.alike c.all_ends.ensures.rising)
    c.all_ends.ensures.ends

pub returns-clause-count : goal.returns-clause-count
returns-clause-count c =
    IfOk-weaker c.all_ends.result (λ (v : Vec (Vec ℕ Global) Global). map items v.items ≡ map (ends c.in_ok-net.net.arcs) (range_with_len 0 c.in_ok-net.net.count)) (λ (v : Vec (Vec ℕ Global) Global). length v.items ≡ length c.args.places.now)
    (λ v is. sym (length-map v.items items) ∙ ap length is ∙ length-map-range_with_len (ends c.in_ok-net.net.arcs) 0 c.in_ok-net.net.count ∙ c.in_ok-net.ensures.count)
    c.all_ends.ensures.ends
