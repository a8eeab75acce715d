use Rattle.std.proofs.Common.{◌≡◌, ℕ, ◌+◌, ◌++◌, ◌∷◌, [], List, map, Vec, Global, sym, ap, ◌∙◌, arith}
use Rattle.std.specs.Prelude.{nat_eq}
use Rattle.std.specs.List.{dedup}
use Rattle.std.proofs.lemmas.List.{map-append}
use Rattle.std.proofs.lemmas.List.FromFn.{map-range_with_len_more}
use Rattle.graph_walks.specs.Arcs.{Arc, arcs_from}
use Rattle.dep_sort.proofs.ordering.all_ends.Goals as goal

pub loop-place-preserved : goal.loop-place-preserved
loop-place-preserved c =
    let place : ℕ = c.loop-place.place in
    let found : List (Vec ℕ Global) = c.loop-place.ends.items in
    let items : Vec ℕ Global → List ℕ = λ e. e.items in
    let ends : ℕ → List ℕ = λ p. dedup nat_eq (map (λ (arc : Arc). arc.1) (arcs_from p c.args.net.now.arcs)) in
    let at : 0 + place ≡ place = omega arith in
    ap (map items) c.in_ok-push.ensures.items
    ∙ map-append items found (c.in_ok-ends_of.field-0 ∷ [])
    ∙ ap (λ (l : List ℕ). map items found ++ l ∷ []) (c.in_ok-ends_of.ensures ∙ ap (λ (l : List Arc). dedup nat_eq (map (λ (arc : Arc). arc.1) l)) c.from.ensures.value)
    ∙ ap (λ (l : List (List ℕ)). l ++ ends place ∷ []) c.loop-place.invariant
    ∙ sym (map-range_with_len_more ends 0 place place at)
