use Rattle.std.proofs.Common.{◌≡◌, List, [], ◌∷◌, None, Bor, option_map, sym, subst}
use Rattle.std.proofs.lemmas.Map.Iter.{rest_more, rest_all}
use Rattle.std.specs.Map.Iter.{deref_pair}
use Rattle.cat_model.specs.declared.key.Key.{Key}
use Rattle.cat_model.specs.declared.value.Value.{Value}
use Rattle.cat_same.proofs.Ahead.{IsSoFar, at_first, at_last, passed}
use Rattle.cat_same.proofs.compare.first_difference.Goals as goal

pub loop-key-init : goal.loop-key-init
loop-key-init c =
    let of = c.args.of.now in
    let other = c.args.other.now in
    subst (λ (es : List (Key × Value)). IsSoFar of other es None) (sym c.into_iter-key-iterator.ensures.into_iter_gives)
    (at_first of other c.iter-key-items.result c.iter-key-items.ensures.seen c.iter-key-items.ensures.distinct)

pub loop-key-preserved : goal.loop-key-preserved
loop-key-preserved c =
    let of = c.args.of.now in
    let other = c.args.other.now in
    let k = c.in-Some.key.now in
    let v = c.in-Some.value.now in
    let least = option_map (λ (j : Bor Key). j.now) c.loop-key.least in
    let ahead : c.loop-key.key-iterator ≡ (k, v) ∷ c.next.new.self = rest_more deref_pair c.loop-key.key-iterator c.next.new.self c.next.result (c.in-Some.key, c.in-Some.value) c.in-Some.is c.next.ensures.steps in
    passed of other k v c.next.new.self least _ (subst (λ (es : List (Key × Value)). IsSoFar of other es least) ahead c.loop-key.invariant) c.with_entry-least.ensures

pub returns : goal.returns
returns c =
    let of = c.args.of.now in
    let other = c.args.other.now in
    let least = option_map (λ (j : Bor Key). j.now) c.loop-key.least in
    let all : c.loop-key.key-iterator ≡ [] = rest_all deref_pair c.loop-key.key-iterator c.next.new.self c.next.result c.in-None.is c.next.ensures.steps in
    at_last of other least (subst (λ (es : List (Key × Value)). IsSoFar of other es least) all c.loop-key.invariant)
