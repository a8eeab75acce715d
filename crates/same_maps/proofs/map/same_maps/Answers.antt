use Rattle.std.proofs.Common.{◌≡◌, Option, Some, IsSome, is_some, true≢false, sym, ap, ◌∙◌}
use Rattle.std.specs.FinMap.{get}
use Rattle.cat_model.specs.declared.value.Value.{Value}
use Rattle.cat_model.specs.Values.{Named}
use Rattle.same_maps.proofs.Keys.{all_got, got_all, same_maps}
use Rattle.same_maps.proofs.map.same_maps.Goals as goal

pub returns-then-are_all_in : goal.returns-then-are_all_in
returns-then-are_all_in c =
    let a = c.args.a.now in
    let b = c.args.b.now in (
      λ yes. same_maps a b
          (all_got (λ k v. get b k ≡ Some v) a c.iter.result c.iter.ensures.seen (c.are_all_in.ensures.0 c.if-are_all_in.true))
          (all_got (λ k v. IsSome (get a k)) b c.iter-then-are_all_in.result c.iter-then-are_all_in.ensures.seen (c.are_keys_in.ensures.0 yes)),
      λ same. c.are_keys_in.ensures.1 (got_all (λ k v. IsSome (get a k)) b c.iter-then-are_all_in.result c.iter-then-are_all_in.ensures.seen c.iter-then-are_all_in.ensures.distinct (λ k v is. ap (λ (o : Option Value). is_some o) (ap (λ (m : Named). get m k) same ∙ is))),
    )

pub returns-else-are_all_in : goal.returns-else-are_all_in
returns-else-are_all_in c =
    let a = c.args.a.now in
    let b = c.args.b.now in (
      λ yes. absurd (true≢false (sym yes ∙ c.if-are_all_in.false)),
      λ same. c.are_all_in.ensures.1 (got_all (λ k v. get b k ≡ Some v) a c.iter.result c.iter.ensures.seen c.iter.ensures.distinct (λ k v is. ap (λ (m : Named). get m k) (sym same) ∙ is)),
    )
