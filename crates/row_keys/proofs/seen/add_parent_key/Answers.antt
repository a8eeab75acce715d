-- The set has one more key.
use Rattle.std.proofs.Common.{Bool, true, cond, nat_eq, sym, ap, ◌∙◌}
use Rattle.std.specs.Cmp.Lexicographic.{pointwise}
use Rattle.row_keys.proofs.KnownKeys.{one_more_parent}
use Rattle.row_keys.proofs.seen.add_parent_key.Goals as goal

pub returns : goal.returns
returns c = λ keys among q. c.in_ok-insert.ensures.updates.0 q ∙ ap (λ (b : Bool). cond (pointwise (pointwise nat_eq) c.args.key q) true b) (among q) ∙ sym (one_more_parent keys c.args.key q)
