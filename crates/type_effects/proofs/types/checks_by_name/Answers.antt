use Rattle.std.proofs.Common.{arith, ap, ◌∙◌}
use Rattle.std.specs.FinMap.{FinMap, insert}
use Rattle.cat_model.specs.Values.{Bytes, bytes_cmp}
use Rattle.type_effects.proofs.Named.{none, one_more}
use Rattle.type_effects.proofs.types.checks_by_name.Goals as goal

pub checks-init : goal.checks-init
checks-init c = record { named_is = c.new-named.ensures ∙ none c.args.checks.now; within = omega arith }

pub checks-preserved : goal.checks-preserved
checks-preserved c =
    let check = c.index-checks-left.result in
    record {
      named_is = c.in_ok-put_check.ensures
          ∙ ap (λ (m : FinMap bytes_cmp Bytes). insert m check.name check.text) c.checks.invariant.named_is
          ∙ one_more c.args.checks.now c.checks.left check c.checks-test.true c.checks.invariant.within c.index-checks-left.is;
      within = omega arith;
    }
