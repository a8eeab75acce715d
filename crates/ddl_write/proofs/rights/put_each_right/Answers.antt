use Rattle.std.proofs.Common.{◌++◌, List, ℕ, sym, ap, ◌∙◌, append_assoc}
use Rattle.std.proofs.lemmas.List.{append-nil}
use Rattle.ddl_write.proofs.CommaLemmas.{no_commas, no_word, one_right_at, any_right_at}
use Rattle.ddl_write.proofs.rights.put_each_right.Goals as goal

pub loop-right-init : goal.loop-right-init
loop-right-init c = (rw no_commas (sym (append-nil c.args.out.now.items)), sym no_word)

pub loop-right-preserved : goal.loop-right-preserved
loop-right-preserved c =
    let so_far = c.loop-right.invariant in (
      c.in_ok-any.ensures.ok
          ∙ rw (so_far.0, so_far.1) (append_assoc c.args.out.now.items _ _ ∙ ap (λ (l : List ℕ). c.args.out.now.items ++ l) (sym (one_right_at c.args.rights.now c.loop-right.right-index _ c.loop-right-test.true))),
      c.in_ok-any.ensures.any ∙ rw (so_far.1) (sym (any_right_at c.args.rights.now c.loop-right.right-index _ c.loop-right-test.true)),
    )
