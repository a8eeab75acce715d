use Rattle.std.proofs.Common.{◌∙◌, rules, arith}
use Rattle.same_texts.specs.Alike.{IsData}
use Rattle.same_texts.proofs.Steps.{below_more}
use Rattle.same_texts.proofs.comparing.are_data.Goals as goal

pub loop-table-preserved : goal.loop-table-preserved
loop-table-preserved g c = record {
  kept = search rules;
  read_count = search rules;
  write_count = search rules;
  so_far = λ tree known.
      below_more (IsData c.args.folder.now tree c.args.rows.now) c.args.tables.now c.loop-table.table-index 0 c.loop-table-test.true (c.loop-table.invariant.so_far tree known) (c.in_ok-is_data.ensures.same c.if-not-branch.false tree (c.loop-table.invariant.kept ∙ known));
}

pub returns-clause-same : goal.returns-clause-same
returns-clause-same g c = λ yes tree known k d lt. c.loop-table.invariant.so_far tree known k d (omega arith)
