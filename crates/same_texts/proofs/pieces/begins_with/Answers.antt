use Rattle.std.proofs.Common.{◌∙◌, rules, arith}
use Rattle.dump_ports.specs.Tree.{bytes_at}
use Rattle.same_texts.proofs.Parts.{one_more, all_found}
use Rattle.same_texts.proofs.pieces.begins_with.Goals as goal

pub pieces-preserved : goal.pieces-preserved
pieces-preserved g c = record {
  kept = search rules;
  read_count = search rules;
  write_count = search rules;
  within = omega (arith, c.are_next.ensures.within c.if-not-are_next.false, c.split_at.ensures.back_len, c.pieces.invariant.within);
  so_far = λ tree known.
      one_more (bytes_at tree c.args.name.now) c.args.text.now c.read_at.new.buffer c.split_at.result.1.now c.pieces.done c.in_ok-n.n (c.pieces.invariant.so_far tree known)
      (rw (c.pieces.invariant.kept ∙ known) at c.in_ok-n.ensures.told) c.split_at.ensures.back (c.are_next.ensures.same c.if-not-are_next.false);
}

pub returns-clause-same : goal.returns-clause-same
returns-clause-same g c = λ yes tree known.
    all_found (bytes_at tree c.args.name.now) c.args.text.now c.pieces.done (omega arith) c.pieces.invariant.within (c.pieces.invariant.so_far tree known)
