use Rattle.std.proofs.Common.{rules}
use Rattle.dump_ports.specs.Tree.{bytes_at}
use Rattle.dump_ports.proofs.Reading.{next_told}
use Rattle.dump_ports.proofs.whole.read_sized.Goals as goal

pub pieces-preserved : goal.pieces-preserved
pieces-preserved g c = record {
  kept = search rules;
  read_count = search rules;
  write_count = search rules;
  limited = search rules;
  piece = search rules;
  told =
      next_told (g.F.Files.tree c.args.files.now) (λ t. bytes_at t c.args.name.now) c.pieces.text.items _ c.read_at.new.buffer _ c.len.result c.in_ok-n.n _ (rw (← c.len.ensures) at c.pieces.invariant.told)
      (rw c.pieces.invariant.kept at c.in_ok-n.ensures.told) c.in_ok-add_within.ensures.ok.0 (search rules) (search rules) (search rules);
}
