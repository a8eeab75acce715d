use Rattle.dump_archives.proofs.PieceLemmas.{last_empty, last_full}
use Rattle.dump_archives.proofs.pack.last_piece.Goals as goal

pub returns-then-is_empty : goal.returns-then-is_empty
returns-then-is_empty c = last_empty c.args.run.now c.args.waiting.now.items c.is_empty.result c.is_empty.ensures c.if-is_empty.true

pub returns : goal.returns
returns c = last_full c.args.run.now c.args.waiting.now.items c.write_piece.new.out.items c.is_empty.result c.is_empty.ensures c.if-is_empty.false c.requires c.in_ok-write_piece.ensures.ok
