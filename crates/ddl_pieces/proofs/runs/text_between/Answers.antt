use Rattle.ddl_pieces.proofs.Common.{◌-◌}
use Rattle.ddl_pieces.proofs.RunSlices.{run_utf8}
use Rattle.ddl_pieces.proofs.runs.text_between.Goals as goal

pub valid_text-requires : goal.valid_text-requires
valid_text-requires c =
    rw (c.in_ok-extend_from_slice.ensures.items, c.new-bytes.ensures.items, c.source_between.ensures) (run_utf8 c.args.text.now c.args.pieces.now (c.args.end - c.args.from) c.args.from c.requires.sound)
