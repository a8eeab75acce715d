use Rattle.std.proofs.Common.{refl}
use Rattle.dump_files.proofs.NeededLemmas.{looks_begin}
use Rattle.dump_files.proofs.file.look_for.Goals as goal

pub loop-file-init : goal.loop-file-init
loop-file-init g c = record { kept = refl; read_count = refl; write_count = refl; told = λ tree is. looks_begin tree c.args.needed.now }
