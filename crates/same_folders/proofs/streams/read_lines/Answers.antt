use Rattle.std.proofs.Common.{◌≤◌, arith}
use Rattle.same_folders.proofs.FileParts.{front_read}
use Rattle.same_folders.proofs.streams.read_lines.Goals as goal

pub returns-clause-front : goal.returns-clause-front
returns-clause-front g c = λ tree known.
    let within : c.whole_lines.result ≤ c.in_ok-n.n = omega (arith, c.whole_lines.ensures, c.split_at.ensures.front_len) in
    front_read _ c.read_at.new.buffer c.in_ok-n.n c.whole_lines.result within (rw known at c.in_ok-n.ensures.told)
