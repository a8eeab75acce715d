use Rattle.std.proofs.Common.{[], ap, append_assoc, ◌∙◌}
use Rattle.std.specs.FinMap.{insert}
use Rattle.dump_ports.specs.Tree.{bytes_at}
use Rattle.dump_ports.proofs.Seen.{appended_to}
use Rattle.dump_ports.proofs.laws.pieces_make_the_text.Goals as goal

pub returns-clause-first : goal.returns-clause-first
returns-clause-first c = λ t name bytes. appended_to t name [] bytes

pub returns-clause-more : goal.returns-clause-more
returns-clause-more c = λ t name old bytes. appended_to t name old bytes

pub returns-clause-joined : goal.returns-clause-joined
returns-clause-joined c = λ t name bytes more. appended_to t name _ more ∙ ap (insert t name) (append_assoc (bytes_at t name) bytes more)
