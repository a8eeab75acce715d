use Rattle.std.proofs.Common.{[]}
use Rattle.serial_restore.proofs.Parents.{same_restore, same_stop}
use Rattle.serial_restore.proofs.laws.foreign_keys_change_nothing.Goals as goal

pub returns : goal.returns
returns c = record {
  serial = λ boot named es parents others. same_restore boot [] named [] es parents others;
  until = λ boot named es parents others. same_stop boot named [] es parents others;
}
