use Rattle.opening_written.proofs.Reading.{read_formed, read_same}
use Rattle.opening_written.proofs.laws.what_is_read_is_what_was_left.Goals as goal

pub returns-clause-formed : goal.returns-clause-formed
returns-clause-formed c = λ opening named ids number d cat rows read can among of again. read_formed opening named can ids number d.datname cat rows of (can.started d among) read again

pub returns-clause-same : goal.returns-clause-same
returns-clause-same c = λ opening named ids number d cat rows read can among of again. read_same opening named can ids number d.datname cat rows of (can.started d among) read again
