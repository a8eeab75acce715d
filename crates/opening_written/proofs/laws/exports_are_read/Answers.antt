use Rattle.opening_written.proofs.Reading.{read_formed}
use Rattle.opening_written.proofs.laws.exports_are_read.Goals as goal

pub returns : goal.returns
returns c = λ opening named ids number d cat rows texts folder tree can among of are.
    c.written_tables_are_read.ensures cat rows texts folder tree are (c.spelled_texts_hold_rows.ensures.exported opening named ids number d cat rows can among of)
    (λ read again. read_formed opening named can ids number d.datname cat rows of (can.started d among) read again)
