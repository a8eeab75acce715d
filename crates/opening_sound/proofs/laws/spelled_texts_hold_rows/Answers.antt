use Rattle.opening_sound.proofs.Holding.{hold_rows}
use Rattle.opening_sound.proofs.Made.{made_held}
use Rattle.opening_sound.proofs.laws.spelled_texts_hold_rows.Goals as goal

pub returns-clause-spelled : goal.returns-clause-spelled
returns-clause-spelled c = λ good cat texts well sound spelled. hold_rows good cat well texts sound spelled c.written_rows_read.ensures

pub returns-clause-exported : goal.returns-clause-exported
returns-clause-exported c = λ opening named ids number d cat texts can among of. made_held opening named can ids number d.datname cat texts of (can.started d among) c.written_rows_read.ensures
