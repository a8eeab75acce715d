use Rattle.opening_sound.proofs.Made.{made_named, made_formed}
use Rattle.opening_sound.proofs.laws.exported_tables_are_well_formed.Goals as goal

pub returns-clause-formed : goal.returns-clause-formed
returns-clause-formed c = λ opening named ids number d cat texts can among of. made_formed opening named can ids number d.datname cat texts of (can.started d among)

pub returns-clause-named : goal.returns-clause-named
returns-clause-named c = λ opening named ids number current cat texts can of. made_named opening named can ids number current cat texts of
