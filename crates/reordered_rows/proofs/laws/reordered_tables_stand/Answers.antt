use Rattle.reordered_rows.proofs.Kept.{stay_kept}
use Rattle.reordered_rows.proofs.Tables.{all_stand}
use Rattle.reordered_rows.proofs.laws.reordered_tables_stand.Goals as goal

pub returns-clause-stand : goal.returns-clause-stand
returns-clause-stand c = λ texts named oids current depends cat put export sound own well stand again. all_stand texts named sound oids own current depends cat put well stand export again

pub returns-clause-kept : goal.returns-clause-kept
returns-clause-kept c = λ texts named oids current depends cat put export sound own well stand again kept. stay_kept texts named sound oids own current depends cat put well stand export again kept
