use Rattle.cat_sound.proofs.Tables.{create_table-keeps}
use Rattle.cat_sound.proofs.laws.create_table_keeps.Goals as goal

pub returns : goal.returns
returns c = λ texts named boot q columns checks sound boot_there fit_columns fit_checks. (create_table-keeps texts named sound boot q columns checks boot_there fit_columns fit_checks).is
