use Rattle.ddl_part_laws.proofs.NumberLaws.{whole_number_laws}
use Rattle.ddl_part_laws.proofs.laws.numbers_have_their_laws.Goals as goal

pub returns : goal.returns
returns c = whole_number_laws
