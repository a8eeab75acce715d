use Rattle.cat_book.proofs.Meeting.{meets, met}
use Rattle.table_laws.proofs.laws.tables_without_faults_meet_their_rules.Goals as goal

pub returns : goal.returns
returns g c = λ rules cat rows. (meets rules cat rows, met rules cat rows)
