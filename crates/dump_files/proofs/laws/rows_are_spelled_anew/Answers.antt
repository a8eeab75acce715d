use Rattle.data_rows.specs.Rows.{read_lines, rows_of}
use Rattle.dump_files.specs.Spelled.{spelled}
use Rattle.dump_files.proofs.LawLemmas.{spelled_whole, spelled_fault}
use Rattle.dump_files.proofs.laws.rows_are_spelled_anew.Goals as goal

pub returns-clause-rows : goal.returns-clause-rows
unfolding spelled rows_of
returns-clause-rows c = λ columns text rows is. spelled_whole columns 1 (read_lines text) rows is

pub returns-clause-fault : goal.returns-clause-fault
unfolding spelled rows_of
returns-clause-fault c = λ columns text first is. spelled_fault columns 1 (read_lines text) first is
