use Rattle.cat_rows.proofs.CellLemmas.{cell_of-spelled, cell_of-kind, cell_can_be_written}
use Rattle.cat_rows.proofs.WritingLemmas.{written_cell}
use Rattle.cat_rows.proofs.laws.one_spelling_a_cell.Goals as goal

pub returns : goal.returns
returns c = record {
  written = written_cell c.tests_are_exact.ensures.name c.written_list_reads.ensures;
  only = cell_of-spelled;
  kind = cell_of-kind;
  cell = cell_can_be_written c.tests_are_exact.ensures.name c.read_list_can_be_written.ensures;
}
