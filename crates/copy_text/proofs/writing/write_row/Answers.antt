use Rattle.std.proofs.Common.{◌<◌, List, Result, Ok, Err, length}
use Rattle.std.specs.Result.{OnOk}
use Rattle.std.specs.List.{All}
use Rattle.copy_text.specs.Rows.{Field, IsField, SpellsRow, spell_row}
use Rattle.copy_text.proofs.SpellLemmas.{written_row}
use Rattle.copy_text.proofs.writing.write_row.Goals as goal

reads_back : {T E : Type 0} (r : Result T E) (row : List Field) → OnOk r (All IsField row) → OnOk r (0 < length row → SpellsRow row (spell_row row))
reads_back (Ok x) row each = λ some. written_row row (record { some = some; each = each })
reads_back (Err e) row each = tt

pub returns-else-is_err-clause-reads : goal.returns-else-is_err-clause-reads
returns-else-is_err-clause-reads c = reads_back c.write_line-written.result c.args.row.now c.write_line-written.ensures.fields
