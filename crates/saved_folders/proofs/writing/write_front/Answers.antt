use Rattle.std.proofs.Common.{map}
use Rattle.std.proofs.lemmas.Result.{on_err_weaker, IfOk-weaker}
use Rattle.tool_words.proofs.Lining.{always_err}
use Rattle.saved_folders.specs.Folders.{data_text, data_written, table_written}
use Rattle.saved_folders.proofs.Saved.{part_of_front, part_of_rest, both_saved}
use Rattle.saved_folders.proofs.writing.write_front.Goals as goal

pub returns-in_err-write_data-clause-err : goal.returns-in_err-write_data-clause-err
returns-in_err-write_data-clause-err g c =
    always_err c.from_residual.result (part_of_front (map (data_written c.args.folder.now) (map (data_text c.args.rows.now) c.args.oids.now)) (map (table_written c.args.folder.now) c.args.tables.now) _ _ c.in_err-write_data.ensures.err)

pub returns-clause-err : goal.returns-clause-err
returns-clause-err g c =
    on_err_weaker c.write_tables.result (part_of_rest (map (data_written c.args.folder.now) (map (data_text c.args.rows.now) c.args.oids.now)) (map (table_written c.args.folder.now) c.args.tables.now) _ _ _ c.in_ok-write_data.ensures.ok) c.write_tables.ensures.err

pub returns-clause-ok : goal.returns-clause-ok
returns-clause-ok g c =
    IfOk-weaker c.write_tables.result _ _ (λ _ h. both_saved (map (data_written c.args.folder.now) (map (data_text c.args.rows.now) c.args.oids.now)) (map (table_written c.args.folder.now) c.args.tables.now) _ _ _ c.in_ok-write_data.ensures.ok h) c.write_tables.ensures.ok
