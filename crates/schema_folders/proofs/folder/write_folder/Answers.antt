use Rattle.std.proofs.Common.{[], ◌∷◌}
use Rattle.std.proofs.lemmas.Result.{on_err_weaker, IfOk-weaker}
use Rattle.schema_folders.specs.Folder.{table_files, marker_written}
use Rattle.tool_words.proofs.Lining.{always_err}
use Rattle.schema_folders.proofs.Saved.{part_of_front, part_of_rest, both_saved}
use Rattle.schema_folders.proofs.folder.write_folder.Goals as goal

pub returns-in_err-write_tables-clause-err : goal.returns-in_err-write_tables-clause-err
returns-in_err-write_tables-clause-err g c =
    always_err c.from_residual.result (part_of_front (table_files c.args.folder.now c.args.namespaces.now) (marker_written c.args.folder.now ∷ []) _ _ c.in_err-write_tables.ensures.err)

pub returns-clause-err : goal.returns-clause-err
returns-clause-err g c =
    on_err_weaker c.write_marker.result (part_of_rest (table_files c.args.folder.now c.args.namespaces.now) (marker_written c.args.folder.now ∷ []) _ _ _ c.in_ok-write_tables.ensures.ok) c.write_marker.ensures.err

pub returns-clause-ok : goal.returns-clause-ok
returns-clause-ok g c =
    IfOk-weaker c.write_marker.result _ _ (λ _ h. both_saved (table_files c.args.folder.now c.args.namespaces.now) (marker_written c.args.folder.now ∷ []) _ _ _ c.in_ok-write_tables.ensures.ok h) c.write_marker.ensures.ok
