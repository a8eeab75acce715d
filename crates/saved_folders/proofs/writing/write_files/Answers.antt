use Rattle.std.proofs.Common.{[], ◌∷◌}
use Rattle.std.proofs.lemmas.Result.{on_err_weaker, IfOk-weaker}
use Rattle.tool_words.proofs.Lining.{always_err}
use Rattle.saved_folders.specs.Folders.{front_files, marker_written, texts_with}
use Rattle.saved_folders.proofs.Saved.{part_of_front, part_of_rest, both_saved}
use Rattle.saved_folders.proofs.writing.write_files.Goals as goal

pub returns-in_err-write_front-clause-err : goal.returns-in_err-write_front-clause-err
returns-in_err-write_front-clause-err g c =
    let texts = texts_with c.args.rows.now c.args.oids.now c.args.tables.now in
    always_err c.from_residual.result (part_of_front (front_files c.args.folder.now texts) (marker_written c.args.folder.now ∷ []) _ _ c.in_err-write_front.ensures.err)

pub returns-clause-err : goal.returns-clause-err
returns-clause-err g c =
    let texts = texts_with c.args.rows.now c.args.oids.now c.args.tables.now in
    on_err_weaker c.write_in.result (part_of_rest (front_files c.args.folder.now texts) (marker_written c.args.folder.now ∷ []) _ _ _ c.in_ok-write_front.ensures.ok) c.write_in.ensures.err

pub returns-clause-ok : goal.returns-clause-ok
returns-clause-ok g c =
    let texts = texts_with c.args.rows.now c.args.oids.now c.args.tables.now in
    IfOk-weaker c.write_in.result _ _ (λ _ h. both_saved (front_files c.args.folder.now texts) (marker_written c.args.folder.now ∷ []) _ _ _ c.in_ok-write_front.ensures.ok h) c.write_in.ensures.ok
