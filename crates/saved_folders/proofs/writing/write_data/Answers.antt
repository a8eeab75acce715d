use Rattle.std.proofs.Common.{get_or, rules, refl}
use Rattle.std.proofs.lemmas.List.{get_or_default}
use Rattle.tool_words.proofs.Lining.{always_err}
use Rattle.saved_folders.specs.Folders.{data_text, data_written}
use Rattle.saved_folders.proofs.Saved.{none_saved, more_saved, put_ended_on, put_all_saved}
use Rattle.saved_folders.proofs.writing.write_data.Goals as goal

pub loop-oid-init : goal.loop-oid-init
loop-oid-init g c = record { so_far = none_saved (λ oid. data_written c.args.folder.now (data_text c.args.rows.now oid)) c.args.oids.now _; read_count = refl; write_count = refl }

pub loop-oid-preserved : goal.loop-oid-preserved
loop-oid-preserved g c = record {
  so_far = more_saved (λ oid. data_written c.args.folder.now (data_text c.args.rows.now oid)) c.args.oids.now c.loop-oid.oid-index (get_or c.args.oids.now c.loop-oid.oid-index 0) _ _ _ c.loop-oid-test.true (get_or_default c.args.oids.now c.loop-oid.oid-index _ 0 c.loop-oid-test.true) c.loop-oid.invariant.so_far (rw c.text_of.ensures at c.in_ok-write_in.ensures.ok);
  read_count = search rules;
  write_count = search rules;
}

pub returns-in_err-write_in-clause-err : goal.returns-in_err-write_in-clause-err
returns-in_err-write_in-clause-err g c =
    always_err c.from_residual.result
    (put_ended_on (data_text c.args.rows.now) (data_written c.args.folder.now) c.args.oids.now c.loop-oid.oid-index (get_or c.args.oids.now c.loop-oid.oid-index 0) _ _ _ c.loop-oid-test.true (get_or_default c.args.oids.now c.loop-oid.oid-index _ 0 c.loop-oid-test.true) c.loop-oid.invariant.so_far (rw c.text_of.ensures at c.in_err-write_in.ensures.err))

pub returns-clause-ok : goal.returns-clause-ok
returns-clause-ok g c = put_all_saved (data_text c.args.rows.now) (data_written c.args.folder.now) c.args.oids.now c.loop-oid.oid-index _ _ c.loop-oid-test.false c.loop-oid.invariant.so_far
