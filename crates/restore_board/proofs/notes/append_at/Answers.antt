use Rattle.std.proofs.Common.{◌≡◌, length, Some, refl}
use Rattle.std.specs.List.{slice_get}
use Rattle.std.proofs.lemmas.Option.{slice_get_read}
use Rattle.std.proofs.lemmas.Result.{on_err_weaker, on_ok_weaker}
use Rattle.restore_board.proofs.Noting.{noted_set, same_set}
use Rattle.restore_board.proofs.notes.append_at.Goals as goal

pub returns-in-Some-clause-ok : goal.returns-in-Some-clause-ok
returns-in-Some-clause-ok c =
    let lists = c.args.lists.now.items in
    let was : slice_get lists c.args.entry ≡ Some c.in-Some.notes.now = slice_get_read lists (length lists) c.args.entry c.in-Some.notes.now refl c.requires c.in-Some.ensures.value in
    on_ok_weaker c.append_to.result (noted_set lists c.args.entry c.in-Some.notes.now c.append_to.new.notes c.args.own.now.items was) c.append_to.ensures.ok

pub returns-in-Some-clause-err : goal.returns-in-Some-clause-err
returns-in-Some-clause-err c =
    let lists = c.args.lists.now.items in
    let was : slice_get lists c.args.entry ≡ Some c.in-Some.notes.now = slice_get_read lists (length lists) c.args.entry c.in-Some.notes.now refl c.requires c.in-Some.ensures.value in
    on_err_weaker c.append_to.result (same_set lists c.args.entry c.in-Some.notes.now c.append_to.new.notes was) c.append_to.ensures.err
