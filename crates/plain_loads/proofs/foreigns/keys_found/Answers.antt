use Rattle.std.proofs.lemmas.Result.{IfOk-weaker}
use Rattle.plain_rows.specs.Lines.{line_keys}
use Rattle.plain_loads.proofs.Steps.{parents_at}
use Rattle.plain_loads.proofs.foreigns.keys_found.Goals as goal

pub returns : goal.returns
returns c =
    let child = c.args.child.now in
    let parent = c.args.parent.now in
    let keys = rw c.in-Some-2.is at c.in_ok-keys.ensures in
    IfOk-weaker c.keys_are_among.result _ _ (λ found among yes.
    parents_at child.columns.now child.names.now c.in-Some.place child.text.now parent.columns.now parent.names.now c.in-Some-one_place.parent_place parent.text.now c.in-Some.ensures c.in-Some-one_place.ensures
    (among yes (line_keys parent.columns.now c.in-Some-one_place.parent_place parent.text.now) keys))
    c.keys_are_among.ensures
