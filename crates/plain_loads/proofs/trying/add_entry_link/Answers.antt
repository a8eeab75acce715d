use Rattle.std.proofs.lemmas.Result.{IfOk-weaker}
use Rattle.cat_model.specs.CopyEffect.{foreign_in}
use Rattle.plain_loads.proofs.Steps.{parents_as}
use Rattle.plain_loads.proofs.trying.add_entry_link.Goals as goal

pub returns-in-Some : goal.returns-in-Some
returns-in-Some c =
    let trying = c.args.trying.now in
    IfOk-weaker c.add_link.result _ _ (λ added e yes texts known text links.
    let both = e yes texts known text links in (
      both.0,
      parents_as trying.named.now trying.book.now texts c.args.q.now c.args.columns.now text (foreign_in (c.args.key.now, c.args.value.now)) c.in-Some.names.now c.in-Some.parent.now c.in-Some.parent_names.now c.in-Some.ensures both.1,
    ))
    c.add_link.ensures
