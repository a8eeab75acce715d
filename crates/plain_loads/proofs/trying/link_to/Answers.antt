use Rattle.std.proofs.Common.{sym, ◌∙◌}
use Rattle.plain_loads.proofs.PartsSeen.{link_has_parents}
use Rattle.plain_loads.proofs.trying.link_to.Goals as goal

pub returns-in-Some-2 : goal.returns-in-Some-2
returns-in-Some-2 c = λ texts known text holds.
    let trying = c.args.trying.now in
    let k = c.in-Some-2.known.now in
    let found = c.in_ok-known.ensures in
    link_has_parents trying.named.now trying.book.now texts c.args.q.now c.args.columns.now c.args.names.now c.in-Some.place text c.args.parent.now c.args.parent_names.now c.link_at.result k
    (sym c.is_same.ensures ∙ c.if-is_same.false) c.in-Some.ensures
    (rw c.in-Some-2.is at found.place) (rw c.in-Some-2.is at found.path) (rw c.in-Some-2.is at found.table)
    c.link_at.ensures.place c.link_at.ensures.parents ((rw c.in-Some-2.is at found.known) texts known) holds
