-- A key of the set is the one that was added, or was there.
use Rattle.std.proofs.Common.{sym, ◌∙◌}
use Rattle.key_sets.specs.Holding.{holds}
use Rattle.plain_rows.proofs.KeySteps.{one_more}
use Rattle.plain_rows.proofs.keys.add_key.Goals as goal

pub returns-in_ok-insert : goal.returns-in_ok-insert
returns-in_ok-insert c = λ all among here q there.
    one_more c.in-Some.key.now q (holds c.args.keys.now q) (sym (c.in_ok-insert.ensures.added q) ∙ there) (among q) (λ same. here q (rw c.in-Some.is same))
