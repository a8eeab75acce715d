use Rattle.std.proofs.Common.{Option, List, ℕ, ap, ◌∙◌}
use Rattle.std.specs.Option.{option_map}
use Rattle.plain_rows.specs.Lines.{HasAtMost, line_key, line_keys, none_again}
use Rattle.plain_rows.proofs.KeySteps.{first_key, loosened}
use Rattle.plain_rows.proofs.keys.read_keys_differ.Goals as goal

pub lines-preserved : goal.lines-preserved
lines-preserved c =
    let columns = c.args.columns.now in
    let place = c.args.place in
    let line = c.in-Some.line.now in
    let behind = c.in-Some.behind.now in
    let known = c.lines.invariant in
    let key : Option (List ℕ) = option_map (λ t. t.now) c.in-Some-2.key in
    let most : HasAtMost key (line_key columns place line) = rw c.in-Some-2.is at c.in_ok-key.ensures in
    let split = first_key columns place c.lines.rest.now line behind c.in-Some.ensures.some in
    let new = c.in_ok-add_new.ensures c.if-not-branch.false known.0 (line_keys columns place behind) known.1 in (
      new.0,
      new.1,
      λ rest. known.2 (ap (none_again known.0) split ∙ loosened known.0 key (line_key columns place line) (line_keys columns place behind) most (new.2 rest)),
    )
