use Rattle.std.proofs.Common.{Option, List, ℕ, ap, ◌∙◌}
use Rattle.std.specs.Option.{option_map}
use Rattle.plain_rows.specs.Lines.{HasAtMost, all_among, line_key, line_keys}
use Rattle.plain_rows.proofs.KeySteps.{first_key, loosened_among}
use Rattle.plain_rows.proofs.keys.read_keys_are_among.Goals as goal

pub lines-preserved : goal.lines-preserved
lines-preserved c =
    let columns = c.args.columns.now in
    let place = c.args.place in
    let line = c.in-Some.line.now in
    let behind = c.in-Some.behind.now in
    let key : Option (List ℕ) = option_map (λ t. t.now) c.in-Some-2.key in
    let most : HasAtMost key (line_key columns place line) = rw c.in-Some-2.is at c.in_ok-key.ensures in
    let split = first_key columns place c.lines.rest.now line behind c.in-Some.ensures.some in
    λ all among rest.
    c.lines.invariant all among
    (ap (all_among all) split ∙ loosened_among all key (line_key columns place line) (line_keys columns place behind) most (c.is_among.ensures c.if-not-is_among.false all (line_keys columns place behind) among rest))
