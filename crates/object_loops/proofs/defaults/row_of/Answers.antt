use Rattle.std.proofs.Common.{◌≡◌, ◌∙◌, sym, to_z, of_z, w64, rules}
use Rattle.std.proofs.lemmas.Int.{to_z-of_z}
use Rattle.object_loops.specs.Oids.{with_numbers}
use Rattle.object_loops.proofs.defaults.row_of.Goals as goal

-- a number that is moved goes through its machine form, and is itself again
pub returns : goal.returns
returns c = λ good.
    let number = c.in_ok-number.number in
    let back : to_z w64 (of_z w64 number) ≡ number = to_z-of_z w64 number (search rules) in
    c.in_ok-default_row.ensures (with_numbers c.args.ids.now c.args.numbers.now) c.args.table.now c.args.column.now (sym c.in_ok-own.ensures) (sym c.in_ok-of.ensures) (sym c.in_ok-number.ensures ∙ sym back) good
