use Rattle.std.specs.FinMap.{empty, entries}
use Rattle.column_numbers.specs.Rule.{with_entries}
use Rattle.whole_export.proofs.Whole.{is_named, is_formed}
use Rattle.whole_export.proofs.exporting.export.Goals as goal

pub returns-clause-named : goal.returns-clause-named
returns-clause-named c = λ sound.
    is_named c.args.named.now c.number_all.new.ids (with_entries c.args.had.now (entries c.args.named.now) empty) c.args.current.now c.args.opening.now c.in_ok-numbered_export.field-0.catalogue c.in_ok-numbered_export.field-0.rows sound
    (c.in_ok-numbered_export.ensures.stand sound)

pub returns-clause-formed : goal.returns-clause-formed
returns-clause-formed c = λ sound started kept.
    is_formed c.args.named.now c.number_all.new.ids (with_entries c.args.had.now (entries c.args.named.now) empty) c.args.current.now c.args.opening.now c.in_ok-numbered_export.field-0.catalogue c.in_ok-numbered_export.field-0.rows sound
    (c.in_ok-numbered_export.ensures.stand sound) c.args.ids.now c.in_ok-number_all.ensures.kept started kept
