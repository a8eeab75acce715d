use Rattle.std.proofs.Common.{List, ap, ◌∙◌}
use Rattle.std.specs.FinMap.{empty, entries}
use Rattle.cat_names.specs.Naming.{Entry}
use Rattle.column_numbers.specs.Rule.{with_entries}
use Rattle.whole_export.specs.Data.{with_all_rows}
use Rattle.whole_export.proofs.Whole.{export_stands, export_values}
use Rattle.whole_export.proofs.exporting.numbered_export.Goals as goal

pub returns-clause-stand : goal.returns-clause-stand
returns-clause-stand c = λ sound.
    export_stands c.args.named.now c.args.ids.now c.args.had.now c.args.current.now c.args.opening.now c.in_ok-entry_export.field-0.catalogue c.in_ok-entry_export.field-0.rows _ c.in_ok-numbers.numbers c.requires.entries c.requires.oids c.are_apart.ensures c.in_ok-numbers.ensures c.in_ok-entry_export.ensures.made c.in_ok-entry_export.ensures.rows c.in_ok-entry_export.ensures.held sound

pub returns-clause-rows : goal.returns-clause-rows
returns-clause-rows c = c.in_ok-entry_export.ensures.rows ∙ ap (λ (es : List Entry). with_all_rows c.args.ids.now es empty) c.requires.entries

pub returns-clause-values : goal.returns-clause-values
returns-clause-values c = λ sound.
    export_values c.written_rows_read.ensures (λ cat rows. (c.texts_without_fault_have_rows.ensures.rows cat rows).1) c.args.named.now c.args.ids.now (with_entries c.args.had.now (entries c.args.named.now) empty) c.args.current.now c.args.opening.now c.in_ok-entry_export.field-0.catalogue c.in_ok-entry_export.field-0.rows _ c.requires.entries c.in_ok-entry_export.ensures.rows c.in_ok-entry_export.ensures.held sound
    (returns-clause-stand c sound)
