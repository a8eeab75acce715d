use Rattle.std.proofs.Common.{List, sym, subst}
use Rattle.std.specs.List.{AllByRecursion}
use Rattle.cat_model.specs.declared.value.Column.{Column}
use Rattle.cat_sound.specs.Itself.{IsTyped}
use Rattle.object_export.specs.Relations.{IsColumnRow}
use Rattle.object_export.specs.Parts.{columns_from}
use Rattle.object_loops.specs.Adding.{Adds}
use Rattle.object_loops.specs.Oids.{with_numbers}
use Rattle.sound_texts.specs.Grammar.{grammar}
use Rattle.object_loops.proofs.columns.add_table.Goals as goal

pub returns : goal.returns
returns c = λ fits.
    subst (λ (cs : List Column). Adds (IsColumnRow (with_numbers c.args.ids.now c.args.numbers.now)) (columns_from c.args.table.now cs 0 cs) c.args.rows.now c.add_columns.new.rows) c.as_slice-list.ensures
    (c.in_ok-add_columns.ensures (subst (AllByRecursion (λ (x : Column). IsTyped grammar x.type_name x.resolved)) (sym c.as_slice-list.ensures) fits.types))
