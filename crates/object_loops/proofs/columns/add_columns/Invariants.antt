-- Where the types are good, the rows added so far are those of the columns so far.
use Rattle.std.proofs.Common.{take}
use Rattle.std.specs.List.{AllByRecursion}
use Rattle.cat_sound.specs.Itself.{IsTyped}
use Rattle.object_export.specs.Relations.{IsColumnRow}
use Rattle.sound_texts.specs.Grammar.{grammar}
use Rattle.object_loops.specs.Adding.{Adds}
use Rattle.object_loops.specs.Oids.{with_numbers}
use Rattle.object_export.specs.Parts.{columns_from}
use Rattle.object_loops.proofs.columns.add_columns.Given as goal

abbrev pub invariant-loop-place : goal.invariant-loop-place
invariant-loop-place l =
    AllByRecursion (λ c. IsTyped grammar c.type_name c.resolved) l.columns
    → Adds (IsColumnRow (with_numbers l.ids l.numbers)) (columns_from l.table l.columns 0 (take l.place l.columns)) l.initial.rows l.rows
