-- What is due of all columns is what is due of those that are left, behind those so far.
use Rattle.std.proofs.Common.{◌≡◌, List, drop}
use Rattle.cat_model.specs.declared.value.Column.{Column}
use Rattle.cat_model.specs.RelationEffects.{needs_columns}
use Rattle.cat_model.specs.Trees.{Tree, outcome, seen}
use Rattle.relation_effects.proofs.Columns.{behind}
use Rattle.relation_effects.proofs.tables.needs_columns.Given as goal

abbrev pub invariant-loop-column : goal.invariant-loop-column
invariant-loop-column l = (next : List Column → Tree) → outcome (needs_columns l.q l.columns next) (seen l.named) ≡ outcome (needs_columns l.q (drop l.column-index l.columns) (behind l.resolved.items next)) (seen l.named)
