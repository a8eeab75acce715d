-- Behind the first changes stand the defaults of the columns so far.
use Rattle.std.proofs.Common.{◌≡◌, ◌++◌, take}
use Rattle.std.specs.List.{flat_map}
use Rattle.cat_model.specs.RelationEffects.{default_set}
use Rattle.relation_effects.proofs.tables.add_defaults.Given as goal

abbrev pub invariant-loop-column : goal.invariant-loop-column
invariant-loop-column l = l.changes.items ≡ l.fn.changes.items ++ flat_map (λ c. default_set l.q c.name c.default) (take l.column-index l.columns)
