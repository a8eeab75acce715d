-- Behind the first changes stand the checks so far.
use Rattle.std.proofs.Common.{◌≡◌, ◌++◌, map, take, Some}
use Rattle.cat_model.specs.declared.key.Key.TheVariants as key
use Rattle.cat_model.specs.RelationEffects.{check_value}
use Rattle.relation_effects.proofs.tables.add_checks.Given as goal

abbrev pub invariant-loop-check : goal.invariant-loop-check
invariant-loop-check l = l.changes.items ≡ l.fn.changes.items ++ map (λ c. (key.Con l.q c.name, Some (check_value c.text))) (take l.check-index l.checks)
