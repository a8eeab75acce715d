-- The names so far, before those of the lexemes that are left, are the names of all, if there are any.
use Rattle.std.proofs.Common.{◌≡◌, ◌++◌, map, length}
use Rattle.std.specs.Option.{option_map}
use Rattle.cat_model.specs.IndexColumns.{names_to_bracket}
use Rattle.stmt_refs.specs.Said.{said}
use Rattle.stmt_refs.proofs.columns.names_to_bracket.Given as goal

abbrev pub invariant-loop-x : goal.invariant-loop-x
invariant-loop-x l = names_to_bracket (map said l.initial.left) ≡ option_map (λ more. l.names.items ++ more) (names_to_bracket (map said l.left))

abbrev pub decreases-loop-x : goal.decreases-loop-x
decreases-loop-x l = length l.left
