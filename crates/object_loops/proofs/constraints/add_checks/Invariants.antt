-- Where the checks are good, the rows added so far, with rows of those that are left, are rows of all.
use Rattle.std.proofs.Common.{◌≡◌, ◌++◌, true, ℤ, List, map}
use Rattle.std.specs.FinMap.{entries}
use Rattle.std.specs.List.{AllByRecursion}
use Rattle.cat_rows.specs.declared.constraints.ConstraintRow.{ConstraintRow}
use Rattle.cat_model.specs.declared.object.QName.{QName}
use Rattle.cat_model.specs.Values.{Bytes}
use Rattle.cat_sound.specs.Itself.{check_of}
use Rattle.cluster_loops.specs.Ids.{oids_of}
use Rattle.map_export.specs.Making.{AreSaid}
use Rattle.object_export.specs.Constraints.{IsConstrainedRow}
use Rattle.sound_texts.specs.Grammar.{grammar}
use Rattle.object_export.specs.Parts.{check_in}
use Rattle.object_loops.proofs.constraints.add_checks.Given as goal

abbrev pub invariant-loop-name : goal.invariant-loop-name
invariant-loop-name l =
    (number : QName → Bytes → ℤ) → AllByRecursion (λ e. grammar.constraint (check_of e.1) ≡ true) (entries l.domain.checks)
    → (more : List ConstraintRow) × (l.rows ≡ l.initial.rows ++ more) × AllByRecursion (λ e. grammar.constraint (check_of e.1) ≡ true) l.name-iterator
    × ((rest : List ConstraintRow) → AreSaid (IsConstrainedRow (oids_of l.ids number)) (map (check_in l.path l.domain) l.name-iterator) rest → AreSaid (IsConstrainedRow (oids_of l.ids number)) (map (check_in l.path l.domain) (entries l.domain.checks)) (more ++ rest))
