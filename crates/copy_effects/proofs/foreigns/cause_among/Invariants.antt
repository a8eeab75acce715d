-- Each new row has a parent for the foreign keys so far.
use Rattle.std.proofs.Common.{◌≡◌, ◌++◌, map, drop}
use Rattle.std.specs.FinMap.{get}
use Rattle.cat_model.specs.declared.key.Key.TheVariants as key
use Rattle.cat_model.specs.KeyEffects.{rows_in}
use Rattle.cat_model.specs.Trees.{seen}
use Rattle.rows_fit.specs.KeyCauses.{linked, parent_cause}
use Rattle.copy_effects.proofs.foreigns.cause_among.Given as goal

abbrev pub invariant-loop-i : goal.invariant-loop-i
invariant-loop-i l =
    let link = linked (seen l.named) l.q (rows_in (get l.named (key.Rows l.q)) ++ l.new) in
    parent_cause (map link l.foreigns) l.columns l.new ≡ parent_cause (map link (drop l.i l.foreigns)) l.columns l.new
