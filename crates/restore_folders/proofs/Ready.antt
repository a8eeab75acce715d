-- The statements of entries that a restore takes are fit, and so a restore leaves an opening in order.
use Rattle.std.proofs.Common.{◌≡◌, ℕ, Bool, true, false, List, [], ◌∷◌, drop, Option, Some, None, Result, Ok, Err, refl, subst}
use Rattle.cat_rows.specs.declared.catalogue.Catalogue.{Catalogue}
use Rattle.cat_model.specs.Values.{Bytes, Named}
use Rattle.cat_names.specs.DataSets.{TextsByOid}
use Rattle.cat_names.specs.Naming.{boot}
use Rattle.openings.specs.Loads.{rows_fault}
use Rattle.exports.specs.Exports.{Exported}
use Rattle.openings.specs.Openings.{export_named}
use Rattle.restores_sound.specs.Export.{CanBeExported}
use Rattle.restores_sound.proofs.Made.{left_exported}
use Rattle.script_runs.proofs.Kept.{opened_left}
use Rattle.well_formed.specs.Catalogues.{catalogue_fault}
use Rattle.well_formed.proofs.Formed.{well_formed}
use Rattle.restores_sound.specs.Fit.{AreFitEntries}
use Rattle.restores_sound.specs.Left.{IsLeft}
use Rattle.restores_sound.proofs.Entries.{entry_fit}
use Rattle.restores_sound.proofs.Restores.{planned as planned_fit, gone_on, stopped}
use Rattle.restore_plan.specs.declared.entry.Entry as planned
use Rattle.restore_plan.specs.Order.{foreign_keys, plan}
use Rattle.restore_runs.specs.Endings.{ending}
use Rattle.restore_runs.specs.Wanted.{first_rows, wanted_due}
use Rattle.restore_steps.specs.declared.fault.PlanFault.{PlanFault}
use Rattle.restore_steps.specs.Faults.{entry_due}
use Rattle.restore_steps.specs.Statements.{◌>>=◌}
use Rattle.toc_entry.specs.declared.entry.Entry.{Entry}

pub entries_fit : (owners : Bool) (entries : List Entry) (rows : List (Option (List ℕ))) (wanted : List planned.Entry) → wanted_due owners entries rows ≡ Ok wanted → AreFitEntries wanted
entries_fit owners [] rows wanted is = let none : [] ≡ wanted = cc in subst AreFitEntries none tt
entries_fit owners (e ∷ es) rows wanted is = by (entry_due owners e (first_rows rows)) refl (wanted_due owners es (drop 1 rows)) (entries_fit owners es (drop 1 rows)) is
  where
    by : (first : Result planned.Entry PlanFault) → entry_due owners e (first_rows rows) ≡ first → (later : Result (List planned.Entry) PlanFault) → ((xs : List planned.Entry) → later ≡ Ok xs → AreFitEntries xs)
        → (first >>= λ x. later >>= λ xs. Ok (x ∷ xs)) ≡ Ok wanted → AreFitEntries wanted
    by (Ok x) is_first (Ok xs) more h =
        let same : x ∷ xs ≡ wanted = cc in
        subst AreFitEntries same (entry_fit owners e (first_rows rows) x is_first, more xs refl)
    by (Ok x) is_first (Err fault) more h = absurd cc
    by (Err fault) is_first later more h = absurd cc

-- ---- a restore

pub restore_left : (opening : Catalogue) (texts : TextsByOid) (role teller : Bytes) (stop : Bool) (entries : List Entry) (wanted : List planned.Entry) (named : Named) → IsLeft opening texts role named → AreFitEntries wanted → IsLeft opening texts role (ending stop teller role entries wanted named).left
unfolding ending
restore_left opening texts role teller true entries wanted named is fit = stopped opening texts role (plan named wanted) named is (planned_fit (foreign_keys named) [] wanted fit)
restore_left opening texts role teller false entries wanted named is fit = gone_on opening texts role (plan named wanted) named is (planned_fit (foreign_keys named) [] wanted fit)

-- what a restore leaves of an opening that was taken in can be exported
pub restore_exported : (opening : Exported) (role teller : Bytes) (stop : Bool) (entries : List Entry) (wanted : List planned.Entry) → catalogue_fault opening.cat ≡ None → rows_fault opening.cat opening.rows ≡ None → boot opening.cat ≡ Some role → AreFitEntries wanted
    → CanBeExported opening.cat (ending stop teller role entries wanted (export_named opening)).left
restore_exported opening role teller stop entries wanted formed meets is fit =
    left_exported opening.cat opening.rows role (ending stop teller role entries wanted (export_named opening)).left (well_formed opening.cat formed)
    (restore_left opening.cat opening.rows role teller stop entries wanted (export_named opening) (opened_left opening role formed meets is) fit)
