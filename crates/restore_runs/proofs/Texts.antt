-- The rows of entries as the code holds them, and as they are.
use Rattle.std.proofs.Common.{◌≡◌, ℕ, Bool, List, [], ◌∷◌, drop, map, Option, None, Result, Ok, refl, ap}
use Rattle.std.specs.Global.{Vec}
use Rattle.std.specs.Option.{option_map}
use Rattle.restore_plan.specs.declared.entry.Entry as planned
use Rattle.restore_steps.specs.declared.fault.PlanFault.{PlanFault}
use Rattle.restore_steps.specs.Faults.{entry_due, entries_due}
use Rattle.restore_steps.specs.Statements.{◌>>=◌}
use Rattle.toc_entry.specs.declared.entry.Entry.{Entry}
use Rattle.restore_runs.specs.Wanted.{wanted_due}

pub same_entries : (owners : Bool) (es : List Entry) (texts : List (Option (Vec ℕ))) → entries_due owners es texts ≡ wanted_due owners es (map (option_map (λ rows. rows.items)) texts)
same_entries owners [] texts = refl
same_entries owners (e ∷ es) [] = ap (λ (later : Result (List planned.Entry) PlanFault). entry_due owners e None >>= λ x. later >>= λ xs. Ok (x ∷ xs)) (same_entries owners es [])
same_entries owners (e ∷ es) (text ∷ texts) = ap (λ (later : Result (List planned.Entry) PlanFault). entry_due owners e (option_map (λ rows. rows.items) text) >>= λ x. later >>= λ xs. Ok (x ∷ xs)) (same_entries owners es texts)
