-- The entries of a dump with their rows, as a restore of their archive sees them.
use Rattle.std.specs.Prelude.{◌≡◌, ℕ, Bool, false, List, [], ◌∷◌, ◌++◌, map, Option, Some, slice_get}
use Rattle.std.specs.Global.{Vec}
use Rattle.std.specs.List.{AllByRecursion}
use Rattle.cat_model.specs.declared.stmt.Stmt.{Stmt}
use Rattle.cat_model.specs.Values.{Bytes}
use Rattle.archive_entries.specs.Extras.{with_extra}
use Rattle.fmt_text.specs.Parts.{body}
use Rattle.restore_plan.specs.declared.entry.Entry as planned
use Rattle.restore_plan.specs.declared.step.Step.{Step}
use Rattle.restore_steps.specs.Statements.{owner_statement, owner_steps}
use Rattle.restore_steps.specs.Faults.{entry_of}
use Rattle.script_laws.specs.Scripts.{AllEntries, rows_of, statements_in}
use Rattle.toc_entry.specs.declared.entry.Entry.{Entry}

-- ---- what an entry does

-- a statement that is no owner's
abbrev pub plain_step : Stmt → Step
plain_step s = record { statement = s; is_owner = false }

-- what an entry's texts and its rows say, and behind that what gives its object to its owner
abbrev pub steps_of : Bool → Entry → Option Bytes → List Step
steps_of owners e rows = map plain_step (statements_in (body e rows)) ++ owner_steps (owner_statement owners e)

abbrev pub planned_as : Bool → Entry × Option (Vec ℕ) → planned.Entry
planned_as owners e = entry_of e.0 (steps_of owners e.0 (rows_of e))

-- ---- entries that are read from an archive

-- each is one of these, in any order and number
abbrev pub AreChosen : AllEntries → AllEntries → Type 0
AreChosen entries chosen = AllByRecursion (λ (c : Entry × Option (Vec ℕ)). (i : ℕ) × (slice_get entries i ≡ Some c)) chosen

-- the same entry with the same rows, which may tell another place of them
abbrev pub IsArchived : Entry × Option (Vec ℕ) → Entry × Option (Vec ℕ) → Type 0
IsArchived e archived = (archived.0 ≡ with_extra archived.0.extra e.0) × (archived.1 ≡ e.1)

abbrev pub AreArchived : AllEntries → AllEntries → Type 0
AreArchived [] [] = Unit {0}
AreArchived [] (a ∷ archived) = ⊥
AreArchived (e ∷ entries) [] = ⊥
AreArchived (e ∷ entries) (a ∷ archived) = IsArchived e a × AreArchived entries archived

abbrev pub texts_in : AllEntries → List (Option (Vec ℕ))
texts_in entries = map (λ (e : Entry × Option (Vec ℕ)). e.1) entries
