-- The rows of an entry in a plan: what a worker reads before it restores the entry.
use Rattle.std.specs.Prelude.{ℕ, List, [], ◌∷◌, drop, Option, Some, None}
use Rattle.std.specs.List.{slice_get}
use Rattle.std.specs.Option.{option_map_or}
use Rattle.cat_model.specs.declared.stmt.Stmt.{Stmt}
use Rattle.cat_model.specs.declared.stmt.Stmt.TheVariants as stmt
use Rattle.cat_model.specs.Values.{Bytes}
use Rattle.restore_plan.specs.declared.planned.Planned.{Planned}
use Rattle.restore_plan.specs.declared.step.Step.{Step}
use Rattle.restore_steps.specs.Statements.{definition_count}
use Rattle.plan_entries.specs.Plans.{Made}
use Rattle.toc_entry.specs.declared.entry.Entry.{Entry}

-- the rows of a statement, where it is a COPY
unfoldable pub rows_in : Stmt → Option Bytes
rows_in (stmt.CopyRows q columns rows) = Some rows
rows_in _ = None

-- the later of two that is there
abbrev pub later_of : Option Bytes → Option Bytes → Option Bytes
later_of earlier None = earlier
later_of earlier (Some rows) = Some rows

-- the rows of the last COPY among statements
abbrev pub last_rows : List Step → Option Bytes
last_rows [] = None
last_rows (s ∷ ss) = later_of (rows_in s.statement) (last_rows ss)

-- those behind the statements that the entry's definition reads as: its COPY statement, followed by its rows
abbrev pub rows_of : Entry → Planned → Option Bytes
rows_of e planned = last_rows (drop (definition_count e) planned.steps)

-- the rows of the entry at a place
abbrev pub text_at : Made → ℕ → Option Bytes
text_at made i = option_map_or (λ e. option_map_or (rows_of e) (slice_get made.planned i) None) (slice_get made.entries i) None
