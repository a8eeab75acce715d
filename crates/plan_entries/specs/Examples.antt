-- Worked examples: statements of an entry.
use Rattle.std.specs.Prelude.{List, ℕ, [], false, codes}
use Rattle.cat_model.specs.declared.stmt.Stmt.TheVariants as stmt
use Rattle.cat_model.specs.Values.{Bytes}
use Rattle.restore_plan.specs.declared.step.Step.{Step}

-- COPY of these rows
abbrev pub copied : Bytes → Step
copied rows = record { statement = stmt.CopyRows (record { schema = codes "public"; name = codes "t" }) [] rows; is_owner = false }

-- a statement that is no COPY
abbrev pub made : Step
made = record { statement = stmt.CreateSchema (codes "a"); is_owner = false }
