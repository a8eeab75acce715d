-- Entries of which each statement is one that leaves a catalogue in order.
use Rattle.std.specs.Prelude.{List}
use Rattle.std.specs.List.{AllByRecursion}
use Rattle.cat_sound.specs.Fit.{IsFit}
use Rattle.restore_plan.specs.declared.entry.Entry.{Entry}
use Rattle.restore_plan.specs.declared.planned.Planned.{Planned}
use Rattle.restore_plan.specs.declared.step.Step.{Step}
use Rattle.sound_texts.specs.Grammar.{grammar}

abbrev pub AreFitSteps : List Step → Type 0
AreFitSteps steps = AllByRecursion (λ s. IsFit grammar s.statement) steps

abbrev pub AreFitEntries : List Entry → Type 0
AreFitEntries entries = AllByRecursion (λ e. AreFitSteps e.steps) entries

-- the same in their places in a list
abbrev pub IsFitPlan : List Planned → Type 0
IsFitPlan plan = AllByRecursion (λ p. AreFitSteps p.steps) plan
