-- The statements that entries have run, one entry after another in the order of the list, and whether each then says
-- what was recorded of it.
use Rattle.std.specs.Prelude.{◌≡◌, ℕ, List, [], ◌∷◌, length, take, Option, Some, None}
use Rattle.cat_model.specs.declared.cause.Cause.{Cause}
use Rattle.cat_model.specs.Values.{Bytes, Named}
use Rattle.restore_plan.specs.declared.status.EntryStatus.{EntryStatus}
use Rattle.restore_plan.specs.declared.status.EntryStatus.TheVariants.{Done, Refused, Skipped}
use Rattle.restore_plan.specs.Serial.{Under_way, started, after_steps}
use Rattle.restore_core.specs.declared.phase.Phase.{Phase}
use Rattle.restore_core.specs.declared.phase.Phase.TheVariants.{Waiting, Running, Ended}
use Rattle.restore_core.specs.Machine.{Going}

-- how many of an entry's statements have run, of this many
abbrev pub count_run : ℕ → Phase → ℕ
count_run many Waiting = 0
count_run many (Running worker run) = run
count_run many (Ended Done) = many
count_run many (Ended (Refused n cause)) = n
count_run many (Ended (Skipped by)) = 0

-- why the last of them was refused, where that ended the entry
abbrev pub refusal_in : Phase → Option Cause
refusal_in (Ended (Refused n cause)) = Some cause
refusal_in _ = None

-- the statements that an entry has run, alone from a catalogue
abbrev pub alone : Bytes → Named → Going → Under_way
alone boot named x = after_steps boot x.plan.id (take (count_run (length x.plan.steps) x.phase) x.plan.steps) (started named)

-- the catalogue after what each entry has run, in the order of the list
abbrev pub in_list_order : Bytes → Named → List Going → Named
in_list_order boot named [] = named
in_list_order boot named (x ∷ xs) = in_list_order boot (alone boot named x).catalogue xs

-- so run, each entry has as many statements behind it, the notes and the refusal that were recorded
abbrev pub AsRecorded : Bytes → Named → List Going → Type 0
AsRecorded boot named [] = Unit {0}
AsRecorded boot named (x ∷ xs) =
    ((alone boot named x).run ≡ count_run (length x.plan.steps) x.phase)
    × ((alone boot named x).notes ≡ x.notes)
    × ((alone boot named x).refused ≡ refusal_in x.phase)
    × AsRecorded boot (alone boot named x).catalogue xs
