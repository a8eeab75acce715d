-- How a restore with one worker ends: what stands, what is told, how many errors it passed over, and where it stopped.
use Rattle.std.specs.Prelude.{ℕ, Bool, List, Option, Some, None, if◌then◌else◌}
use Rattle.cat_model.specs.Values.{Bytes, Named}
use Rattle.restore_plan.specs.declared.entry.Entry as planned
use Rattle.restore_plan.specs.declared.status.Note.{Note}
use Rattle.restore_plan.specs.declared.planned.Planned.{Planned}
use Rattle.restore_plan.specs.Order.{plan}
use Rattle.restore_plan.specs.Serial.{Restored, Stopped, serial, serial_until}
use Rattle.toc_entry.specs.declared.entry.Entry.{Entry}
use Rattle.restore_runs.specs.Reports.{Stopping, errors, report, stop_told}

pub record Ending : Type 0 where
  pub left : Named
  pub told : List ℕ
  pub errors : ℕ
  pub stopped : Option Stopping

abbrev pub ended : Named → List ℕ → ℕ → Option Stopping → Ending
ended left told errors stopped = record { left = left; told = told; errors = errors; stopped = stopped }

-- a restore that went on behind refusals
abbrev pub passed : Bytes → List Entry → Restored → Ending
passed teller entries r = ended r.catalogue (report teller entries r.statuses r.notes) (errors r.statuses r.notes) None

abbrev pub stopping : Option Note → Option Stopping
stopping None = None
stopping (Some note) = Some (note.dump_id, note.cause)

-- a restore that ended at the first refusal, if there was one
abbrev pub halted : Bytes → Stopped → Ending
halted teller s = ended s.catalogue (stop_told teller (stopping s.at)) 0 (stopping s.at)

-- the entries of a plan are carried out on a catalogue one after another: all of them, or up to the first statement that is
-- refused, owner statements too
abbrev pub carried : Bool → Bytes → Bytes → List Entry → List Planned → Named → Ending
carried stop teller boot entries plan named =
    if stop then halted teller (serial_until boot named plan) else passed teller entries (serial boot named plan)

-- how a restore of entries on a catalogue ends; the wanted ones are the same entries as statements
unfoldable pub ending : Bool → Bytes → Bytes → List Entry → List planned.Entry → Named → Ending
ending stop teller boot entries wanted named = carried stop teller boot entries (plan named wanted) named
