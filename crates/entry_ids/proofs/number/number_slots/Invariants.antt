-- Those so far have oids that weren't in use, and what had one keeps it.
use Rattle.std.proofs.Common.{◌≡◌, ℕ, ◌<◌, Some, IsSome}
use Rattle.std.specs.FinMap.{get}
use Rattle.std.specs.List.{slice_get}
use Rattle.object_ids.specs.Slots.{Slot}
use Rattle.object_ids.specs.Ids.{KeepIds}
use Rattle.entry_ids.specs.Entries.{AreUnused}
use Rattle.entry_ids.proofs.Drawing.{KeepUsed}
use Rattle.entry_ids.proofs.number.number_slots.Given as goal

abbrev pub invariant-loop-slot : goal.invariant-loop-slot
invariant-loop-slot l = record {
  kept : KeepIds l.initial.ids l.ids;
  used : KeepUsed l.initial.ids l.ids;
  unused : AreUnused l.initial.ids l.ids;
  had : (k : ℕ) (s : Slot) → k < l.slot-index → slice_get l.slots k ≡ Some s → IsSome (get l.ids.ids s);
}
