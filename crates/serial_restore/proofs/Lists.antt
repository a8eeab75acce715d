-- Entries one after another: those that have ended and what is to come are the whole restore.
use Rattle.std.proofs.Common.{◌≡◌, ℕ, List, [], ◌∷◌, ◌++◌, ◌∙◌, append_assoc}
use Rattle.std.specs.BTreeSet.{BTreeSet}
use Rattle.cat_model.specs.Values.{Bytes, Named}
use Rattle.restore_plan.specs.declared.status.EntryStatus.{EntryStatus}
use Rattle.restore_plan.specs.declared.status.Note.{Note}
use Rattle.restore_plan.specs.declared.planned.Planned.{Planned}
use Rattle.restore_plan.specs.Serial.{Ended, Left, Restored, first_blocked, entry_left, with_entry, serial_behind}
use Rattle.serial_restore.specs.Blocked.{AreBlocked}
use Rattle.serial_restore.specs.Ways.{IsLeft, behind}

-- a restore of which some entries have ended
pub record Going (blocked : BTreeSet ℕ) (boot : Bytes) (named : Named) (rest : List Planned) (statuses : List EntryStatus) (notes : List Note) (whole : Restored) : Type 0 where
  pub ended : Ended
  pub known : AreBlocked blocked ended
  pub to_come : behind statuses notes (serial_behind boot ended named rest) ≡ whole

joined : (statuses : List EntryStatus) (notes : List Note) (e : Left) (later : Restored) → behind (statuses ++ e.status ∷ []) (notes ++ e.notes) later ≡ behind statuses notes (with_entry e later)
joined statuses notes e later = λ i. record { catalogue = later.catalogue; statuses = append_assoc statuses (e.status ∷ []) later.statuses i; notes = append_assoc notes e.notes later.notes i }

pub goes_on : (blocked blocked' : BTreeSet ℕ) (boot boot' : Bytes) (named named' : Named) (p : Planned) (rest : List Planned) (statuses statuses' : List EntryStatus) (notes notes' : List Note) (whole : Restored)
    → boot' ≡ boot
    → ((ended : Ended) → AreBlocked blocked ended → IsLeft (entry_left boot p named (first_blocked ended p.deps)) named' statuses statuses' notes notes')
    → ((ended : Ended) → AreBlocked blocked ended → AreBlocked blocked' (ended ++ (p.id, (entry_left boot p named (first_blocked ended p.deps)).status) ∷ []))
    → Going blocked boot named (p ∷ rest) statuses notes whole → Going blocked' boot' named' rest statuses' notes' whole
goes_on blocked blocked' boot boot' named named' p rest statuses statuses' notes notes' whole same left more g =
    let e = entry_left boot p named (first_blocked g.ended p.deps) in
    let l = left g.ended g.known in
    let now : Ended = g.ended ++ (p.id, e.status) ∷ [] in
    record {
      ended = now;
      known = more g.ended g.known;
      to_come =
          (λ i. behind (l.status i) (l.noted i) (serial_behind (same i) now (l.catalogue i) rest))
          ∙ joined statuses notes e (serial_behind boot now e.catalogue rest) ∙ g.to_come;
    }
