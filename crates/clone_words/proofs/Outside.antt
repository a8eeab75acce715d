-- The words of a clone don't ask for an archive in one of its folders.
use Rattle.std.proofs.Common.{◌≡◌, ℕ, Bool, true, false, List, [], ◌∷◌, Option, Some, None, Result, Ok, Err, cond, refl, subst, IsSome}
use Rattle.std.specs.Bool.{⊤}
use Rattle.command_line.specs.declared.options.Tool.{Tool}
use Rattle.command_line.specs.declared.options.Tool.TheVariants.{PgDump, PgRestore, PgDumpall, Psql, PgCatcmp, PgClone, PgGen}
use Rattle.command_line.specs.declared.options.Opt.TheVariants as opt
use Rattle.command_line.specs.declared.usage.UsageFault.{UsageFault}
use Rattle.command_line.specs.declared.usage.UsageKind.TheVariants as kinds
use Rattle.command_line.specs.Reading.{Reading}
use Rattle.command_line.specs.Mentions.{Place, last_of, other_of, fault_of}
use Rattle.command_line.specs.Checks.{first_of, fault_if, lies_in, is_in, room, pg_clone_checks, checks, words_fault}
use Rattle.command_line.specs.Commands.{needed_text, clone_of, command_of}
use Rattle.command_line.proofs.Completing.{needed_where_none}
use Rattle.command_line.specs.Usage.{tool_in, said_by, fault_with, or_command, command_by_tool, command_from}
use Rattle.clone_words.specs.declared.asked.CloneAsked.{CloneAsked}
use Rattle.clone_words.specs.Words.{has_workers, asked_of, of_command, of_reading, clone_in}

-- the archive lies in neither folder
pub record AreOutside (asked : CloneAsked) : Type 0 where
  pub source : lies_in asked.source asked.archive ≡ false
  pub target : lies_in asked.target asked.archive ≡ false

-- ---- the checks of pg_clone

abbrev AllNone : List (Option UsageFault) → Type 0
AllNone [] = ⊤
AllNone (a ∷ others) = (a ≡ None) × AllNone others

all_none : (faults : List (Option UsageFault)) → first_of faults ≡ None → AllNone faults
all_none [] e = tt
all_none (None ∷ others) e = (refl, all_none others e)
all_none (Some fault ∷ others) e = cc

-- its file against its folders
record Checked (file source target : Option Place) : Type 0 where
  in_source : fault_if (is_in source file) kinds.BadValue file ≡ None
  in_target : fault_if (is_in target file) kinds.BadValue file ≡ None

clone_checked : (count : ℕ) (r : Reading) → AllNone (pg_clone_checks count r) → Checked (last_of opt.File r) (other_of 0 r) (other_of 1 r)
unfolding pg_clone_checks
clone_checked count r e = record { in_source = e.1.1.1.1.1.0; in_target = e.1.1.1.1.1.1.0 }

checked : (count : ℕ) (r : Reading) → words_fault PgClone count r ≡ None → Checked (last_of opt.File r) (other_of 0 r) (other_of 1 r)
unfolding words_fault checks
checked count r e =
    clone_checked count r (all_none (pg_clone_checks count r) ((all_none (fault_if true kinds.ExtraWord (other_of (room PgClone r) r) ∷ fault_of r ∷ checks PgClone count r ∷ []) e).1.1.0))

-- ---- its folders and its archive

not_held : (holds : Bool) (place : Place) → fault_if holds kinds.BadValue (Some place) ≡ None → holds ≡ false
not_held false place e = refl
not_held true place e = cc

outside : (file folder : Option Place) → IsSome file → IsSome folder → fault_if (is_in folder file) kinds.BadValue file ≡ None → lies_in (needed_text folder) (needed_text file) ≡ false
outside None folder a b e = absurd cc
outside (Some file) None a b e = absurd cc
outside (Some file) (Some folder) a b e = not_held (lies_in folder.value file.value) file e

clone_outside : (count : ℕ) (r : Reading) → words_fault PgClone count r ≡ None → AreOutside (asked_of (clone_of r))
unfolding clone_of
clone_outside count r e =
    let said = needed_where_none PgClone count r e in
    let c = checked count r e in
    record {
      source = outside (last_of opt.File r) (other_of 0 r) said.2 said.0 c.in_source;
      target = outside (last_of opt.File r) (other_of 1 r) said.2 said.1 c.in_target;
    }

-- ---- the words

of_clone : (b : Bool) (asked a : CloneAsked) → cond b None (Some asked) ≡ Some a → AreOutside asked → AreOutside a
of_clone true asked a e h = absurd cc
of_clone false asked a e h = subst AreOutside (inner asked a e) h
  where
    inner : (x y : CloneAsked) → ◌≡◌ {A = Option CloneAsked} (Some x) (Some y) → x ≡ y
    inner x y e = cc

commanded : (tool : Tool) (count : ℕ) (r : Reading) (a : CloneAsked) → words_fault tool count r ≡ None → of_command (command_of tool r) ≡ Some a → AreOutside a
unfolding command_of
commanded PgDump count r a none e = absurd cc
commanded PgRestore count r a none e = absurd cc
commanded PgDumpall count r a none e = absurd cc
commanded Psql count r a none e = absurd cc
commanded PgCatcmp count r a none e = absurd cc
commanded PgClone count r a none e = of_clone (has_workers (clone_of r).jobs) (asked_of (clone_of r)) a e (clone_outside count r none)
commanded PgGen count r a none e = absurd cc

by_fault : (fault : Option UsageFault) (tool : Tool) (words : List (List ℕ)) (a : CloneAsked) → fault_with tool words ≡ fault → of_reading (or_command fault tool words) ≡ Some a → AreOutside a
by_fault (Some fault) tool words a e h = absurd cc
by_fault None tool words a e h = commanded tool _ (said_by tool words) a e h

by_tool : (tool : Result Tool UsageFault) (words : List (List ℕ)) (a : CloneAsked) → of_reading (command_by_tool tool words) ≡ Some a → AreOutside a
by_tool (Err fault) words a h = absurd cc
by_tool (Ok tool) words a h = by_fault (fault_with tool words) tool words a refl h

pub are_outside : (words : List (List ℕ)) (a : CloneAsked) → clone_in words ≡ Some a → AreOutside a
unfolding clone_in command_from
are_outside words a h = by_tool (tool_in words) words a h
