-- The words of a dump don't ask for a target in its folder, and name the folder of an archive that is one.
use Rattle.std.proofs.Common.{◌≡◌, ℕ, Bool, true, false, ◌&&◌, List, [], ◌∷◌, Option, Some, None, Result, Ok, Err, cond, refl, sym, ap, subst, ◌∙◌, IsSome}
use Rattle.std.specs.Bool.{⊤}
use Rattle.std.specs.Prelude.{codes, is_some, if◌then◌else◌}
use Rattle.std.specs.Str.{bytes_eq}
use Rattle.cat_model.specs.Values.{Bytes}
use Rattle.command_line.specs.declared.command.DumpWords.{DumpWords}
use Rattle.command_line.specs.declared.command.RestoreWords.{RestoreWords}
use Rattle.command_line.specs.declared.values.Format.{Format}
use Rattle.command_line.specs.declared.values.Format.TheVariants as format
use Rattle.command_line.specs.declared.options.Tool.{Tool}
use Rattle.command_line.specs.declared.options.Tool.TheVariants.{PgDump, PgRestore, PgDumpall, Psql, PgCatcmp, PgClone, PgGen}
use Rattle.command_line.specs.declared.options.Opt.TheVariants as opt
use Rattle.command_line.specs.declared.usage.UsageFault.{UsageFault}
use Rattle.command_line.specs.declared.usage.UsageKind.TheVariants as kinds
use Rattle.command_line.specs.Reading.{Reading}
use Rattle.command_line.specs.Mentions.{Place, last_of, other_of, fault_of}
use Rattle.command_line.specs.Checks.{first_of, missing_if, fault_if, is_text_of, named_format, is_directory, lies_in, is_in, folder_place, none, room, pg_dump_checks, checks, words_fault}
use Rattle.command_line.specs.Commands.{text_of, format_given, folder_of, dump_of, restore_of, command_of}
use Rattle.command_line.specs.Usage.{tool_in, said_by, fault_with, or_command, command_by_tool, command_from}
use Rattle.command_line.proofs.Completing.{needed_where_none}
use Rattle.tool_words.specs.declared.outcome.Outcome.{Outcome}
use Rattle.tool_words.specs.declared.words.Asked.{Asked}
use Rattle.tool_words.specs.declared.words.Asked.TheVariants as asked
use Rattle.tool_words.specs.declared.words.DumpAsked.{DumpAsked}
use Rattle.tool_words.specs.Words.{folder_named, format_of, printed_or, dump_asked, archive_of, has_workers, restoring_of, unlisted_asked, asked_of, built, asked_by, words_asked}
use Rattle.dump_targets.specs.Targets.{IsOutside}

-- the dump that words ask for
abbrev asked_for : DumpWords → DumpAsked
asked_for words = record { folder = folder_named words.folder; choice = words.choice; format = format_of words.format; target = printed_or words.file }

-- ---- the checks of pg_dump

abbrev AllNone : List (Option UsageFault) → Type 0
AllNone [] = ⊤
AllNone (a ∷ others) = (a ≡ None) × AllNone others

all_none : (faults : List (Option UsageFault)) → first_of faults ≡ None → AllNone faults
all_none [] e = tt
all_none (None ∷ others) e = (refl, all_none others e)
all_none (Some fault ∷ others) e = cc

dump_checked : (count : ℕ) (r : Reading) → AllNone (pg_dump_checks count r) → fault_if (is_in (folder_place r) (last_of opt.File r)) kinds.BadValue (last_of opt.File r) ≡ None
unfolding pg_dump_checks
dump_checked count r e = e.1.1.1.1.0

checked : (count : ℕ) (r : Reading) → words_fault PgDump count r ≡ None → fault_if (is_in (folder_place r) (last_of opt.File r)) kinds.BadValue (last_of opt.File r) ≡ None
unfolding words_fault checks
checked count r e =
    dump_checked count r (all_none (pg_dump_checks count r) ((all_none (fault_if true kinds.ExtraWord (other_of (room PgDump r) r) ∷ fault_of r ∷ checks PgDump count r ∷ []) e).1.1.0))

-- ---- its folder and its target

not_held : (holds : Bool) (place : Place) → fault_if holds kinds.BadValue (Some place) ≡ None → holds ≡ false
not_held false place e = refl
not_held true place e = cc

printed : (name : Bytes) (dash : Bool) (folder : Bytes) → lies_in folder name ≡ false → IsOutside folder (if dash then None else Some name)
printed name true folder h = tt
printed name false folder h = h

target_outside : (file : Option Place) (place : Option Place) (folder : Bytes) → fault_if (is_in place file) kinds.BadValue file ≡ None → ((p : Place) → place ≡ Some p → p.value ≡ folder) → IsSome place → IsOutside folder (printed_or (text_of file))
target_outside None place folder e same some = tt
target_outside (Some f) None folder e same some = absurd cc
target_outside (Some f) (Some p) folder e same some =
    printed f.value (bytes_eq f.value (codes "-")) folder (subst (λ x. lies_in x f.value ≡ false) (same p refl) (not_held (lies_in p.value f.value) f e))

folder_said : (given other : Option Place) (p : Place) → cond (is_some given) given other ≡ Some p → p.value ≡ folder_named (folder_of given other)
folder_said (Some g) other p e = cc
folder_said None (Some o) p e = cc
folder_said None None p e = cc

dump_outside : (count : ℕ) (r : Reading) → words_fault PgDump count r ≡ None → IsOutside (folder_named (dump_of r).folder) (printed_or (dump_of r).file)
unfolding dump_of
dump_outside count r e =
    target_outside (last_of opt.File r) (folder_place r) (folder_named (folder_of (last_of opt.Dbname r) (other_of 0 r))) (checked count r e)
    (λ p same. folder_said (last_of opt.Dbname r) (other_of 0 r) p same)
    (needed_where_none PgDump count r e)

-- ---- an archive in a folder

-- a folder is named for it
abbrev HasFolder : DumpAsked → Type 0
HasFolder a = a.format ≡ format.Directory → (name : Bytes) × (a.target ≡ Some name)

-- the checks of its file
record FileChecked (directory : Bool) (count : ℕ) (file : Option Place) : Type 0 where
  there : missing_if (directory && none file) count ≡ None
  named : fault_if (directory && is_text_of (codes "-") file) kinds.BadValue file ≡ None

dump_file_checked : (count : ℕ) (r : Reading) → AllNone (pg_dump_checks count r) → FileChecked (is_directory (named_format (last_of opt.Format r))) count (last_of opt.File r)
unfolding pg_dump_checks
dump_file_checked count r e = record { there = e.1.1.0; named = e.1.1.1.0 }

file_checked : (count : ℕ) (r : Reading) → words_fault PgDump count r ≡ None → FileChecked (is_directory (named_format (last_of opt.Format r))) count (last_of opt.File r)
unfolding words_fault checks
file_checked count r e =
    dump_file_checked count r (all_none (pg_dump_checks count r) ((all_none (fault_if true kinds.ExtraWord (other_of (room PgDump r) r) ∷ fault_of r ∷ checks PgDump count r ∷ []) e).1.1.0))

same_format : (place : Option Place) → format_given place ≡ named_format place
same_format None = refl
same_format (Some place) = refl

asked_directory : (found : Option Format) → format_of found ≡ format.Directory → is_directory found ≡ true
asked_directory None e = absurd cc
asked_directory (Some f) e = ap (λ x. is_directory (Some x)) e

not_missing : (count : ℕ) → missing_if true count ≡ None → ⊥
not_missing count e = cc

named_target : (file : Option Place) (count : ℕ) → FileChecked true count file → (name : Bytes) × (printed_or (text_of file) ≡ Some name)
named_target None count c = elim (not_missing count c.there) [ ]
named_target (Some f) count c = by (bytes_eq f.value (codes "-")) refl c.named
  where
    by : (dash : Bool) → bytes_eq f.value (codes "-") ≡ dash → fault_if dash kinds.BadValue (Some f) ≡ None → (name : Bytes) × (printed_or (Some f.value) ≡ Some name)
    by true e h = absurd cc
    by false e h = (f.value, ap (λ (dash : Bool). cond {A = Option Bytes} dash None (Some f.value)) e)

dump_has_folder : (count : ℕ) (r : Reading) → words_fault PgDump count r ≡ None → HasFolder (asked_for (dump_of r))
unfolding dump_of
dump_has_folder count r e = λ is.
    named_target (last_of opt.File r) count
    (subst (λ (directory : Bool). FileChecked directory count (last_of opt.File r)) (asked_directory (named_format (last_of opt.Format r)) (ap format_of (sym (same_format (last_of opt.Format r))) ∙ is)) (file_checked count r e))

-- ---- the words

module _ (P : DumpAsked → Type 0) (holds : (count : ℕ) (r : Reading) → words_fault PgDump count r ≡ None → P (asked_for (dump_of r))) where
  of_dump : (r : Reading) (a : DumpAsked) → built (dump_asked (dump_of r)) ≡ Ok (asked.Dump a) → P (asked_for (dump_of r)) → P a
  of_dump r a e h = subst P (inner (asked_for (dump_of r)) a e) h
    where
      inner : (x y : DumpAsked) → ◌≡◌ {A = Result Asked Outcome} (Ok (asked.Dump x)) (Ok (asked.Dump y)) → x ≡ y
      inner x y e = cc

  not_restored : (folder : Bytes) (words : RestoreWords) (b : Bool) (a : DumpAsked) → built (cond b None (Some (asked.Restore (restoring_of folder words)))) ≡ Ok (asked.Dump a) → ⊥
  not_restored folder words true a e = cc
  not_restored folder words false a e = cc

  not_unlisted : (folder : Option Bytes) (words : RestoreWords) (a : DumpAsked) → built (unlisted_asked folder words) ≡ Ok (asked.Dump a) → ⊥
  not_unlisted None words a e = cc
  not_unlisted (Some folder) words a e = not_restored folder words (has_workers words.jobs) a e

  not_archive : (words : RestoreWords) (b : Bool) (a : DumpAsked) → built (cond b (Some (asked.Archive (archive_of words))) (unlisted_asked words.dbname words)) ≡ Ok (asked.Dump a) → ⊥
  not_archive words true a e = cc
  not_archive words false a e = not_unlisted words.dbname words a e

  commanded : (tool : Tool) (count : ℕ) (r : Reading) (a : DumpAsked) → words_fault tool count r ≡ None → built (asked_of (command_of tool r)) ≡ Ok (asked.Dump a) → P a
  unfolding command_of
  commanded PgDump count r a none e = of_dump r a e (holds count r none)
  commanded PgRestore count r a none e = elim (not_archive (restore_of r) _ a e) [ ]
  commanded PgDumpall count r a none e = absurd cc
  commanded Psql count r a none e = absurd cc
  commanded PgCatcmp count r a none e = absurd cc
  commanded PgClone count r a none e = absurd cc
  commanded PgGen count r a none e = absurd cc

  by_fault : (fault : Option UsageFault) (tool : Tool) (words : List Bytes) (a : DumpAsked) → fault_with tool words ≡ fault → asked_by (or_command fault tool words) ≡ Ok (asked.Dump a) → P a
  by_fault (Some fault) tool words a e h = absurd cc
  by_fault None tool words a e h = commanded tool _ (said_by tool words) a e h

  by_tool : (tool : Result Tool UsageFault) (words : List Bytes) (a : DumpAsked) → asked_by (command_by_tool tool words) ≡ Ok (asked.Dump a) → P a
  by_tool (Err fault) words a h = absurd cc
  by_tool (Ok tool) words a h = by_fault (fault_with tool words) tool words a refl h

  words_ask : (words : List Bytes) (a : DumpAsked) → words_asked words ≡ Ok (asked.Dump a) → P a
  unfolding words_asked command_from
  words_ask words a h = by_tool (tool_in words) words a h

pub words_outside : (words : List Bytes) (a : DumpAsked) → words_asked words ≡ Ok (asked.Dump a) → IsOutside a.folder a.target
words_outside words a h = words_ask (λ (x : DumpAsked). IsOutside x.folder x.target) dump_outside words a h

pub words_name : (words : List Bytes) (a : DumpAsked) → words_asked words ≡ Ok (asked.Dump a) → HasFolder a
words_name words a h = words_ask HasFolder dump_has_folder words a h
