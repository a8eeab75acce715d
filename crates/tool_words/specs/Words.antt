-- What the words of a command line ask for, as far as it is built, and who tells a refusal.
use Rattle.std.specs.Prelude.{ℕ, nat_lt, Bool, true, false, ◌||◌, List, [], ◌∷◌, Option, Some, None, is_none, Result, Ok, Err, codes, if◌then◌else◌}
use Rattle.std.specs.Str.{bytes_eq}
use Rattle.cat_model.specs.Values.{Bytes}
use Rattle.cat_model.specs.declared.words.What.TheVariants.{Unbuilt}
use Rattle.command_line.specs.declared.command.Command.{Command}
use Rattle.command_line.specs.declared.command.Command.TheVariants as command
use Rattle.command_line.specs.declared.command.Folder.{Folder}
use Rattle.command_line.specs.declared.command.Folder.TheVariants as folder
use Rattle.command_line.specs.declared.command.DumpWords.{DumpWords}
use Rattle.command_line.specs.declared.command.PsqlWords.{PsqlWords}
use Rattle.command_line.specs.declared.command.RestoreWords.{RestoreWords}
use Rattle.command_line.specs.declared.options.Tool.{Tool}
use Rattle.command_line.specs.declared.usage.UsageFault.{UsageFault}
use Rattle.command_line.specs.declared.values.Format.{Format}
use Rattle.command_line.specs.declared.values.Format.TheVariants as format
use Rattle.command_line.specs.Options.{tool_of}
use Rattle.command_line.specs.Usage.{usage_of, command_from}
use Rattle.tool_words.specs.declared.outcome.Outcome.{Outcome}
use Rattle.tool_words.specs.declared.outcome.Outcome.TheVariants.{Usage, OutOfProfile}
use Rattle.tool_words.specs.declared.words.Asked.{Asked}
use Rattle.tool_words.specs.declared.words.Asked.TheVariants.{Psql, Dump, Archive, Restore, Compare}
use Rattle.tool_words.specs.declared.words.ArchiveAsked.{ArchiveAsked}
use Rattle.tool_words.specs.declared.words.DumpAsked.{DumpAsked}
use Rattle.tool_words.specs.declared.words.RestoreAsked.{RestoreAsked}
use Rattle.tool_words.specs.declared.words.ScriptSource.{ScriptSource}
use Rattle.tool_words.specs.declared.words.ScriptSource.TheVariants.{File, Input}
use Rattle.tool_words.specs.declared.words.Teller.{Teller}
use Rattle.tool_words.specs.declared.words.Teller.TheVariants as teller

-- ---- what is built of a command

-- the folder, in whichever way it was named
abbrev pub folder_named : Folder → Bytes
folder_named (folder.Dbname name) = name
folder_named (folder.Word name) = name

-- where psql's script is read: the file that is named; standard input where none is, or `-`
abbrev pub script_from : Option Bytes → ScriptSource
script_from None = Input
script_from (Some name) = if bytes_eq name (codes "-") then Input else File name

-- psql applies a script, to its end or to the first statement that is refused
abbrev pub psql_asked : PsqlWords → Option Asked
psql_asked words = Some (Psql (folder_named words.folder) (script_from words.file) words.on_error_stop)

-- a script is what is written where no format is named
abbrev pub format_of : Option Format → Format
format_of None = format.Plain
format_of (Some f) = f

-- where a dump is written: standard output where no file is named, or `-`
abbrev pub printed_or : Option Bytes → Option Bytes
printed_or None = None
printed_or (Some name) = if bytes_eq name (codes "-") then None else Some name

-- pg_dump dumps what is chosen of a folder
abbrev pub dump_asked : DumpWords → Option Asked
dump_asked words = Some (Dump (record { folder = folder_named words.folder; choice = words.choice; format = format_of words.format; target = printed_or words.file }))

-- what is read and written, and the other words of pg_restore
abbrev pub archive_of : RestoreWords → ArchiveAsked
archive_of words = record { archive = printed_or words.archive; target = printed_or words.file; words = record words { archive = None; file = None } }

-- more than one worker is asked for
abbrev pub has_workers : Option ℕ → Bool
has_workers None = false
has_workers (Some jobs) = nat_lt 1 jobs

-- the folder that is restored into, what is read, and the other words of pg_restore
abbrev pub restoring_of : Bytes → RestoreWords → RestoreAsked
restoring_of folder words = record { folder = folder; archive = printed_or words.archive; words = record words { dbname = None; archive = None } }

-- pg_restore restores into a folder with one worker
abbrev pub restore_asked : Bytes → RestoreWords → Option Asked
restore_asked folder words = if has_workers words.jobs then None else Some (Restore (restoring_of folder words))

-- where no list is asked for it restores into the folder that is named, and writes a script where none is
abbrev pub unlisted_asked : Option Bytes → RestoreWords → Option Asked
unlisted_asked None words = Some (Archive (archive_of words))
unlisted_asked (Some folder) words = restore_asked folder words

-- pg_restore writes a list where that is asked for
abbrev pub archive_asked : RestoreWords → Option Asked
archive_asked words = if words.list then Some (Archive (archive_of words)) else unlisted_asked words.dbname words

-- what a command asks for, where that is built
abbrev pub asked_of : Command → Option Asked
asked_of (command.Psql words) = psql_asked words
asked_of (command.PgDump words) = dump_asked words
asked_of (command.PgCatcmp words) = Some (Compare words.first words.second)
asked_of (command.PgRestore words) = archive_asked words
asked_of (command.PgDumpall words) = None
asked_of (command.PgClone words) = None
asked_of (command.PgGen words) = None

abbrev pub built : Option Asked → Result Asked Outcome
built None = Err (OutOfProfile Unbuilt)
built (Some asked) = Ok asked

abbrev pub asked_by : Result Command UsageFault → Result Asked Outcome
asked_by (Err fault) = Err (Usage fault.word fault.kind)
asked_by (Ok command) = built (asked_of command)

-- What a list of words asks for: the first word that fails is told, and a command of which something isn't built is
-- refused at once.
unfoldable pub words_asked : List Bytes → Result Asked Outcome
words_asked words = asked_by (command_from words)

-- ---- what reads standard input

abbrev pub is_input : ScriptSource → Bool
is_input (File name) = false
is_input Input = true

-- psql reads standard input, where its script stands there, and pg_restore where the archive does
abbrev pub asks_for_input : Asked → Bool
asks_for_input (Psql folder script stop) = is_input script
asks_for_input (Dump asked) = false
asks_for_input (Archive asked) = is_none asked.archive
asks_for_input (Restore asked) = is_none asked.archive
asks_for_input (Compare first second) = false

abbrev pub asked_input : Result Asked Outcome → Bool
asked_input (Err refusal) = false
asked_input (Ok asked) = asks_for_input asked

-- whether the words ask for what reads standard input
abbrev pub reads_input : List Bytes → Bool
reads_input words = asked_input (words_asked words)

-- ---- who tells a refusal

abbrev pub told_by : Option UsageFault → Option Tool → Teller
told_by None (Some tool) = teller.Tool tool
told_by _ _ = teller.Program

-- the tool that the first word names; the program itself where the words have no reading
unfoldable pub teller_of : List Bytes → Teller
teller_of [] = teller.Program
teller_of (name ∷ words) = told_by (usage_of (name ∷ words)) (tool_of name)
