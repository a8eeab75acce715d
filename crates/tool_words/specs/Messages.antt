-- The lines that the program writes to standard error.
-- A key is told by the word for its kind and its names; a name is written as SQL writes it.
use Rattle.std.specs.Prelude.{ℕ, ◌++◌, List, [], ◌∷◌, codes, decimal}
use Rattle.std.specs.List.{flat_map}
use Rattle.cat_model.specs.declared.words.What.{What}
use Rattle.cat_model.specs.declared.words.What.TheVariants as what
use Rattle.command_line.specs.declared.usage.UsageKind.{UsageKind}
use Rattle.command_line.specs.declared.usage.UsageKind.TheVariants as usage
use Rattle.command_line.specs.Options.{tool_name}
use Rattle.tool_words.specs.declared.words.Teller.{Teller}
use Rattle.tool_words.specs.declared.words.Teller.TheVariants as teller
use Rattle.tool_words.specs.declared.outcome.Unmatched.{Unmatched}
use Rattle.tool_words.specs.declared.outcome.Unmatched.TheVariants as unmatched
use Rattle.tool_words.specs.declared.outcome.Limit.{Limit}
use Rattle.tool_words.specs.declared.outcome.Limit.TheVariants.{Script, TableFile, DataFile, Folder, Entries, Archive, ListFile}
use Rattle.tool_words.specs.declared.outcome.Outcome.{Outcome}
use Rattle.tool_words.specs.declared.outcome.Outcome.TheVariants as outcome
use Rattle.ddl_read.specs.Faults.{fault_place}
use Rattle.list_files.specs.declared.fault.ListFault.{ListFault}
use Rattle.list_files.specs.declared.fault.ListFault.TheVariants as list
use Rattle.toc_layout.specs.declared.fault.ArchiveFault.{ArchiveFault}
use Rattle.toc_layout.specs.declared.fault.ArchiveFault.TheVariants as archive
use Rattle.toc_layout.specs.declared.fault.HeadFault.TheVariants as head
use Rattle.folder_io.specs.Folders.{file_name}
use Rattle.sql_lex.specs.Written.{written_name}
use Rattle.cat_model.specs.Values.{Bytes}
use Rattle.cat_model.specs.declared.object.QName.{QName}
use Rattle.cat_model.specs.declared.object.Object.{Object}
use Rattle.cat_model.specs.declared.object.Object.TheVariants as object
use Rattle.cat_model.specs.declared.key.Key.{Key}
use Rattle.cat_model.specs.declared.key.Key.TheVariants as key
use Rattle.cat_model.specs.declared.cause.Cause.{Cause}
use Rattle.cat_model.specs.declared.cause.Cause.TheVariants as cause

abbrev pub dotted : QName → List ℕ
dotted q = written_name q.schema ++ codes "." ++ written_name q.name

abbrev pub part : QName → Bytes → List ℕ
part q name = dotted q ++ codes " " ++ written_name name

abbrev pub object_path : Object → List ℕ
object_path (object.Schema name) = written_name name
object_path (object.Type q) = dotted q
object_path (object.Relation q) = dotted q
object_path (object.Column q name) = part q name
object_path (object.Constraint q name) = part q name
object_path (object.Database name) = written_name name

abbrev pub key_text : Key → List ℕ
key_text (key.Role name) = codes "role " ++ written_name name
key_text (key.Member role member grantor) = codes "member " ++ written_name role ++ codes " " ++ written_name member ++ codes " " ++ written_name grantor
key_text (key.Schema name) = codes "schema " ++ written_name name
key_text (key.UserType q) = codes "type " ++ dotted q
key_text (key.Rel q) = codes "relation " ++ dotted q
key_text (key.Owner o) = codes "owner " ++ object_path o
key_text (key.Default q name) = codes "default " ++ part q name
key_text (key.Con q name) = codes "constraint " ++ part q name
key_text (key.Index q name) = codes "index " ++ part q name
key_text (key.Rows q) = codes "rows " ++ dotted q
key_text (key.SeqVal q) = codes "value " ++ dotted q
key_text (key.OwnedBy q) = codes "owned by " ++ dotted q
key_text (key.Acl o) = codes "grants " ++ object_path o
key_text (key.Comment o) = codes "comment " ++ object_path o
key_text (key.Body q) = codes "body " ++ dotted q
key_text (key.Database name) = codes "database " ++ written_name name

abbrev pub in_row : ℕ → ℕ → List ℕ
in_row row column = codes "row " ++ decimal row ++ codes " column " ++ decimal column

-- why a statement was refused
abbrev pub cause_text : Cause → List ℕ
cause_text (cause.Exists k) = key_text k ++ codes " already exists"
cause_text (cause.Absent k) = key_text k ++ codes " does not exist"
cause_text (cause.BadValue column row) = in_row row column ++ codes " has a bad value"
cause_text (cause.NullValue column row) = in_row row column ++ codes " is null"
cause_text (cause.Duplicate name first second) = codes "rows " ++ decimal first ++ codes " and " ++ decimal second ++ codes " have one key for " ++ written_name name
cause_text (cause.NoParent name row) = codes "row " ++ decimal row ++ codes " has no parent for " ++ written_name name
cause_text cause.WrongColumns = codes "wrong columns"
cause_text (cause.KeyMissing k) = key_text k ++ codes " has no such key"
cause_text cause.OutOfRange = codes "value out of range"
cause_text (cause.Fields row found) = codes "row " ++ decimal row ++ codes " has " ++ decimal found ++ codes " fields"
cause_text (cause.BadRow row fault) = codes "row " ++ decimal row ++ codes " is not COPY text"

-- a refused statement of a script: its place and why
abbrev pub Refusal : Type 0
Refusal = ℕ × Cause

abbrev pub refusal_line : Refusal → List ℕ
refusal_line refusal = codes "psql: error: at " ++ decimal refusal.0 ++ codes ": " ++ cause_text refusal.1 ++ 10 ∷ []

-- ---- a call that is refused as a whole

abbrev pub kind_text : UsageKind → List ℕ
kind_text usage.NoCommand = codes "NoCommand"
kind_text usage.UnknownCommand = codes "UnknownCommand"
kind_text usage.OutOfProfile = codes "OutOfProfile"
kind_text usage.UnknownOption = codes "UnknownOption"
kind_text usage.MissingValue = codes "MissingValue"
kind_text usage.BadValue = codes "BadValue"
kind_text usage.ExtraWord = codes "ExtraWord"
kind_text usage.Excluded = codes "Excluded"
kind_text usage.MissingOption = codes "MissingOption"

abbrev pub limit_text : Limit → List ℕ
limit_text Script = codes "Script"
limit_text TableFile = codes "TableFile"
limit_text DataFile = codes "DataFile"
limit_text Folder = codes "Folder"
limit_text Entries = codes "Entries"
limit_text Archive = codes "Archive"
limit_text ListFile = codes "ListFile"

abbrev pub what_text : What → List ℕ
what_text what.Gzip = codes "Gzip"
what_text what.Lz4 = codes "Lz4"
what_text what.Zstd = codes "Zstd"
what_text what.Tar = codes "Tar"
what_text what.LargeObjects = codes "LargeObjects"
what_text (what.RelKind kind) = codes "RelKind"
what_text what.Persistence = codes "Persistence"
what_text (what.TypeKind kind) = codes "TypeKind"
what_text (what.ConstraintKind kind) = codes "ConstraintKind"
what_text what.Encoding = codes "Encoding"
what_text what.Identity = codes "Identity"
what_text what.Inheritance = codes "Inheritance"
what_text what.Tablespace = codes "Tablespace"
what_text what.GrantByOther = codes "GrantByOther"
what_text what.CommentKind = codes "CommentKind"
what_text what.DefaultOnView = codes "DefaultOnView"
what_text what.Columns = codes "Columns"
what_text (what.EntryKind text) = codes "EntryKind"
what_text what.Unbuilt = codes "Unbuilt"

-- how the teller is called
abbrev pub teller_name : Teller → List ℕ
teller_name teller.Program = codes "pgtools"
teller_name (teller.Tool tool) = tool_name tool

-- the place of a pattern among those of its option
abbrev pub place_of : Unmatched → ℕ
place_of (unmatched.Schemas at) = at
place_of (unmatched.Tables at) = at

-- the line of a list file that names no entry
abbrev pub line_of : ListFault → ℕ
line_of (list.NotANumber line) = line
line_of (list.UnknownId line) = line

-- an archive that has no reading, and a text that is a script and no archive
abbrev pub archive_text : ArchiveFault → List ℕ
archive_text (archive.Head head.TextDump) = codes "input file appears to be a text format dump. Please use psql."
archive_text _ = codes "bad archive"

abbrev pub outcome_text : Outcome → List ℕ
outcome_text outcome.Done = []
outcome_text (outcome.Usage word kind) = codes "word " ++ decimal word ++ codes ": " ++ kind_text kind
outcome_text outcome.ReadFault = codes "could not read"
outcome_text outcome.WriteFault = codes "could not write"
outcome_text (outcome.Missing name) = codes "missing file " ++ name
outcome_text (outcome.BadExport file line kind) = codes "bad export " ++ file_name file ++ codes " line " ++ decimal line
outcome_text (outcome.BadScript fault) = codes "bad script at " ++ decimal (fault_place fault)
outcome_text (outcome.OutOfProfile what) = codes "not supported: " ++ what_text what
outcome_text (outcome.TooLarge limit most) = codes "too large: " ++ limit_text limit
outcome_text (outcome.Differs key) = codes "differs: " ++ key_text key
outcome_text (outcome.ScriptStopped stop) = codes "stopped at " ++ decimal stop.0 ++ codes ": " ++ cause_text stop.1
outcome_text (outcome.BadArchive fault) = archive_text fault
outcome_text (outcome.BadList fault) = codes "bad list line " ++ decimal (line_of fault)
outcome_text (outcome.BadDefn entry fault) = codes "entry " ++ decimal entry ++ codes " has a bad definition"
outcome_text (outcome.WithErrors errors) = codes "errors ignored on restore: " ++ decimal errors
outcome_text (outcome.RestoreStopped stop) = codes "stopped at entry " ++ decimal stop.0 ++ codes ": " ++ cause_text stop.1
outcome_text (outcome.Loop path) = codes "dependency loop"
outcome_text (outcome.NoMatch pattern) = codes "no match for pattern " ++ decimal (place_of pattern)
outcome_text outcome.Memory = codes "out of memory"

-- the line of a call that is refused
abbrev pub outcome_line : Teller → Outcome → List ℕ
outcome_line teller outcome = teller_name teller ++ codes ": error: " ++ outcome_text outcome ++ 10 ∷ []

-- ---- psql's report

-- psql's report of the statements that were refused
abbrev pub report : List Refusal → List ℕ
report refusals = flat_map refusal_line refusals
