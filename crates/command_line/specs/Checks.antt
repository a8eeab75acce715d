-- The checks between options, in their order, and why the words behind a tool's name have no reading.
-- 45 is `-`, 47 is `/`.
use Rattle.std.specs.Prelude.{ℕ, Bool, true, false, ◌&&◌, ◌||◌, not, max, nat_eq, List, [], ◌∷◌, length, drop, Option, Some, None, is_some, codes, if◌then◌else◌}
use Rattle.std.specs.List.{starts_with}
use Rattle.std.specs.Str.{bytes_eq}
use Rattle.command_line.specs.declared.options.Tool.{Tool}
use Rattle.command_line.specs.declared.options.Tool.TheVariants.{PgDump, PgRestore, PgDumpall, Psql, PgCatcmp, PgClone, PgGen}
use Rattle.command_line.specs.declared.options.Opt.{Opt}
use Rattle.command_line.specs.declared.options.Opt.TheVariants as opt
use Rattle.command_line.specs.declared.usage.UsageFault.{UsageFault}
use Rattle.command_line.specs.declared.usage.UsageKind.{UsageKind}
use Rattle.command_line.specs.declared.usage.UsageKind.TheVariants as kinds
use Rattle.command_line.specs.declared.values.Format.{Format}
use Rattle.command_line.specs.declared.values.Format.TheVariants.{Plain, Directory}
use Rattle.command_line.specs.Values.{format_of}
use Rattle.command_line.specs.Reading.{Reading}
use Rattle.command_line.specs.Mentions.{Place, fault_of, last_of, is_given, other_of}

-- ---- what a check says

-- the first fault of a list
abbrev pub first_of : List (Option UsageFault) → Option UsageFault
first_of [] = None
first_of (None ∷ later) = first_of later
first_of (Some fault ∷ later) = Some fault

abbrev pub fault_at : ℕ → UsageKind → UsageFault
fault_at word kind = record { word = word; kind = kind }

-- something is missing, where there are so many words
abbrev pub missing_if : Bool → ℕ → Option UsageFault
missing_if missing count = if missing then Some (fault_at count kinds.MissingOption) else None

-- two options that exclude each other: the later word is named
abbrev pub excluded : Option Place → Option Place → Option UsageFault
excluded None other = None
excluded (Some place) None = None
excluded (Some place) (Some other) = Some (fault_at (max place.word other.word) kinds.Excluded)

abbrev pub apart : Opt → Opt → Reading → Option UsageFault
apart option other reading = excluded (last_of option reading) (last_of other reading)

-- this option where something holds
abbrev pub fault_if : Bool → UsageKind → Option Place → Option UsageFault
fault_if holds kind None = None
fault_if holds kind (Some place) = if holds then Some (fault_at place.word kind) else None

-- ---- what the checks look at

-- an option's value is this text
abbrev pub is_text_of : List ℕ → Option Place → Bool
is_text_of text None = false
is_text_of text (Some place) = bytes_eq place.value text

-- the option where its value is another than 1
abbrev pub above_one : Option Place → Option Place
above_one None = None
above_one (Some place) = if bytes_eq place.value (codes "1") then None else Some place

-- more workers than one; a restore that writes a script or a list has one whatever it is told
abbrev pub restoring_jobs : Reading → Option Place
restoring_jobs reading = if is_given opt.File reading || is_given opt.List reading then None else above_one (last_of opt.Jobs reading)

abbrev pub named_format : Option Place → Option Format
named_format None = None
named_format (Some place) = format_of place.value

abbrev pub is_directory : Option Format → Bool
is_directory (Some Directory) = true
is_directory (Some _) = false
is_directory None = false

-- a script, which is also what is written where no format is named
abbrev pub is_plain : Option Format → Bool
is_plain (Some Plain) = true
is_plain (Some _) = false
is_plain None = true

-- the archive is read from standard input
abbrev pub reads_input : Option Place → Bool
reads_input None = true
reads_input (Some place) = bytes_eq place.value (codes "-")

-- the file lies in the folder
abbrev pub lies_in : List ℕ → List ℕ → Bool
lies_in folder file = starts_with nat_eq file folder && starts_with nat_eq (drop (length folder) file) (codes "/")

abbrev pub is_in : Option Place → Option Place → Bool
is_in None file = false
is_in (Some folder) None = false
is_in (Some folder) (Some file) = lies_in folder.value file.value

-- the folder of pg_dump, pg_dumpall or psql
abbrev pub folder_place : Reading → Option Place
folder_place reading = if is_given opt.Dbname reading then last_of opt.Dbname reading else other_of 0 reading

abbrev pub none : Option Place → Bool
none place = not (is_some place)

-- workers exclude a script, which has a word of its own only where the format is named
abbrev pub excluded_plain : Option Place → Option Place → Option UsageFault
excluded_plain None jobs = fault_if true kinds.Excluded jobs
excluded_plain (Some format) jobs = if is_plain (format_of format.value) then excluded (Some format) jobs else None

-- ---- the checks of each tool

unfoldable pub pg_dump_checks : ℕ → Reading → List (Option UsageFault)
pg_dump_checks count r =
    let file = last_of opt.File r in
    let directory = is_directory (named_format (last_of opt.Format r)) in
    apart opt.DataOnly opt.SchemaOnly r
    ∷ missing_if (none (folder_place r)) count
    ∷ missing_if (directory && none file) count
    ∷ fault_if (directory && is_text_of (codes "-") file) kinds.BadValue file
    ∷ fault_if (is_in (folder_place r) file) kinds.BadValue file ∷ []

unfoldable pub pg_restore_checks : ℕ → Reading → List (Option UsageFault)
pg_restore_checks count r =
    let jobs = restoring_jobs r in
    apart opt.DataOnly opt.SchemaOnly r
    ∷ apart opt.Dbname opt.File r
    ∷ missing_if (not (is_given opt.Dbname r || is_given opt.File r || is_given opt.List r)) count
    ∷ excluded (last_of opt.SingleTransaction r) jobs
    ∷ excluded (last_of opt.ExitOnError r) jobs
    ∷ apart opt.SingleTransaction opt.File r
    ∷ fault_if (reads_input (other_of 0 r)) kinds.Excluded jobs ∷ []

unfoldable pub pg_dumpall_checks : ℕ → Reading → List (Option UsageFault)
pg_dumpall_checks count r =
    let file = last_of opt.File r in
    missing_if (none (last_of opt.Dbname r)) count
    ∷ fault_if (is_in (last_of opt.Dbname r) file) kinds.BadValue file ∷ []

unfoldable pub pg_clone_checks : ℕ → Reading → List (Option UsageFault)
pg_clone_checks count r =
    let file = last_of opt.File r in
    let format = last_of opt.Format r in
    let jobs = above_one (last_of opt.Jobs r) in
    apart opt.DataOnly opt.SchemaOnly r
    ∷ missing_if (none (other_of 1 r)) count
    ∷ missing_if (none file) count
    ∷ excluded_plain format jobs
    ∷ fault_if (is_text_of (codes "-") file) kinds.BadValue file
    ∷ fault_if (is_in (other_of 0 r) file) kinds.BadValue file
    ∷ fault_if (is_in (other_of 1 r) file) kinds.BadValue file ∷ []

unfoldable pub pg_gen_checks : ℕ → Reading → List (Option UsageFault)
pg_gen_checks count r =
    let file = last_of opt.File r in
    missing_if (none file) count
    ∷ missing_if (none (last_of opt.Tables r)) count
    ∷ fault_if (is_text_of (codes "-") file) kinds.BadValue file ∷ []

unfoldable pub checks : Tool → ℕ → Reading → Option UsageFault
checks PgDump count r = first_of (pg_dump_checks count r)
checks PgRestore count r = first_of (pg_restore_checks count r)
checks PgDumpall count r = first_of (pg_dumpall_checks count r)
checks Psql count r = missing_if (none (folder_place r)) count
checks PgCatcmp count r = missing_if (none (other_of 1 r)) count
checks PgClone count r = first_of (pg_clone_checks count r)
checks PgGen count r = first_of (pg_gen_checks count r)

-- ---- the whole

-- how many words a tool takes that are no options
abbrev pub room : Tool → Reading → ℕ
room PgDump r = if is_given opt.Dbname r then 0 else 1
room PgRestore r = 1
room PgDumpall r = 0
room Psql r = if is_given opt.Dbname r then 0 else 1
room PgCatcmp r = 2
room PgClone r = 2
room PgGen r = 0

-- a word too many, which stands before any word that can't be read; then such a word; then the checks
unfoldable pub words_fault : Tool → ℕ → Reading → Option UsageFault
words_fault tool count r =
    first_of (fault_if true kinds.ExtraWord (other_of (room tool r) r) ∷ fault_of r ∷ checks tool count r ∷ [])
