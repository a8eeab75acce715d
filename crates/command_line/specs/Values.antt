-- Which values an option takes, and what they stand for.
use Rattle.std.specs.Prelude.{ℕ, ◌+◌, ◌-◌, ◌*◌, Bool, not, ◌||◌, ◌==◌, nat_le, List, [], ◌∷◌, Option, Some, None, is_some, codes, if◌then◌else◌}
use Rattle.std.specs.Char.{is_ascii_digit}
use Rattle.std.specs.Str.{bytes_eq}
use Rattle.patterns.specs.Reading.{fault_of}
use Rattle.command_line.specs.declared.options.ValueKind.{ValueKind}
use Rattle.command_line.specs.declared.options.ValueKind.TheVariants as kind
use Rattle.command_line.specs.declared.usage.UsageKind.{UsageKind}
use Rattle.command_line.specs.declared.usage.UsageKind.TheVariants.{OutOfProfile, BadValue}
use Rattle.command_line.specs.declared.values.Format.{Format}
use Rattle.command_line.specs.declared.values.Format.TheVariants.{Plain, Custom, Directory}
use Rattle.command_line.specs.declared.values.Section.{Section}
use Rattle.command_line.specs.declared.values.Section.TheVariants.{PreData, Data, PostData}
use Rattle.command_line.specs.declared.values.TheConstants.{MOST_JOBS, MOST_TABLES}

-- the formats of a dump
abbrev pub format_of : List ℕ → Option Format
format_of v =
    if bytes_eq v (codes "p") || bytes_eq v (codes "plain") then Some Plain
    else (if bytes_eq v (codes "c") || bytes_eq v (codes "custom") then Some Custom
    else (if bytes_eq v (codes "d") || bytes_eq v (codes "directory") then Some Directory else None))

-- PostgreSQL has one more
abbrev pub is_tar : List ℕ → Bool
is_tar v = bytes_eq v (codes "t") || bytes_eq v (codes "tar")

-- the formats of an archive that is read
abbrev pub archive_format_of : List ℕ → Option Format
archive_format_of v = if bytes_eq v (codes "c") then Some Custom else (if bytes_eq v (codes "d") then Some Directory else None)

abbrev pub section_of : List ℕ → Option Section
section_of v =
    if bytes_eq v (codes "pre-data") then Some PreData
    else (if bytes_eq v (codes "data") then Some Data
    else (if bytes_eq v (codes "post-data") then Some PostData else None))

-- no compression
abbrev pub is_plain_text : List ℕ → Bool
is_plain_text v = bytes_eq v (codes "0") || bytes_eq v (codes "none")

-- the number that digits stand for behind those that stand for n
abbrev pub number_from : ℕ → List ℕ → Option ℕ
number_from n [] = Some n
number_from n (b ∷ rest) = if is_ascii_digit b then number_from (n * 10 + (b - 48)) rest else None

-- digits, of which the first isn't 0
abbrev pub number_of : List ℕ → Option ℕ
number_of [] = None
number_of (b ∷ rest) = if b == 48 then None else number_from 0 (b ∷ rest)

abbrev pub at_most : ℕ → Option ℕ → Option ℕ
at_most most None = None
at_most most (Some n) = if nat_le n most then Some n else None

unfoldable pub number_up_to : ℕ → List ℕ → Option ℕ
number_up_to most v = at_most most (number_of v)

abbrev pub bad_unless : Bool → Option UsageKind
bad_unless taken = if taken then None else Some BadValue

-- why an option doesn't take a value
unfoldable pub value_fault : ValueKind → List ℕ → Option UsageKind
value_fault kind.Any v = None
value_fault kind.DumpFormat v = if is_tar v then Some OutOfProfile else bad_unless (is_some (format_of v))
value_fault kind.ArchiveFormat v = bad_unless (is_some (archive_format_of v))
value_fault kind.Pattern v = bad_unless (not (is_some (fault_of v)))
value_fault kind.Section v = bad_unless (is_some (section_of v))
value_fault kind.Compression v = if is_plain_text v then None else Some OutOfProfile
value_fault kind.Jobs v = bad_unless (is_some (number_up_to MOST_JOBS v))
value_fault kind.Tables v = bad_unless (is_some (number_up_to MOST_TABLES v))
value_fault kind.Variable v = bad_unless (bytes_eq v (codes "ON_ERROR_STOP=1"))
