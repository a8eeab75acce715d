-- The tools and what each takes of every option.
use Rattle.std.specs.Prelude.{ℕ, Bool, ◌==◌, List, Option, Some, None, codes, if◌then◌else◌}
use Rattle.std.specs.Str.{bytes_eq}
use Rattle.command_line.specs.declared.options.Tool.{Tool}
use Rattle.command_line.specs.declared.options.Tool.TheVariants.{PgDump, PgRestore, PgDumpall, Psql, PgCatcmp, PgClone, PgGen}
use Rattle.command_line.specs.declared.options.Opt.{Opt}
use Rattle.command_line.specs.declared.options.Opt.TheVariants as opt
use Rattle.command_line.specs.declared.options.Takes.{Takes}
use Rattle.command_line.specs.declared.options.Takes.TheVariants.{Lacking, LeftOut, Flag, Value}
use Rattle.command_line.specs.declared.options.ValueKind.TheVariants.{Any, DumpFormat, ArchiveFormat, Pattern, Section, Compression, Jobs, Tables, Variable}

abbrev pub tool_name : Tool → List ℕ
tool_name PgDump = codes "pg_dump"
tool_name PgRestore = codes "pg_restore"
tool_name PgDumpall = codes "pg_dumpall"
tool_name Psql = codes "psql"
tool_name PgCatcmp = codes "pg_catcmp"
tool_name PgClone = codes "pg_clone"
tool_name PgGen = codes "pg_gen"

-- the tool of a name
abbrev pub tool_of : List ℕ → Option Tool
tool_of name =
    if bytes_eq name (tool_name PgDump) then Some PgDump
    else (if bytes_eq name (tool_name PgRestore) then Some PgRestore
    else (if bytes_eq name (tool_name PgDumpall) then Some PgDumpall
    else (if bytes_eq name (tool_name Psql) then Some Psql
    else (if bytes_eq name (tool_name PgCatcmp) then Some PgCatcmp
    else (if bytes_eq name (tool_name PgClone) then Some PgClone
    else (if bytes_eq name (tool_name PgGen) then Some PgGen else None))))))

-- what pg_dump and pg_clone take to choose objects
abbrev pub choice_takes : Opt → Takes
choice_takes opt.DataOnly = Flag
choice_takes opt.SchemaOnly = Flag
choice_takes opt.Schema = Value Pattern
choice_takes opt.ExcludeSchema = Value Pattern
choice_takes opt.Table = Value Pattern
choice_takes opt.ExcludeTable = Value Pattern
choice_takes opt.ExcludeTableData = Value Pattern
choice_takes opt.NoOwner = Flag
choice_takes opt.NoPrivileges = Flag
choice_takes opt.NoComments = Flag
choice_takes opt.Section = Value Section
choice_takes opt.StrictNames = Flag
choice_takes _ = Lacking

-- `-C` is left out, and so are for now large objects, dropping before a restore, and workers of a dump
abbrev pub pg_dump_takes : Opt → Takes
pg_dump_takes opt.Dbname = Value Any
pg_dump_takes opt.File = Value Any
pg_dump_takes opt.Format = Value DumpFormat
pg_dump_takes opt.Compress = Value Compression
pg_dump_takes opt.Create = LeftOut
pg_dump_takes opt.Clean = LeftOut
pg_dump_takes opt.IfExists = LeftOut
pg_dump_takes opt.LargeObjects = LeftOut
pg_dump_takes opt.NoLargeObjects = LeftOut
pg_dump_takes opt.Jobs = LeftOut
pg_dump_takes option = choice_takes option

-- schemas and tables of an archive are exact names
abbrev pub pg_restore_takes : Opt → Takes
pg_restore_takes opt.Dbname = Value Any
pg_restore_takes opt.File = Value Any
pg_restore_takes opt.Format = Value ArchiveFormat
pg_restore_takes opt.List = Flag
pg_restore_takes opt.UseList = Value Any
pg_restore_takes opt.Jobs = Value Jobs
pg_restore_takes opt.SingleTransaction = Flag
pg_restore_takes opt.ExitOnError = Flag
pg_restore_takes opt.DataOnly = Flag
pg_restore_takes opt.SchemaOnly = Flag
pg_restore_takes opt.Schema = Value Any
pg_restore_takes opt.ExcludeSchema = Value Any
pg_restore_takes opt.Table = Value Any
pg_restore_takes opt.NoOwner = Flag
pg_restore_takes opt.NoPrivileges = Flag
pg_restore_takes opt.NoComments = Flag
pg_restore_takes opt.Section = Value Section
pg_restore_takes opt.Create = LeftOut
pg_restore_takes opt.Clean = LeftOut
pg_restore_takes opt.IfExists = LeftOut
pg_restore_takes _ = Lacking

abbrev pub pg_dumpall_takes : Opt → Takes
pg_dumpall_takes opt.Dbname = Value Any
pg_dumpall_takes opt.File = Value Any
pg_dumpall_takes opt.GlobalsOnly = Flag
pg_dumpall_takes opt.RolesOnly = Flag
pg_dumpall_takes opt.SchemaOnly = Flag
pg_dumpall_takes opt.NoOwner = Flag
pg_dumpall_takes opt.NoPrivileges = Flag
pg_dumpall_takes _ = Lacking

abbrev pub psql_takes : Opt → Takes
psql_takes opt.Dbname = Value Any
psql_takes opt.File = Value Any
psql_takes opt.Variable = Value Variable
psql_takes _ = Lacking

abbrev pub pg_clone_takes : Opt → Takes
pg_clone_takes opt.Format = Value DumpFormat
pg_clone_takes opt.File = Value Any
pg_clone_takes opt.Jobs = Value Jobs
pg_clone_takes option = choice_takes option

abbrev pub pg_gen_takes : Opt → Takes
pg_gen_takes opt.Tables = Value Tables
pg_gen_takes opt.Jobs = Value Jobs
pg_gen_takes opt.File = Value Any
pg_gen_takes _ = Lacking

abbrev pub takes : Tool → Opt → Takes
takes PgDump option = pg_dump_takes option
takes PgRestore option = pg_restore_takes option
takes PgDumpall option = pg_dumpall_takes option
takes Psql option = psql_takes option
takes PgCatcmp option = Lacking
takes PgClone option = pg_clone_takes option
takes PgGen option = pg_gen_takes option

-- the place of an option in the list of all
abbrev pub place : Opt → ℕ
place opt.Dbname = 0
place opt.File = 1
place opt.Format = 2
place opt.DataOnly = 3
place opt.SchemaOnly = 4
place opt.Schema = 5
place opt.ExcludeSchema = 6
place opt.Table = 7
place opt.ExcludeTable = 8
place opt.ExcludeTableData = 9
place opt.NoOwner = 10
place opt.NoPrivileges = 11
place opt.NoComments = 12
place opt.Section = 13
place opt.StrictNames = 14
place opt.Compress = 15
place opt.List = 16
place opt.UseList = 17
place opt.Jobs = 18
place opt.SingleTransaction = 19
place opt.ExitOnError = 20
place opt.GlobalsOnly = 21
place opt.RolesOnly = 22
place opt.Variable = 23
place opt.Tables = 24
place opt.Create = 25
place opt.Clean = 26
place opt.IfExists = 27
place opt.LargeObjects = 28
place opt.NoLargeObjects = 29

abbrev pub is_same : Opt → Opt → Bool
is_same option other = place option == place other
