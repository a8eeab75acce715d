-- How the options are spelled.
use Rattle.std.specs.Prelude.{ℕ, Bool, false, ◌||◌, ◌==◌, List, Option, None, option_map, find, codes}
use Rattle.std.specs.Str.{bytes_eq}
use Rattle.command_line.specs.declared.options.Tool.{Tool}
use Rattle.command_line.specs.declared.options.Tool.TheVariants.{PgGen}
use Rattle.command_line.specs.declared.options.Opt.{Opt}
use Rattle.command_line.specs.declared.options.Opt.TheVariants as opt
use Rattle.command_line.specs.declared.options.TheConstants.{LETTERS, GEN_LETTERS, NAMED}

abbrev pub found_letter : List (ℕ × Opt) → ℕ → Option Opt
found_letter letters letter = option_map (λ l. l.1) (find (λ l. l.0 == letter) letters)

-- the option that a letter stands for; pg_gen has letters of its own
unfoldable pub option_of_letter : Tool → ℕ → Option Opt
option_of_letter PgGen letter = found_letter GEN_LETTERS letter
option_of_letter _ letter = found_letter LETTERS letter

-- the long names
abbrev pub is_named : Opt → List ℕ → Bool
is_named opt.Dbname name = bytes_eq name (codes "dbname")
is_named opt.File name = bytes_eq name (codes "file")
is_named opt.Format name = bytes_eq name (codes "format")
is_named opt.DataOnly name = bytes_eq name (codes "data-only")
is_named opt.SchemaOnly name = bytes_eq name (codes "schema-only")
is_named opt.Schema name = bytes_eq name (codes "schema")
is_named opt.ExcludeSchema name = bytes_eq name (codes "exclude-schema")
is_named opt.Table name = bytes_eq name (codes "table")
is_named opt.ExcludeTable name = bytes_eq name (codes "exclude-table")
is_named opt.ExcludeTableData name = bytes_eq name (codes "exclude-table-data")
is_named opt.NoOwner name = bytes_eq name (codes "no-owner")
is_named opt.NoPrivileges name = bytes_eq name (codes "no-privileges") || bytes_eq name (codes "no-acl")
is_named opt.NoComments name = bytes_eq name (codes "no-comments")
is_named opt.Section name = bytes_eq name (codes "section")
is_named opt.StrictNames name = bytes_eq name (codes "strict-names")
is_named opt.Compress name = bytes_eq name (codes "compress")
is_named opt.List name = bytes_eq name (codes "list")
is_named opt.UseList name = bytes_eq name (codes "use-list")
is_named opt.Jobs name = bytes_eq name (codes "jobs")
is_named opt.SingleTransaction name = bytes_eq name (codes "single-transaction")
is_named opt.ExitOnError name = bytes_eq name (codes "exit-on-error")
is_named opt.GlobalsOnly name = bytes_eq name (codes "globals-only")
is_named opt.RolesOnly name = bytes_eq name (codes "roles-only")
is_named opt.Create name = bytes_eq name (codes "create")
is_named opt.Clean name = bytes_eq name (codes "clean")
is_named opt.IfExists name = bytes_eq name (codes "if-exists")
is_named opt.LargeObjects name = bytes_eq name (codes "large-objects")
is_named opt.NoLargeObjects name = bytes_eq name (codes "no-large-objects")
is_named opt.Variable name = false
is_named opt.Tables name = false

-- the option that a long name stands for; pg_gen has none
unfoldable pub option_of_name : Tool → List ℕ → Option Opt
option_of_name PgGen name = None
option_of_name _ name = find (λ option. is_named option name) NAMED
