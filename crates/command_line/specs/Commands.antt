-- What the words ask for, from what they say.
-- What the checks make sure of is taken as given: a value that is missing would be empty, a pattern that is none left out.
use Rattle.std.specs.Prelude.{ℕ, List, [], ◌∷◌, Option, Some, None, Result, Ok, Err, unwrap_or}
use Rattle.patterns.specs.declared.fault.PatternFault.{PatternFault}
use Rattle.patterns.specs.Parts.{Parts}
use Rattle.patterns.specs.Reading.{pattern_of}
use Rattle.command_line.specs.declared.options.Tool.{Tool}
use Rattle.command_line.specs.declared.options.Tool.TheVariants as tool
use Rattle.command_line.specs.declared.options.Opt.TheVariants as opt
use Rattle.command_line.specs.declared.lists.PatternWord.{PatternWord}
use Rattle.command_line.specs.declared.values.Format.{Format}
use Rattle.command_line.specs.declared.values.Section.{Section}
use Rattle.command_line.specs.declared.values.TheConstants.{MOST_JOBS, MOST_TABLES}
use Rattle.command_line.specs.declared.command.Command.{Command}
use Rattle.command_line.specs.declared.command.Command.TheVariants.{PgDump, PgRestore, PgDumpall, Psql, PgCatcmp, PgClone, PgGen}
use Rattle.command_line.specs.declared.command.Folder.{Folder}
use Rattle.command_line.specs.declared.command.Folder.TheVariants.{Dbname, Word}
use Rattle.command_line.specs.declared.command.Choice.{Choice}
use Rattle.command_line.specs.declared.command.DumpWords.{DumpWords}
use Rattle.command_line.specs.declared.command.RestoreWords.{RestoreWords}
use Rattle.command_line.specs.declared.command.DumpallWords.{DumpallWords}
use Rattle.command_line.specs.declared.command.PsqlWords.{PsqlWords}
use Rattle.command_line.specs.declared.command.CompareWords.{CompareWords}
use Rattle.command_line.specs.declared.command.CloneWords.{CloneWords}
use Rattle.command_line.specs.declared.command.GenWords.{GenWords}
use Rattle.command_line.specs.Values.{format_of, archive_format_of, section_of, number_up_to}
use Rattle.command_line.specs.Reading.{Reading}
use Rattle.command_line.specs.Mentions.{Place, last_of, is_given, values_of, other_of}

-- ---- values

abbrev pub text_of : Option Place → Option (List ℕ)
text_of None = None
text_of (Some place) = Some place.value

abbrev pub needed_text : Option Place → List ℕ
needed_text None = []
needed_text (Some place) = place.value

abbrev pub number_given : ℕ → Option Place → Option ℕ
number_given most None = None
number_given most (Some place) = number_up_to most place.value

abbrev pub format_given : Option Place → Option Format
format_given None = None
format_given (Some place) = format_of place.value

abbrev pub archive_format_given : Option Place → Option Format
archive_format_given None = None
archive_format_given (Some place) = archive_format_of place.value

abbrev pub with_pattern : List ℕ → Result Parts PatternFault → List PatternWord → List PatternWord
with_pattern text (Ok pattern) others = record { text = text; pattern = pattern } ∷ others
with_pattern text (Err fault) others = others

abbrev pub patterns_of : List (List ℕ) → List PatternWord
patterns_of [] = []
patterns_of (value ∷ values) = with_pattern value (pattern_of value) (patterns_of values)

abbrev pub with_section : Option Section → List Section → List Section
with_section (Some section) others = section ∷ others
with_section None others = others

abbrev pub sections_of : List (List ℕ) → List Section
sections_of [] = []
sections_of (value ∷ values) = with_section (section_of value) (sections_of values)

abbrev pub folder_of : Option Place → Option Place → Folder
folder_of None word = Word (needed_text word)
folder_of (Some place) word = Dbname place.value

-- ---- the tools

unfoldable pub choice_of : Reading → Choice
choice_of r = record {
  data_only = is_given opt.DataOnly r;
  schema_only = is_given opt.SchemaOnly r;
  schemas = patterns_of (values_of opt.Schema r);
  exclude_schemas = patterns_of (values_of opt.ExcludeSchema r);
  tables = patterns_of (values_of opt.Table r);
  exclude_tables = patterns_of (values_of opt.ExcludeTable r);
  exclude_table_data = patterns_of (values_of opt.ExcludeTableData r);
  no_owner = is_given opt.NoOwner r;
  no_privileges = is_given opt.NoPrivileges r;
  no_comments = is_given opt.NoComments r;
  sections = sections_of (values_of opt.Section r);
  strict_names = is_given opt.StrictNames r;
}

unfoldable pub dump_of : Reading → DumpWords
dump_of r = record {
  folder = folder_of (last_of opt.Dbname r) (other_of 0 r);
  file = text_of (last_of opt.File r);
  format = format_given (last_of opt.Format r);
  choice = choice_of r;
  uncompressed = is_given opt.Compress r;
}

unfoldable pub restore_of : Reading → RestoreWords
restore_of r = record {
  dbname = text_of (last_of opt.Dbname r);
  file = text_of (last_of opt.File r);
  format = archive_format_given (last_of opt.Format r);
  list = is_given opt.List r;
  use_list = text_of (last_of opt.UseList r);
  jobs = number_given MOST_JOBS (last_of opt.Jobs r);
  single_transaction = is_given opt.SingleTransaction r;
  exit_on_error = is_given opt.ExitOnError r;
  data_only = is_given opt.DataOnly r;
  schema_only = is_given opt.SchemaOnly r;
  schemas = values_of opt.Schema r;
  exclude_schemas = values_of opt.ExcludeSchema r;
  tables = values_of opt.Table r;
  no_owner = is_given opt.NoOwner r;
  no_privileges = is_given opt.NoPrivileges r;
  no_comments = is_given opt.NoComments r;
  sections = sections_of (values_of opt.Section r);
  archive = text_of (other_of 0 r);
}

unfoldable pub dumpall_of : Reading → DumpallWords
dumpall_of r = record {
  dbname = needed_text (last_of opt.Dbname r);
  file = text_of (last_of opt.File r);
  globals_only = is_given opt.GlobalsOnly r;
  roles_only = is_given opt.RolesOnly r;
  schema_only = is_given opt.SchemaOnly r;
  no_owner = is_given opt.NoOwner r;
  no_privileges = is_given opt.NoPrivileges r;
}

unfoldable pub psql_of : Reading → PsqlWords
psql_of r = record {
  folder = folder_of (last_of opt.Dbname r) (other_of 0 r);
  file = text_of (last_of opt.File r);
  on_error_stop = is_given opt.Variable r;
}

unfoldable pub compare_of : Reading → CompareWords
compare_of r = record {
  first = needed_text (other_of 0 r);
  second = needed_text (other_of 1 r);
}

unfoldable pub clone_of : Reading → CloneWords
clone_of r = record {
  format = format_given (last_of opt.Format r);
  file = needed_text (last_of opt.File r);
  jobs = number_given MOST_JOBS (last_of opt.Jobs r);
  choice = choice_of r;
  source = needed_text (other_of 0 r);
  target = needed_text (other_of 1 r);
}

unfoldable pub gen_of : Reading → GenWords
gen_of r = record {
  tables = unwrap_or (number_given MOST_TABLES (last_of opt.Tables r)) 0;
  jobs = number_given MOST_JOBS (last_of opt.Jobs r);
  file = needed_text (last_of opt.File r);
}

unfoldable pub command_of : Tool → Reading → Command
command_of tool.PgDump r = PgDump (dump_of r)
command_of tool.PgRestore r = PgRestore (restore_of r)
command_of tool.PgDumpall r = PgDumpall (dumpall_of r)
command_of tool.Psql r = Psql (psql_of r)
command_of tool.PgCatcmp r = PgCatcmp (compare_of r)
command_of tool.PgClone r = PgClone (clone_of r)
command_of tool.PgGen r = PgGen (gen_of r)
