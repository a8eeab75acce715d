-- The options of a restore, as its words say them.
use Rattle.std.specs.Prelude.{List, not, Option, Some, None}
use Rattle.cat_model.specs.declared.words.Sections.{Sections}
use Rattle.command_line.specs.declared.command.RestoreWords.{RestoreWords}
use Rattle.command_line.specs.declared.values.Format.{Format}
use Rattle.command_line.specs.declared.values.Format.TheVariants as said
use Rattle.command_line.specs.declared.values.Section.{Section}
use Rattle.command_line.specs.declared.values.Section.TheVariants.{PreData, Data, PostData}
use Rattle.command_line.specs.Sections.{is_chosen}
use Rattle.entry_choices.specs.declared.options.Options.{Options}
use Rattle.restore_texts.specs.declared.asked.ArchiveFormat.{ArchiveFormat}
use Rattle.restore_texts.specs.declared.asked.ArchiveFormat.TheVariants as format

-- where no section is named, all are taken
abbrev pub sections_of : List Section → Sections
sections_of sections = record { pre = is_chosen PreData sections; rows = is_chosen Data sections; post = is_chosen PostData sections }

abbrev pub options_of : RestoreWords → Options
options_of words = record {
  schema_only = words.schema_only;
  data_only = words.data_only;
  schemas = words.schemas;
  not_schemas = words.exclude_schemas;
  tables = words.tables;
  owners = not words.no_owner;
  grants = not words.no_privileges;
  comments = not words.no_comments;
  sections = sections_of words.sections;
}

-- pg_restore's words name one of the two formats of archives, or none
abbrev pub format_of : Option Format → Option ArchiveFormat
format_of (Some said.Custom) = Some format.Custom
format_of (Some said.Directory) = Some format.Directory
format_of (Some said.Plain) = None
format_of None = None
