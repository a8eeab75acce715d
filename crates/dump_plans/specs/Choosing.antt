-- What the words of pg_dump choose of a folder.
use Rattle.std.specs.Prelude.{not, List, map}
use Rattle.patterns.specs.Parts.{Parts}
use Rattle.cat_model.specs.declared.words.Sections.{Sections}
use Rattle.command_line.specs.declared.command.Choice.{Choice}
use Rattle.command_line.specs.declared.lists.PatternWord.{PatternWord}
use Rattle.command_line.specs.declared.values.Section.{Section}
use Rattle.command_line.specs.declared.values.Section.TheVariants.{PreData, Data, PostData}
use Rattle.command_line.specs.Sections.{is_chosen}
use Rattle.obj_graph.specs.declared.select.Select.{Select}

-- what the patterns of an option hit
abbrev pub patterns_of : List PatternWord → List Parts
patterns_of words = map (λ word. word.pattern) words

-- the sections that were named; all where none was
abbrev pub sections_of : List Section → Sections
sections_of sections = record { pre = is_chosen PreData sections; rows = is_chosen Data sections; post = is_chosen PostData sections }

abbrev pub select_of : Choice → Select
select_of choice = record {
  schemas = patterns_of choice.schemas;
  not_schemas = patterns_of choice.exclude_schemas;
  tables = patterns_of choice.tables;
  not_tables = patterns_of choice.exclude_tables;
  not_table_data = patterns_of choice.exclude_table_data;
  schema_only = choice.schema_only;
  data_only = choice.data_only;
  strict = choice.strict_names;
  owners = not choice.no_owner;
  grants = not choice.no_privileges;
  comments = not choice.no_comments;
  sections = sections_of choice.sections;
}
