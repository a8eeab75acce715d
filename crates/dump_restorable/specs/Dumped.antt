-- Dumps of folders, and options that leave nothing of an archive out.
use Rattle.std.specs.Prelude.{◌≡◌, Bool, true, false, List, [], None, Ok}
use Rattle.std.specs.List.{AllByRecursion}
use Rattle.dump_ports.specs.Tree.{Tree}
use Rattle.cat_model.specs.Values.{Bytes}
use Rattle.cat_rows.specs.declared.catalogue.Catalogue.{Catalogue}
use Rattle.obj_graph.specs.declared.select.Select.{Select}
use Rattle.toc_entry.specs.declared.head.Head.{Head}
use Rattle.toc_layout.specs.Heads.{head_seen}
use Rattle.toc_layout.specs.Values.{IsHead, IsEntry}
use Rattle.archive_entries.specs.Fits.{CanBeArchived}
use Rattle.entry_choices.specs.declared.options.Options.{Options}
use Rattle.dump_files.specs.declared.file.DataFile.{DataFile}
use Rattle.dump_plain.specs.Dumps.{file_rows}
use Rattle.dump_plans.specs.Plans.{Dumping, dumping_of}

-- all entries, with their owners or without
abbrev pub all_taken : Bool → Options
all_taken owners = record {
  schema_only = false;
  data_only = false;
  schemas = [];
  not_schemas = [];
  tables = [];
  owners = owners;
  grants = true;
  comments = true;
  sections = record { pre = true; rows = true; post = true };
}

-- no row of these files fails
abbrev pub AreRead : Tree → List DataFile → Type 0
AreRead tree files = AllByRecursion (λ (file : DataFile). (file_rows tree file).fault ≡ None) files

-- What is chosen of a folder's catalogue, with a head: both are of the code's types, an archive can be made of them, and no row
-- fails.
pub record IsDumped (folder : Bytes) (select : Select) (cat : Catalogue) (tree : Tree) (head : Head) (dumping : Dumping) : Type 0 where
  pub due : dumping_of folder select cat tree ≡ Ok dumping
  pub archive : CanBeArchived (head_seen head) dumping.entries
  pub head_type : IsHead (head_seen head)
  pub entry_types : AllByRecursion IsEntry dumping.entries
  pub rows : AreRead tree dumping.files
