-- What a dump of a folder is made of: its entries, and the data files whose rows it has.
use Rattle.std.specs.Prelude.{ℕ, List, map, Result, Ok}
use Rattle.dump_ports.specs.Tree.{Tree}
use Rattle.cat_model.specs.Values.{Bytes}
use Rattle.cat_rows.specs.declared.catalogue.Catalogue.{Catalogue}
use Rattle.folder_io.specs.declared.file.ExportFile.TheVariants.{Data}
use Rattle.folder_io.specs.Folders.{path, file_name}
use Rattle.obj_graph.specs.declared.select.Select.{Select}
use Rattle.toc_entry.specs.declared.entry.Entry.{Entry}
use Rattle.dump_toc.specs.Toc.{toc}
use Rattle.dump_choices.specs.declared.data.TableData.{TableData}
use Rattle.dump_choices.specs.Data.{table_data}
use Rattle.dump_files.specs.declared.file.DataFile.{DataFile}
use Rattle.dump_files.specs.Needed.{unready}
use Rattle.exports.specs.Exports.{formed_of}
use Rattle.tool_words.specs.declared.outcome.Outcome.{Outcome}
use Rattle.tool_words.specs.Answers.{◌>>=◌}
use Rattle.dump_plans.specs.declared.reading.DumpPlan.{DumpPlan}
use Rattle.dump_plans.specs.Outcomes.{toc_told, ready_told}

pub record Dumping : Type 0 where
  pub entries : List Entry
  pub files : List DataFile

-- the data file of a table
abbrev pub data_path : Bytes → ℕ → Bytes
data_path folder table = path folder (file_name (Data table))

abbrev pub data_file : Bytes → TableData → DataFile
data_file folder rows = record { table = rows.table; name = data_path folder rows.table; columns = rows.columns }

-- those of the entries that have rows, in their order
unfoldable pub data_files : Bytes → Catalogue → List Entry → List DataFile
data_files folder cat entries = map (data_file folder) (table_data cat entries)

abbrev pub dumping_with : List Entry → List DataFile → Dumping
dumping_with entries files = record { entries = entries; files = files }

-- once the entries are known: the files that they need are all there
abbrev pub entries_due : Bytes → Catalogue → Tree → List Entry → Result Dumping Outcome
entries_due folder cat tree entries = let files = data_files folder cat entries in ready_told (dumping_with entries files) (unready tree files)

-- a dump of what is chosen of a catalogue
unfoldable pub dumping_of : Bytes → Select → Catalogue → Tree → Result Dumping Outcome
dumping_of folder select cat tree = toc_told (toc cat select) >>= entries_due folder cat tree

-- what the code has of it
abbrev pub dumping : DumpPlan → Dumping
dumping plan = dumping_with plan.entries.items plan.files.items
