-- Where the tables that are left hold their lines and take them, all do; the keys that are known are of the texts that stand for their
-- tables.
use Rattle.std.proofs.Common.{◌≡◌, ◌≤◌, Some, drop}
use Rattle.std.specs.List.{AllByRecursion}
use Rattle.dump_ports.specs.Tree.{Tree}
use Rattle.folder_io.specs.declared.fault.FolderLimit.TheVariants.{Folder}
use Rattle.folder_io.specs.Folders.{most_bytes}
use Rattle.cat_names.specs.DataSets.{TextsByOid}
use Rattle.plain_loads.specs.Meeting.{TableTakes}
use Rattle.plain_loads.specs.Trying.{IsKnown}
use Rattle.same_folders.specs.Streams.{HoldLines, StandsFor}
use Rattle.same_folders.proofs.streams.tables_are_same.Given as goal

abbrev pub invariant-loop-i : goal.invariant-loop-i
invariant-loop-i g l =
    let files = g.F.Files in
    record {
      kept : files.tree l.files ≡ files.tree l.fn.files;
      read_count : files.read_faults l.files ≡ files.read_faults l.fn.files;
      write_count : files.write_faults l.files ≡ files.write_faults l.fn.files;
      within : l.bytes ≤ most_bytes Folder;
      same : (tree : Tree) → files.tree l.fn.files ≡ Some tree → HoldLines l.first l.second tree l.bytes (drop l.i l.tables) → HoldLines l.first l.second tree l.used l.tables;
      known : (tree : Tree) → files.tree l.fn.files ≡ Some tree → (texts : TextsByOid) → AllByRecursion (StandsFor l.first tree texts) l.tables → AllByRecursion (IsKnown l.named texts) l.known.items;
      takes : (tree : Tree) → files.tree l.fn.files ≡ Some tree → (texts : TextsByOid) → AllByRecursion (StandsFor l.first tree texts) l.tables → AllByRecursion (TableTakes l.named l.book texts) (drop l.i l.tables) → AllByRecursion (TableTakes l.named l.book texts) l.tables;
    }
