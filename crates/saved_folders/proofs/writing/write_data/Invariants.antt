use Rattle.std.proofs.Common.{◌≡◌, option_map}
use Rattle.saved_folders.specs.Files.{saved}
use Rattle.saved_folders.specs.Folders.{data_text, data_written}
use Rattle.saved_folders.proofs.Saved.{first}
use Rattle.saved_folders.proofs.writing.write_data.Given as goal

-- the data files so far are whole, and no call has failed
abbrev pub invariant-loop-oid : goal.invariant-loop-oid
invariant-loop-oid g l =
    let files = g.F.Files in
    record {
      so_far : files.tree l.files ≡ option_map (saved (first (λ oid. data_written l.folder (data_text l.rows oid)) l.oids l.oid-index)) (files.tree l.fn.files);
      read_count : files.read_faults l.files ≡ files.read_faults l.fn.files;
      write_count : files.write_faults l.files ≡ files.write_faults l.fn.files;
    }
