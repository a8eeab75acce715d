-- What is due once all is read.
use Rattle.std.proofs.Common.{◌≡◌, Bool, Result, Ok, ap}
use Rattle.cat_model.specs.Values.{Bytes}
use Rattle.dump_ports.specs.Tree.{Tree}
use Rattle.restore_folders.specs.Works.{Work}
use Rattle.restore_texts.specs.declared.asked.ArchiveFormat.{ArchiveFormat}
use Rattle.tool_words.specs.declared.outcome.Outcome.{Outcome}
use Rattle.tool_words.specs.Answers.{◌>>=◌, IsDue}
use Rattle.tool_words.proofs.Dues.{due_map}
use Rattle.clone_restores.specs.Due.{archive_plan, all_work, archive_due}

-- all of an archive was read
pub archive_read : (teller : Bytes) (owners : Bool) (folder path : Bytes) (format : ArchiveFormat) (tree : Tree) (work : Work) →
    all_work owners folder path format tree ≡ Ok work → archive_due teller owners folder path format tree ≡ Ok (archive_plan teller folder work)
unfolding archive_due
archive_read teller owners folder path format tree work e = ap (λ (r : Result Work Outcome). r >>= λ w. Ok (archive_plan teller folder w)) e

-- a step refused
pub archive_refused : (outcome : Outcome) (teller : Bytes) (owners : Bool) (folder path : Bytes) (format : ArchiveFormat) (tree : Tree) →
    IsDue outcome (all_work owners folder path format tree) → IsDue outcome (archive_due teller owners folder path format tree)
unfolding archive_due
archive_refused outcome teller owners folder path format tree d =
    due_map outcome (all_work owners folder path format tree) (all_work owners folder path format tree >>= λ work. Ok (archive_plan teller folder work))
    (λ o e. ap (λ (r : Result Work Outcome). r >>= λ work. Ok (archive_plan teller folder work)) e) d
