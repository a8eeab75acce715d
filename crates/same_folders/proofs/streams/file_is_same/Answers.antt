use Rattle.std.proofs.Common.{ℕ, ◌≤◌, sym, subst, ◌∙◌}
use Rattle.std.proofs.lemmas.Result.{IfOk-weaker}
use Rattle.folder_io.specs.declared.fault.FolderLimit.TheVariants.{DataFile}
use Rattle.folder_io.specs.Folders.{most_bytes}
use Rattle.same_folders.specs.Streams.{IsSeen}
use Rattle.same_folders.proofs.FileParts.{if_some}
use Rattle.same_folders.proofs.streams.file_is_same.Goals as goal

pub returns-clause-found : goal.returns-clause-found
returns-clause-found g c =
    let size = c.in_ok-len.ensures in
    IfOk-weaker c.lines_of_len.result _ _ (λ found some. if_some found _ _ (λ f e tree known.
    subst (λ (n : ℕ). IsSeen tree c.args.first.now c.args.second.now c.args.trial.now n f.keys) (sym e.0)
    (e.1 tree (size.kept ∙ known) ((rw c.in-Some.is at size.one) tree known) ((rw c.in-Some.is at size.other) tree known)))
    some)
    c.lines_of_len.ensures.found

pub returns-clause-limited : goal.returns-clause-limited
returns-clause-limited g c =
    IfOk-weaker c.lines_of_len.result _ _ (λ found some. if_some found _ _ (λ f e. subst (λ (n : ℕ). n ≤ most_bytes DataFile) (sym e.0) (rw c.in-Some.is at c.in_ok-len.ensures.limited))
    some)
    c.lines_of_len.ensures.found
