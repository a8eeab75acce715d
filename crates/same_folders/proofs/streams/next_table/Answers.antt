use Rattle.std.proofs.Common.{ℕ, ◌≤◌, sym, subst, ◌∙◌}
use Rattle.std.specs.List.{AllByRecursion}
use Rattle.folder_io.specs.declared.fault.FolderLimit.TheVariants.{DataFile}
use Rattle.folder_io.specs.Folders.{most_bytes}
use Rattle.plain_loads.specs.Trying.{IsKnown}
use Rattle.same_folders.specs.Streams.{IsAlike}
use Rattle.same_folders.proofs.FileParts.{alike_of, if_some, stands_seen}
use Rattle.same_folders.proofs.streams.next_table.Goals as goal

pub returns-clause-same : goal.returns-clause-same
returns-clause-same g c = λ tree known.
    let seen = rw c.in-Some-2.is at c.in_ok-found.ensures.found in
    subst (IsAlike c.args.first.now c.args.second.now tree c.args.table) (sym c.keep-len.ensures.len) (alike_of c.args.first.now c.args.second.now tree c.args.table c.in-Some.trial c.in-Some-2.found.len c.in-Some-2.found.keys (seen tree known))

pub returns-clause-limited : goal.returns-clause-limited
returns-clause-limited g c = subst (λ (n : ℕ). n ≤ most_bytes DataFile) (sym c.keep-len.ensures.len) (rw c.in-Some-2.is at c.in_ok-found.ensures.limited)

pub returns-clause-takes : goal.returns-clause-takes
returns-clause-takes g c = λ tree known texts stands are.
    let named = c.args.named.now in
    let book = c.args.book.now in
    let table = c.args.table in
    let trial = c.in-Some.trial in
    let found = c.in-Some-2.found in
    let judge = rw c.in-Some.is at c.in_ok-trial.ensures.judges in
    let before = subst (AllByRecursion (IsKnown named texts)) (sym c.as_slice.ensures.value) are in
    let seen = stands_seen c.args.first.now _ tree texts table trial found.len found.keys ((rw c.in-Some-2.is at c.in_ok-found.ensures.found) tree known) stands in (
      c.in_ok-push_keys.ensures named texts are (if_some c.keep-len.result.1 _ _ (λ k e. e named book c.as_slice.result.now table judge texts seen) c.keep-len.ensures.known),
      judge.takes texts before found.keys seen,
    )
