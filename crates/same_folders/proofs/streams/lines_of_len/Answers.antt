use Rattle.std.proofs.Common.{refl}
use Rattle.same_folders.proofs.FileParts.{seen_of_both}
use Rattle.same_folders.proofs.streams.lines_of_len.Goals as goal

pub returns-then-branch-clause-found : goal.returns-then-branch-clause-found
returns-then-branch-clause-found g c =
    let same = c.in_ok-lines_are_same.ensures in (
      refl,
      λ tree known one other.
          seen_of_both tree c.args.first.now c.args.second.now c.args.trial.now c.args.len c.lines_are_same.new.keys one other
          (same.same c.if-branch.true tree known) (λ le. same.seen c.if-branch.true tree known le c.in_ok-keys.ensures),
    )
