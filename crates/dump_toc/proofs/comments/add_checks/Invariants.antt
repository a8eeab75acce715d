-- The comments on the checks so far stand behind what was there.
use Rattle.std.proofs.Common.{◌≡◌, ◌++◌, map, take}
use Rattle.std.specs.List.{flat_map}
use Rattle.dump_toc.specs.Comments.{check_remarks, remark_draft}
use Rattle.dump_toc.proofs.comments.add_checks.Given as goal

abbrev pub invariant-loop-check : goal.invariant-loop-check
invariant-loop-check l = l.drafts.items ≡ l.fn.drafts.items ++ map (remark_draft l.rows l.object l.place) (flat_map (check_remarks l.rows) (map (λ r. r.now) (take l.check-index l.checks)))
