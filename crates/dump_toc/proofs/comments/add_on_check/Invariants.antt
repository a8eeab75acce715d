-- The comments so far stand behind what was there.
use Rattle.std.proofs.Common.{◌≡◌, ◌++◌, map, filter_map, take}
use Rattle.dump_toc.specs.Comments.{check_remark, remark_draft}
use Rattle.dump_toc.proofs.comments.add_on_check.Given as goal

abbrev pub invariant-loop-row : goal.invariant-loop-row
invariant-loop-row l = l.drafts.items ≡ l.fn.drafts.items ++ map (remark_draft l.rows l.object l.place) (filter_map (check_remark l.rows l.check) (map (λ r. r.now) (take l.row-index l.found)))
