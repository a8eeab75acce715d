use Rattle.std.proofs.Common.{◌≡◌, ℕ, ◌+◌, true, List, get_or, take, subst}
use Rattle.std.proofs.lemmas.List.{take_more, take_all}
use Rattle.restore_plan.specs.Entries.{is_among}
use Rattle.restore_queue.proofs.Meets.{Among, all-met, among-on, among-push, nearly-on}
use Rattle.restore_queue.proofs.meeting.meet_all.Goals as goal

pub loop-i-preserved : goal.loop-i-preserved
loop-i-preserved c =
    let a = c.args in
    let b = a.behind.now in
    let k = c.loop-i.i-index in
    let inv = c.loop-i.invariant in
    let said = c.meet.ensures in
    record {
      nearly = nearly-on a.phases.now a.waits.now c.loop-i.met c.meet.new.met (get_or b k 0) a.ended inv.nearly said.here said.others;
      among = among-on a.phases.now a.waits.now c.loop-i.met c.meet.new.met (take k b) (take (k + 1) b) (get_or b k 0) inv.among
          (λ n is. among-push (take k b) (get_or b k 0) n (subst (λ (xs : List ℕ). is_among n xs ≡ true) (take_more b k 0 c.loop-i-test.true) is)) said.here said.others;
      marked = said.marked;
    }

pub returns-clause-met : goal.returns-clause-met
returns-clause-met c =
    let a = c.args in
    let b = a.behind.now in
    let k = c.loop-i.i-index in
    let inv = c.loop-i.invariant in
    all-met a.phases.now a.waits.now c.loop-i.met b a.ended inv.nearly (subst (Among a.phases.now a.waits.now c.loop-i.met) (take_all k b c.loop-i-test.false) inv.among) c.requires.behind
