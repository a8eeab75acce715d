-- Those so far were met, and the others but for the one that has ended.
use Rattle.std.proofs.Common.{take}
use Rattle.restore_queue.specs.Indexed.{AllNearly, AreMarked}
use Rattle.restore_queue.proofs.Meets.{Among}
use Rattle.restore_queue.proofs.meeting.meet_all.Given as goal

abbrev pub invariant-loop-i : goal.invariant-loop-i
invariant-loop-i l = record {
  nearly : AllNearly l.phases l.waits l.met l.ended;
  among : Among l.phases l.waits l.met (take l.i-index l.behind);
  marked : AreMarked l.phases l.waits l.met l.marks;
}
