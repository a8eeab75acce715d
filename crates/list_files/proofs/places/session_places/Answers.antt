use Rattle.entry_choices.proofs.Behind.{places_next_yes, places_next_no}
use Rattle.list_files.specs.Edits.{is_session_at}
use Rattle.list_files.proofs.places.session_places.Goals as goal
use Rattle.list_files.proofs.places.session_places.Goals.{then-session+in_ok-push, else-session}

pub loop-i-preserved : goal.loop-i-preserved
loop-i-preserved c =
    elim c.if-session.branch [
      | then-session+in_ok-push w ↦ rw w.places-is (places_next_yes (is_session_at c.args.entries.now) c.loop-i.i c.loop-i.places.items w.push.new.self.items c.is_session_at-session.result c.is_session_at-session.ensures w.if-session.true c.loop-i.invariant w.in_ok-push.ensures.items)
      | else-session w ↦ rw w.places-is (places_next_no (is_session_at c.args.entries.now) c.loop-i.i c.loop-i.places.items c.is_session_at-session.result c.is_session_at-session.ensures w.if-session.false c.loop-i.invariant)
    ]
