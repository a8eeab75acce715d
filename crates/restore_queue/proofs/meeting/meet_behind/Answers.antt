use Rattle.std.proofs.Common.{◌≡◌, ℕ, true, List, sym, subst}
use Rattle.restore_plan.specs.Entries.{is_among}
use Rattle.restore_queue.proofs.Listing.{behind-at}
use Rattle.restore_queue.proofs.meeting.meet_behind.Goals as goal

pub meet_all-requires-clause-behind : goal.meet_all-requires-clause-behind
meet_all-requires-clause-behind c = λ i v e among.
    subst (λ (places : List ℕ). is_among i places ≡ true) (sym c.as_slice.ensures.value)
    (behind-at c.args.behind.now c.args.ended i c.index-behind-ended.result c.requires.there c.index-behind-ended.is (c.requires.behind i c.args.ended v e among))
