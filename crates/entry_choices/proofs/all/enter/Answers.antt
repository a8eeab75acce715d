use Rattle.entry_choices.proofs.Books.{knows_more}
use Rattle.entry_choices.proofs.all.enter.Goals as goal

pub returns-clause-entered : goal.returns-clause-entered
returns-clause-entered c = λ before known.
    knows_more c.args.options.now before c.args.entry.now c.known_of-known.result c.args.book.now c.insert.new.self
    (λ id. c.in_ok-insert.ensures.updates.0 id) known
    (c.known_of-known.ensures.section before known) (c.known_of-known.ensures.taken before known)
