use Rattle.list_files.proofs.Books.{leads_more}
use Rattle.list_files.proofs.places.enter.Goals as goal

pub returns : goal.returns
returns c = λ before leads at. leads_more before c.args.entry.now c.args.place c.args.book.now c.insert.new.self (λ id. c.in_ok-insert.ensures.updates.0 id) leads at
