use Rattle.same_folders.proofs.as_one.rows_meet.Goals as goal

-- the book is the catalogue's
pub returns-clause-takes : goal.returns-clause-takes
returns-clause-takes g c = rw c.in_ok-book.ensures at c.tables_meet.ensures.takes
