use Rattle.std.proofs.Common.{take, reverse}
use Rattle.list_files.specs.Books.{LeadsTo}
use Rattle.list_files.proofs.places.book_of.Given as goal

abbrev pub invariant-loop-i : goal.invariant-loop-i
invariant-loop-i l = LeadsTo (reverse (take l.i l.entries)) l.book
