-- Where the tables that are left take the rows of their texts, all do.
use Rattle.std.proofs.Common.{drop}
use Rattle.std.specs.List.{AllByRecursion}
use Rattle.plain_loads.specs.Meeting.{TableTakes}
use Rattle.plain_loads.proofs.meeting.tables_meet.Given as goal

abbrev pub invariant-loop-i : goal.invariant-loop-i
invariant-loop-i l =
    AllByRecursion (TableTakes l.tables.named.now l.tables.book.now l.tables.rows.now) (drop l.i l.oids)
    → AllByRecursion (TableTakes l.tables.named.now l.tables.book.now l.tables.rows.now) l.oids
