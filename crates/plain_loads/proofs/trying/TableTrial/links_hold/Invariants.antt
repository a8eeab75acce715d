-- Where the links that are left hold, all do.
use Rattle.std.proofs.Common.{drop}
use Rattle.std.specs.List.{AllByRecursion}
use Rattle.line_fields.specs.Clear.{IsClearText}
use Rattle.plain_loads.specs.Trying.{LinkHolds}
use Rattle.plain_loads.proofs.trying.TableTrial.links_hold.Given as goal

abbrev pub invariant-loop-i : goal.invariant-loop-i
invariant-loop-i l =
    IsClearText l.part → AllByRecursion (LinkHolds l.self.columns l.part) (drop l.i l.self.links.items) → AllByRecursion (LinkHolds l.self.columns l.part) l.self.links.items
