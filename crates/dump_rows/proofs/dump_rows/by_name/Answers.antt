use Rattle.std.proofs.Common.{◌≡◌, rules}
use Rattle.std.specs.List.{filter}
use Rattle.std.specs.List.Sorted.{IsSortedBy, ties}
use Rattle.std.specs.Ordering.{is_lt}
use Rattle.std.proofs.lemmas.List.Sorted.{answers_always}
use Rattle.dump_rows.proofs.Ordered.{Row, less, row_order, rows_are}
use Rattle.dump_rows.proofs.dump_rows.by_name.Goals as goal

pub returns : goal.returns
returns c =
    let compares = answers_always _ (λ a r. is_lt r ≡ less a.0.now a.1.0.now) _ (λ f a r f' called. search rules) in
    let rising : IsSortedBy less c.sort_by.new.self.items = c.in_ok-sort_by.ensures.sorted less row_order compares in
    let stable : (z : Row) → filter (ties less z) c.sort_by.new.self.items ≡ filter (ties less z) c.args.rows.items = c.in_ok-sort_by.ensures.stable less row_order compares in
    rows_are c.args.rows.items c.sort_by.new.self.items rising stable
