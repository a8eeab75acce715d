use Rattle.std.proofs.Common.{◌≡◌, rules}
use Rattle.std.proofs.lemmas.List.Sorted.{answers_always, ranks_by}
use Rattle.std.specs.List.Sorted.{IsSortedBy}
use Rattle.std.specs.Ordering.{is_lt}
use Rattle.cat_model.specs.Keys.{key_cmp}
use Rattle.cat_model.specs.KeyLaws.{key_cmp_total}
use Rattle.sorted_entries.proofs.Sorting.{Read, sorted_entries}
use Rattle.sorted_entries.proofs.listing.in_order.Goals as goal

pub returns : goal.returns
returns c =
    let compares = answers_always _ (λ a r. is_lt r ≡ is_lt (key_cmp a.0.now.0.now a.1.0.now.0.now)) _ (λ f a r f' called. search rules) in
    let up : IsSortedBy (λ (x y : Read). is_lt (key_cmp x.0.now y.0.now)) c.sort_by.new.self.items = c.in_ok-sort_by.ensures.sorted (λ (x y : Read). is_lt (key_cmp x.0.now y.0.now)) (ranks_by key_cmp_total (λ (x : Read). x.0.now)) compares in
    sorted_entries c.args.named.now c.in_ok-found.found.items c.sort_by.new.self.items c.in_ok-found.ensures.seen c.in_ok-found.ensures.distinct c.in_ok-sort_by.ensures.permutation up
