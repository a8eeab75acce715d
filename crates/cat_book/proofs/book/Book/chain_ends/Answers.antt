use Rattle.std.proofs.Common.{true, option_and_then, slice_get, unwrap_or, ap, ◌∙◌}
use Rattle.cat_book.specs.Chains.{base_place, chain_ends}
use Rattle.cat_book.proofs.Walks.{chain_by_place}
use Rattle.cat_book.proofs.book.Book.chain_ends.Goals as goal

pub returns : goal.returns
returns c =
    let cat = c.self.inside.cat.now in
    let ends = c.self.inside.leads.ends.items in
    c.ends_at.ensures
    ∙ ap (λ es. unwrap_or (option_and_then (slice_get es) c.base_place.result) true) c.deref.ensures.value
    ∙ ap (λ o. unwrap_or (option_and_then (slice_get ends) o) true) (c.base_place.ensures ∙ ap (λ os. base_place os c.args.row.now) c.self.invariant.oids.types)
    ∙ chain_by_place cat.pg_type ends c.self.invariant.ends c.args.row.now
    ∙ ap (λ k. chain_ends k.pg_type c.args.row.now) c.self.view_is
