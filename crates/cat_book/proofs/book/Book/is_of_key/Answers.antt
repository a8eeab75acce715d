use Rattle.std.proofs.Common.{nat_lt, sym, ap, ◌∙◌}
use Rattle.cat_names.specs.Lookups.{count_of}
use Rattle.cat_book.specs.Leads.{key_indexes}
use Rattle.cat_book.proofs.Placed.{has_counted}
use Rattle.cat_book.proofs.book.Book.is_of_key.Goals as goal

pub returns : goal.returns
returns c =
    ap (nat_lt 0) (c.count.ensures ∙ ap (λ os. count_of os c.args.index) c.self.invariant.owners.key_indexes ∙ ap (λ k. count_of (key_indexes k) c.args.index) c.self.view_is)
    ∙ sym (has_counted (key_indexes c.args.self.now) c.args.index)
