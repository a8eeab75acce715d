use Rattle.std.proofs.Common.{◌≡◌, ap, ◌∙◌, to_z, of_z, w64, rules}
use Rattle.std.proofs.lemmas.Int.{to_z-of_z}
use Rattle.std.specs.BTreeSet.{contains}
use Rattle.cat_book.specs.Leads.{has_number}
use Rattle.cat_book.specs.Rules.{place_cmp}
use Rattle.cat_book.proofs.book.Book.has_number.Goals as goal

pub returns : goal.returns
returns c =
    let z = c.args.number in
    let back : to_z w64 (of_z w64 z) ≡ z = to_z-of_z w64 z (search rules) in
    c.contains.ensures
    ∙ ap (λ n. contains place_cmp c.self.inside.leads.named.column_numbers (c.args.relation, n)) back
    ∙ c.self.invariant.named.column_numbers (c.args.relation, z)
    ∙ ap (λ k. has_number k c.args.relation z) c.self.view_is
