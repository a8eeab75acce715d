use Rattle.std.proofs.Common.{ap, ◌∙◌}
use Rattle.cat_book.specs.Paths.{type_paths, has_path}
use Rattle.cat_book.proofs.book.Book.has_type.Goals as goal

pub returns : goal.returns
returns c = c.contains.ensures ∙ c.self.invariant.named.type_paths c.args.path.now ∙ ap (λ k. has_path (type_paths k) c.args.path.now) c.self.view_is
