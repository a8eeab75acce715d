use Rattle.std.proofs.Common.{ap, ◌∙◌}
use Rattle.cat_book.specs.Paths.{class_paths, has_path}
use Rattle.cat_book.proofs.book.Book.has_class.Goals as goal

pub returns : goal.returns
returns c = c.contains.ensures ∙ c.self.invariant.named.class_paths c.args.path.now ∙ ap (λ k. has_path (class_paths k) c.args.path.now) c.self.view_is
