-- The set is that of the paths so far.
use Rattle.std.proofs.Common.{take, filter_map}
use Rattle.cat_names.specs.Indexed.{AreKeys}
use Rattle.cat_book.specs.Paths.{path_cmp, class_path}
use Rattle.cat_book.proofs.leads.class_paths.Given as goal

abbrev pub invariant-loop-row : goal.invariant-loop-row
invariant-loop-row l = AreKeys path_cmp l.paths (filter_map (class_path l.spaces) (take l.row-index l.rows))
