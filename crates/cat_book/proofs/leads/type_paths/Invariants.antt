-- The set is that of the paths so far.
use Rattle.std.proofs.Common.{take, filter_map}
use Rattle.cat_names.specs.Indexed.{AreKeys}
use Rattle.cat_book.specs.Paths.{path_cmp, type_path}
use Rattle.cat_book.proofs.leads.type_paths.Given as goal

abbrev pub invariant-loop-row : goal.invariant-loop-row
invariant-loop-row l = AreKeys path_cmp l.paths (filter_map (type_path l.spaces) (take l.row-index l.rows))
