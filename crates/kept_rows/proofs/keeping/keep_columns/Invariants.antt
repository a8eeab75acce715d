-- The rows so far are those of the columns so far.
use Rattle.std.proofs.Common.{◌≡◌, ◌++◌, not, take}
use Rattle.std.specs.List.{filter}
use Rattle.cat_names.specs.Kinds.{is_table, kind_of}
use Rattle.kept_rows.proofs.keeping.keep_columns.Given as goal

abbrev pub invariant-loop-row : goal.invariant-loop-row
invariant-loop-row l = l.rows ≡ l.fn.rows ++ filter (λ a. not (is_table (kind_of l.book.pg_class a.attrelid))) (take l.row-index l.opening)
