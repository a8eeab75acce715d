use Rattle.std.proofs.Common.{◌≡◌, ◌++◌, drop}
use Rattle.copy_text.specs.Rows.{Extends}
use Rattle.toc_layout.specs.Entries.{dependencies}
use Rattle.toc_layout.proofs.writing.write_dependencies.Given as goal

abbrev pub invariant-loop-id : goal.invariant-loop-id
invariant-loop-id l = record {
  rest : l.out.items ++ dependencies.write (drop l.id-index l.ids) ≡ l.fn.out.items ++ dependencies.write l.ids;
  kept : Extends l.fn.out.items l.out.items;
}
