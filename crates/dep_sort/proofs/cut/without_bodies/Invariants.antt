use Rattle.std.proofs.Common.{◌≡◌, false, map, take}
use Rattle.std.specs.Prelude.{◌&&◌, slice_index_or, if◌then◌else◌}
use Rattle.std.specs.List.{enumerate_from}
use Rattle.graph_parts.specs.declared.object.ObjKind.TheVariants.{Dummy}
use Rattle.dep_sort.specs.Cut.{is_view}
use Rattle.dep_sort.proofs.cut.without_bodies.Given as goal

abbrev pub invariant-loop-place : goal.invariant-loop-place
invariant-loop-place l =
    l.left.items ≡ map (λ e. if is_view e.1.kind && slice_index_or l.bodiless e.0 false then record e.1 { kind = Dummy } else e.1) (enumerate_from 0 (take l.place l.objects))
