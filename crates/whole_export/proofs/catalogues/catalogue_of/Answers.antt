use Rattle.std.proofs.Common.{refl, sym, map, subst}
use Rattle.std.specs.Map.Iter.{deref_pair}
use Rattle.cat_model.specs.declared.key.Key.{Key}
use Rattle.cat_model.specs.declared.value.Value.{Value}
use Rattle.object_loops.specs.Oids.{with_numbers}
use Rattle.whole_export.specs.Made.{AreMade}
use Rattle.whole_export.proofs.catalogues.catalogue_of.Goals as goal

pub returns : goal.returns
returns c =
    subst (AreMade c.args.named.now (with_numbers c.args.ids.now c.args.numbers.now) c.args.current.now c.args.opening.now (map (deref_pair {K = Key} {X = Value}) c.args.entries.now)) (sym c.in_ok-joined.ensures)
    (record { columns = c.in_ok-objects.objects.columns; cluster = c.in_ok-cluster.ensures; objects = c.in_ok-objects.ensures; parts = c.in_ok-parts.ensures; attributes = refl; dependencies = refl })
