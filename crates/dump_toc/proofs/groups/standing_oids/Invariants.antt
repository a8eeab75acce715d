-- The defaults that stand alone so far.
use Rattle.std.proofs.Common.{◌≡◌, take}
use Rattle.dump_toc.specs.Toc.{standing_of}
use Rattle.dump_toc.proofs.groups.standing_oids.Given as goal

abbrev pub invariant-loop-object : goal.invariant-loop-object
invariant-loop-object l = l.oids.items ≡ standing_of (take l.object-index l.objects)
