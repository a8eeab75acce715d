-- The files so far are those of the tables so far.
use Rattle.std.proofs.Common.{◌≡◌, map, take}
use Rattle.dump_plans.specs.Plans.{data_file}
use Rattle.dump_plans.proofs.reading.data_files.Given as goal

abbrev pub invariant-loop-one : goal.invariant-loop-one
invariant-loop-one l = l.files.items ≡ map (data_file l.folder) (take l.one-index l.one-items)
