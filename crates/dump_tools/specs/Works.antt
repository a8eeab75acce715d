-- What is to be put out of a dump, as the code has it.
use Rattle.std.specs.Prelude.{◌≡◌, ◌≤◌, length, None}
use Rattle.dump_ports.specs.Tree.{Tree}
use Rattle.dump_files.specs.Needed.{unready}
use Rattle.dump_outputs.specs.Forms.{IsClear}
use Rattle.dump_plans.specs.Plans.{dumping}
use Rattle.dump_tools.specs.declared.dumps.DumpWork.{DumpWork}
use Rattle.dump_tools.specs.Due.{Plan, Puts, put_of}

abbrev pub plan_of_work : Tree → DumpWork → Plan
plan_of_work tree work = Puts (put_of tree work.form work.head (dumping work.plan))

-- the data files are there, none is too large, and none is one that is written
abbrev pub IsReady : Tree → DumpWork → Type 0
IsReady tree work = (unready tree work.plan.files.items ≡ None) × IsClear work.form work.plan.files.items

abbrev pub IsFew : DumpWork → Type 0
IsFew work = length work.plan.files.items ≤ 200000
