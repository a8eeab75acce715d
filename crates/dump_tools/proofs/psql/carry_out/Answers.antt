use Rattle.std.proofs.Common.{ℕ, List, Option, OnOk, sym, subst}
use Rattle.dump_tools.specs.declared.psql.Work.{Work}
use Rattle.dump_tools.specs.Due.{plan_of, IsCarriedOut}
use Rattle.dump_tools.proofs.psql.carry_out.Goals as goal

pub returns-in-Schemas-clause-ok : goal.returns-in-Schemas-clause-ok
returns-in-Schemas-clause-ok g c =
    subst (λ (work : Work). OnOk c.apply_schemas.result ((printed : Option (List ℕ)) → IsCarriedOut (plan_of c.args.folder.now c.args.stop c.args.statements.now work) (g.F.Files.tree c.args.files.now) (g.F.Files.tree c.apply_schemas.new.files) printed printed (g.E.Sink.written c.args.err.now) (g.E.Sink.written c.apply_schemas.new.err)))
    (sym c.in-Schemas.is) c.apply_schemas.ensures.ok

pub returns-in-Script-clause-ok : goal.returns-in-Script-clause-ok
returns-in-Script-clause-ok g c =
    subst (λ (work : Work). OnOk c.run_script_work.result ((printed : Option (List ℕ)) → IsCarriedOut (plan_of c.args.folder.now c.args.stop c.args.statements.now work) (g.F.Files.tree c.args.files.now) (g.F.Files.tree c.run_script_work.new.files) printed printed (g.E.Sink.written c.args.err.now) (g.E.Sink.written c.run_script_work.new.err)))
    (sym c.in-Script.is) c.run_script_work.ensures.ok
