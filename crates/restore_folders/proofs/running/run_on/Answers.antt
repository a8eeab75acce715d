use Rattle.std.proofs.Common.{◌≡◌, Bool, IfOk, IfErr, subst, sym, ap, ◌∙◌}
use Rattle.restores_sound.specs.Export.{CanBeExported}
use Rattle.script_runs.specs.Writing.{IsUnwritten}
use Rattle.cat_model.specs.Values.{Named}
use Rattle.restore_runs.specs.Endings.{Ending, ending}
use Rattle.restore_folders.specs.Written.{is_written, Leaves, LeavesEnding}
use Rattle.restore_folders.proofs.running.run_on.Goals as goal

pub returns-clause-leaves : goal.returns-clause-leaves
returns-clause-leaves c =
    let a = c.args in
    let told = c.in_ok-told.told in
    let is = ap (λ (b : Bool). ending b a.teller.now a.engine.now.boot a.entries.now a.wanted.items a.engine.now.named) (sym c.stops.ensures) ∙ c.in_ok-told.ensures in
    let Q : Named → Type 0 = λ (n : Named). IfOk c.with_texts.result (λ run. Leaves a.opening.now (is_written a.how told.stopped) n run.texts) in
    let P : Ending → Type 0 = λ (e : Ending). IfOk c.with_texts.result (λ run. LeavesEnding a.opening.now a.how e run.texts) in
    subst P (sym is) (subst Q c.named.ensures c.with_texts.ensures.leaves)

pub returns-clause-report : goal.returns-clause-report
returns-clause-report c =
    let a = c.args in
    let is = ap (λ (b : Bool). ending b a.teller.now a.engine.now.boot a.entries.now a.wanted.items a.engine.now.named) (sym c.stops.ensures) ∙ c.in_ok-told.ensures in
    let P : Ending → Type 0 = λ (e : Ending). IfOk c.with_texts.result (λ run. run.report.items ≡ e.told) in
    subst P (sym is) c.with_texts.ensures.report

pub returns-clause-errors : goal.returns-clause-errors
returns-clause-errors c =
    let a = c.args in
    let is = ap (λ (b : Bool). ending b a.teller.now a.engine.now.boot a.entries.now a.wanted.items a.engine.now.named) (sym c.stops.ensures) ∙ c.in_ok-told.ensures in
    let P : Ending → Type 0 = λ (e : Ending). IfOk c.with_texts.result (λ run. run.errors ≡ e.errors) in
    subst P (sym is) c.with_texts.ensures.errors

pub returns-clause-stopped : goal.returns-clause-stopped
returns-clause-stopped c =
    let a = c.args in
    let is = ap (λ (b : Bool). ending b a.teller.now a.engine.now.boot a.entries.now a.wanted.items a.engine.now.named) (sym c.stops.ensures) ∙ c.in_ok-told.ensures in
    let P : Ending → Type 0 = λ (e : Ending). IfOk c.with_texts.result (λ run. run.stopped ≡ e.stopped) in
    subst P (sym is) c.with_texts.ensures.stopped

pub returns-clause-unwritten : goal.returns-clause-unwritten
returns-clause-unwritten c =
    let a = c.args in
    let is = ap (λ (b : Bool). ending b a.teller.now a.engine.now.boot a.entries.now a.wanted.items a.engine.now.named) (sym c.stops.ensures) ∙ c.in_ok-told.ensures in
    let Q : Named → Type 0 = λ (n : Named). IfErr c.with_texts.result (IsUnwritten a.opening.now n) in
    let P : Ending → Type 0 = λ (e : Ending). IfErr c.with_texts.result (IsUnwritten a.opening.now e.left) in
    subst P (sym is) (subst Q c.named.ensures c.with_texts.ensures.unwritten)

pub with_texts-requires : goal.with_texts-requires
with_texts-requires c =
    let a = c.args in
    let is = ap (λ (b : Bool). ending b a.teller.now a.engine.now.boot a.entries.now a.wanted.items a.engine.now.named) (sym c.stops.ensures) ∙ c.in_ok-told.ensures in
    subst (CanBeExported a.opening.now) (ap (λ (e : Ending). e.left) is ∙ sym c.named.ensures) c.requires
