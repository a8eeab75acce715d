use Rattle.std.proofs.Common.{ap, ◌∙◌}
use Rattle.plan_entries.specs.Earlier.{among_by}
use Rattle.plan_entries.proofs.Growing.{deps-are}
use Rattle.plan_entries.proofs.earlier.Earlier.deps.Goals as goal

pub returns : goal.returns
returns c = λ earlier k.
    let s = c.args.self.now in
    c.in_ok-deps.ensures ∙ ap (among_by s.ids) (c.deref.ensures.value ∙ c.in_ok-waits.ensures) ∙ deps-are s.ids s.lockable s.rows earlier c.args.entry.now k
