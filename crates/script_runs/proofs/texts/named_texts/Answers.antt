use Rattle.std.proofs.Common.{◌≡◌, None, ap, sym, ◌∙◌}
use Rattle.script_runs.specs.Writing.{current_name}
use Rattle.script_runs.proofs.Written.{some_current}
use Rattle.script_runs.proofs.texts.named_texts.Goals as goal

pub returns-in-None-clause-unwritten : goal.returns-in-None-clause-unwritten
returns-in-None-clause-unwritten c =
    let none : current_name c.args.opening.now.pg_database ≡ None = ap current_name (sym c.as_slice.ensures) ∙ sym c.in_ok-current.ensures ∙ c.in-None.is in
    λ can. elim (some_current c.args.opening.now c.args.named.now can none) [ ]
