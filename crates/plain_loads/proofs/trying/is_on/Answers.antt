use Rattle.std.proofs.Common.{◌≡◌, ℕ, [], true, Option, subst}
use Rattle.std.specs.Option.{IfSome}
use Rattle.plain_rows.specs.Lines.{line_keys, none_again}
use Rattle.plain_loads.proofs.Steps.{differ_at}
use Rattle.plain_loads.proofs.trying.is_on.Goals as goal

pub returns-in-Some : goal.returns-in-Some
returns-in-Some c = λ yes text apart name.
    differ_at c.args.columns.now c.args.names.now c.in-Some.place text c.in-Some.ensures
    (subst (λ (o : Option ℕ). IfSome o (λ place. none_again [] (line_keys c.args.columns.now place text) ≡ true)) (c.is_place.ensures yes) apart)
