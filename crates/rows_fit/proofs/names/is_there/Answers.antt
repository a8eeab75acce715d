-- A name has a place exactly where a column has it.
use Rattle.std.proofs.Common.{ℕ, List, map, ap, ◌∙◌}
use Rattle.std.specs.Option.{is_some}
use Rattle.std.specs.List.{position_from}
use Rattle.cat_model.specs.Lexemes.{same_text}
use Rattle.rows_fit.proofs.Distinct.{has_place}
use Rattle.rows_fit.proofs.names.is_there.Goals as goal

pub returns : goal.returns
returns c =
    c.is_some.ensures ∙ ap is_some c.place.ensures
    ∙ ap (λ (name : List ℕ). is_some (position_from (same_text name) 0 (map (λ d. d.name) c.args.columns.now))) c.as_bytes.ensures.value
    ∙ has_place c.args.columns.now c.args.name.now
