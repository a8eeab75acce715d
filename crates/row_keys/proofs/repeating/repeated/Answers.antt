-- The key by places is the key by names.
use Rattle.std.proofs.Common.{ℕ, List, [], Option, map, ap, ◌∙◌}
use Rattle.cat_model.specs.Tables.{repeated_after}
use Rattle.row_keys.specs.ByPlaces.{key_at}
use Rattle.row_keys.proofs.Rows.{by_names}
use Rattle.row_keys.proofs.repeating.repeated.Goals as goal

pub returns : goal.returns
returns c =
    c.in_ok-first_repeated.ensures
    ∙ ap (repeated_after []) (ap (λ (places : List (Option ℕ)). map (key_at c.args.columns.now places) c.args.rows.now) (c.deref.ensures.value ∙ c.in_ok-places.ensures) ∙ by_names c.args.columns.now c.args.names.now c.args.rows.now)
