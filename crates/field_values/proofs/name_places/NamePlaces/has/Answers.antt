use Rattle.std.proofs.Common.{ap, ◌∙◌}
use Rattle.std.specs.Option.{is_some}
use Rattle.field_values.proofs.Lookups.{is_somewhere}
use Rattle.field_values.proofs.name_places.NamePlaces.has.Goals as goal

pub returns : goal.returns
returns c = c.is_some.ensures ∙ ap is_some c.place.ensures ∙ is_somewhere c.args.name.now c.args.self.now
