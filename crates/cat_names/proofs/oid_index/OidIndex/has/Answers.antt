use Rattle.std.proofs.Common.{ap, ◌∙◌, is_some}
use Rattle.cat_names.proofs.Places.{is_some-place}
use Rattle.cat_names.proofs.oid_index.OidIndex.has.Goals as goal

pub returns : goal.returns
returns c = c.is_some.ensures ∙ ap is_some c.find.ensures ∙ is_some-place c.args.oid c.args.self.now
