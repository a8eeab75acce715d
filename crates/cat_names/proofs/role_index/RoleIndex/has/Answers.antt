use Rattle.std.proofs.Common.{ap, ◌∙◌, is_some}
use Rattle.cat_names.specs.Lookups.{has_oid, role_oids}
use Rattle.cat_names.proofs.Places.{is_some-place}
use Rattle.cat_names.proofs.role_index.RoleIndex.has.Goals as goal

pub returns : goal.returns
returns c =
    c.is_some.ensures
    ∙ ap is_some c.find.ensures
    ∙ is_some-place c.args.oid c.self.inside.oids
    ∙ ap (λ os. has_oid os c.args.oid) c.self.invariant.oids_of
    ∙ ap (λ rs. has_oid (role_oids rs) c.args.oid) c.self.view_is
