use Rattle.std.proofs.Common.{ap, sym, ◌∙◌}
use Rattle.std.specs.Option.{option_and_then}
use Rattle.cat_names.specs.Lookups.{name_at, place_of, role_name}
use Rattle.cat_names.proofs.Places.{role_name_at}
use Rattle.cat_names.proofs.role_index.RoleIndex.name_of.Goals as goal

pub returns-in-Some : goal.returns-in-Some
returns-in-Some c =
    let rows = c.self.inside.rows.now in
    c.name_at.ensures
    ∙ ap (option_and_then (name_at rows)) (sym c.in-Some.is ∙ c.find.ensures ∙ ap (place_of c.args.oid) c.self.invariant.oids_of)
    ∙ sym (role_name_at rows c.args.oid)
    ∙ ap (λ rs. role_name rs c.args.oid) c.self.view_is

pub returns-in-None : goal.returns-in-None
returns-in-None c =
    let rows = c.self.inside.rows.now in
    ap (option_and_then (name_at rows)) (sym c.in-None.is ∙ c.find.ensures ∙ ap (place_of c.args.oid) c.self.invariant.oids_of)
    ∙ sym (role_name_at rows c.args.oid)
    ∙ ap (λ rs. role_name rs c.args.oid) c.self.view_is
