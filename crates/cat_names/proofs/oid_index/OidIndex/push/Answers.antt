use Rattle.std.proofs.Common.{◌≡◌, [], ◌∷◌, ◌++◌, not, is_some, ap, ◌∙◌, rules}
use Rattle.cat_names.specs.Lookups.{has_oid}
use Rattle.cat_names.proofs.Places.{is_some-place, indexed_push}
use Rattle.cat_names.proofs.oid_index.OidIndex.push.Goals as goal

pub invariant_of-self-2 : goal.invariant_of-self-2
invariant_of-self-2 c =
    let items : c.push.new.self.items ≡ c.self.inside.oids.items ++ c.args.oid ∷ [] = search rules in
    rw items (indexed_push c.self.inside.oids.items c.self.inside.places c.add_place.new.places c.args.oid _ c.in_ok-first.first c.self.invariant (search rules) c.in_ok-first.ensures.first c.in_ok-first.ensures.new c.in_ok-first.ensures.old)

pub returns-clause-first : goal.returns-clause-first
returns-clause-first c =
    c.in_ok-first.ensures.first
    ∙ ap (λ o. not (is_some o)) (c.self.invariant c.args.oid)
    ∙ ap not (is_some-place c.args.oid c.self.inside.oids.items)
    ∙ ap (λ os. not (has_oid os c.args.oid)) c.self.view_is
