use Rattle.std.proofs.Common.{option_map, filter_map, sym, ◌∙◌}
use Rattle.cat_book.specs.Rules.{Keys}
use Rattle.cat_book.specs.Sets.{seen_name}
use Rattle.cat_book.proofs.Behind.{seen_more}
use Rattle.cat_book.proofs.lines.find_in.Goals as goal

pub returns-clause-seen : goal.returns-clause-seen
returns-clause-seen g c = λ before are.
    let rules = g.T.Conditions.rules in
    let inside = c.keys.inside in
    let keys : Keys = record { oid = inside.oid; name = option_map seen_name inside.name; place = inside.place; is_marked = inside.is_marked } in
    seen_more rules before c.args.row.now keys c.args.seen.now
    (record { oids = c.add_oid.new.oids; names = c.add_name.new.names; places = c.add_place.new.places; is_marked = c.either-seen.result })
    (sym c.keys-keys.ensures ∙ sym c.keys.view_is)
    are
    (c.in_ok-repeated_oid.ensures.added (filter_map (λ r. (rules.keys r).oid) before) are.oids)
    (c.in_ok-same_name.ensures.added (filter_map (λ r. (rules.keys r).name) before) are.names)
    (c.in_ok-same_place.ensures.added (filter_map (λ r. (rules.keys r).place) before) are.places)
    c.either-seen.ensures
