use Rattle.std.proofs.Common.{option_map, ap, sym, ◌∙◌, Bor}
use Rattle.std.specs.List.{slice_get}
use Rattle.std.specs.Option.{option_and_then}
use Rattle.cat_names.specs.Lookups.{place_of}
use Rattle.cat_rows.specs.declared.constraints.ConstraintRow.{ConstraintRow}
use Rattle.cat_lookups.specs.Found.{table_of_key}
use Rattle.cat_lookups.proofs.Looking.{key_at_place}
use Rattle.cat_lookups.proofs.lookups.Lookups.table_of_key.Goals as goal

pub returns-in-Some : goal.returns-in-Some
returns-in-Some c =
    let cat = c.self.inside.cat.now in
    let keys = c.self.inside.keys.rows.items in
    let index = c.args.index in
    c.key_table_at.ensures
    ∙ ap (λ ks. option_map (λ (k : Bor ConstraintRow). k.now.conrelid) (slice_get ks c.in-Some.place)) c.deref.ensures.value
    ∙ ap (λ p. option_map (λ (k : Bor ConstraintRow). k.now.conrelid) (option_and_then (slice_get keys) p)) (sym c.in-Some.is ∙ c.find.ensures ∙ ap (place_of index) c.self.invariant.of_key_indexes)
    ∙ key_at_place cat keys index c.self.invariant.of_keys
    ∙ ap (λ k. table_of_key k index) c.self.view_is

pub returns-in-None : goal.returns-in-None
returns-in-None c =
    let cat = c.self.inside.cat.now in
    let keys = c.self.inside.keys.rows.items in
    let index = c.args.index in
    ap (λ p. option_map (λ (k : Bor ConstraintRow). k.now.conrelid) (option_and_then (slice_get keys) p)) (sym c.in-None.is ∙ c.find.ensures ∙ ap (place_of index) c.self.invariant.of_key_indexes)
    ∙ key_at_place cat keys index c.self.invariant.of_keys
    ∙ ap (λ k. table_of_key k index) c.self.view_is
