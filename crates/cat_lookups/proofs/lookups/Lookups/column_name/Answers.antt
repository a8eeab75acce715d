use Rattle.std.proofs.Common.{◌≡◌, option_map, ap, sym, ◌∙◌, to_z, of_z, w64, rules}
use Rattle.std.proofs.lemmas.Int.{to_z-of_z}
use Rattle.std.specs.List.{slice_get}
use Rattle.std.specs.Option.{option_and_then}
use Rattle.cat_rows.specs.declared.relations.AttributeRow.{AttributeRow}
use Rattle.oid_groups.specs.Groups.{first_place}
use Rattle.oid_groups.proofs.Rows.{row_at_first}
use Rattle.cat_lookups.specs.Found.{column_name}
use Rattle.cat_lookups.proofs.lookups.Lookups.column_name.Goals as goal

pub returns-in-Some : goal.returns-in-Some
returns-in-Some c =
    let rows = c.self.inside.cat.now.pg_attribute in
    let oid = c.args.relation in
    let number = c.args.number in
    let back : to_z w64 (of_z w64 number) ≡ number = to_z-of_z w64 number (search rules) in
    c.name_at.ensures
    ∙ ap (λ rs. option_map (λ (a : AttributeRow). a.attname) (slice_get rs c.in-Some.place)) c.as_slice.ensures
    ∙ ap (λ p. option_map (λ (a : AttributeRow). a.attname) (option_and_then (slice_get rows) p)) (sym c.in-Some.is ∙ c.first.ensures ∙ ap (first_place c.self.inside.places.columns oid) back ∙ ap (λ ks. first_place ks oid number) c.self.invariant.of_columns)
    ∙ ap (option_map (λ (a : AttributeRow). a.attname)) (row_at_first (λ (a : AttributeRow). a.attrelid) (λ (a : AttributeRow). a.attnum) rows oid number)
    ∙ ap (λ k. column_name k oid number) c.self.view_is

pub returns-in-None : goal.returns-in-None
returns-in-None c =
    let rows = c.self.inside.cat.now.pg_attribute in
    let oid = c.args.relation in
    let number = c.args.number in
    let back : to_z w64 (of_z w64 number) ≡ number = to_z-of_z w64 number (search rules) in
    ap (λ p. option_map (λ (a : AttributeRow). a.attname) (option_and_then (slice_get rows) p)) (sym c.in-None.is ∙ c.first.ensures ∙ ap (first_place c.self.inside.places.columns oid) back ∙ ap (λ ks. first_place ks oid number) c.self.invariant.of_columns)
    ∙ ap (option_map (λ (a : AttributeRow). a.attname)) (row_at_first (λ (a : AttributeRow). a.attrelid) (λ (a : AttributeRow). a.attnum) rows oid number)
    ∙ ap (λ k. column_name k oid number) c.self.view_is
