use Rattle.std.proofs.Common.{map, ap, sym, ◌∙◌, Bor}
use Rattle.std.proofs.lemmas.Simd.{map-map}
use Rattle.std.specs.List.{filter}
use Rattle.cat_rows.specs.declared.constraints.ConstraintRow.{ConstraintRow}
use Rattle.cat_book.specs.Leads.{is_primary}
use Rattle.cat_book.proofs.oids.primary_tables.Goals as goal

pub returns : goal.returns
returns c =
    c.in_ok-oids.ensures
    ∙ ap (map (λ (k : Bor ConstraintRow). k.now.conrelid)) c.deref.ensures.value
    ∙ sym (map-map (λ (k : ConstraintRow). k.conrelid) (λ (k : Bor ConstraintRow). k.now) c.in_ok-keys.keys.items)
    ∙ ap (map (λ (k : ConstraintRow). k.conrelid)) (c.in_ok-keys.ensures ∙ ap (filter is_primary) c.as_slice.ensures)
