use Rattle.std.proofs.Common.{◌≡◌, ℤ, w64, to_z, of_z, refl, sym, subst, rules}
use Rattle.std.specs.FinMap.{get}
use Rattle.cat_model.specs.declared.key.Key.TheVariants as key
use Rattle.named_objects.specs.Relations.{IsOwnerOf}
use Rattle.object_rows.specs.declared.parts.ColumnPlace.{ColumnPlace}
use Rattle.object_rows.proofs.Classes.{by_owner}
use Rattle.object_rows.proofs.sequences.sequence_row.Goals as goal

pub returns : goal.returns
returns c = λ named oids q is_oid is_owner. record {
  relation = sym is_oid;
  type = c.in_ok-kind_text.ensures;
  numbers = search rules;
  last = search rules;
  called = refl;
  owner =
      let place = c.place_or_none-place.result in
      let same : to_z w64 (of_z w64 place.number) ≡ place.number = search rules in
      let h = subst (λ (at : ColumnPlace). IsOwnerOf oids (get named (key.OwnedBy q)) at.relation at.number) (sym c.place_or_none-place.ensures) (by_owner oids (get named (key.OwnedBy q)) c.args.owner is_owner) in
      subst (λ (n : ℤ). IsOwnerOf oids (get named (key.OwnedBy q)) place.relation n) (sym same) h;
}
