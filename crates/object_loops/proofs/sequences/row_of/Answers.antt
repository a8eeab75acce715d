use Rattle.std.proofs.Common.{◌≡◌, ℤ, sym, subst, to_z, of_z, w64, rules}
use Rattle.std.proofs.lemmas.Int.{to_z-of_z}
use Rattle.std.specs.FinMap.{get}
use Rattle.cat_model.specs.declared.key.Key.TheVariants as key
use Rattle.object_export.specs.Relations.{IsSequenceRow}
use Rattle.object_loops.specs.Oids.{with_numbers}
use Rattle.object_loops.proofs.Owning.{owning}
use Rattle.object_loops.proofs.sequences.row_of.Goals as goal

-- a number that is moved goes through its machine form, and is itself again
pub returns : goal.returns
returns c = λ owned.
    let named = c.args.named.now in
    let oids = with_numbers c.args.ids.now c.args.numbers.now in
    let number = c.args.number in
    let back : to_z w64 (of_z w64 number.0) ≡ number.0 = to_z-of_z w64 number.0 (search rules) in
    subst (λ (last : ℤ). IsSequenceRow named oids (record { path = c.args.path.now; sequence = c.args.sequence.now; last = last; called = number.1 }) c.in_ok-sequence_row.field-0) back
    (c.in_ok-sequence_row.ensures named oids c.args.path.now (sym c.in_ok-own.ensures) (owning oids (get named (key.OwnedBy c.args.path.now)) c.in_ok-owner.owner owned c.in_ok-owner.ensures))
