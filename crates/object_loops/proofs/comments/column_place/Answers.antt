use Rattle.std.proofs.Common.{◌≡◌, ◌∙◌, sym, to_z, of_z, w64, rules}
use Rattle.std.proofs.lemmas.Int.{to_z-of_z}
use Rattle.object_loops.proofs.comments.column_place.Goals as goal

-- a number that is moved goes through its machine form, and is itself again
pub returns : goal.returns
returns c =
    let number = c.in_ok-number.number in
    let back : to_z w64 (of_z w64 number) ≡ number = to_z-of_z w64 number (search rules) in
    record { relation = sym c.in_ok-relation.ensures; number = sym c.in_ok-number.ensures ∙ sym back }
