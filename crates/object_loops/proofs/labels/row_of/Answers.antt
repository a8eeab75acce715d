use Rattle.std.proofs.Common.{◌≡◌, ◌∙◌, sym, to_z, of_z, w64, rules}
use Rattle.std.proofs.lemmas.Int.{to_z-of_z}
use Rattle.cluster_loops.specs.Ids.{oids_of}
use Rattle.object_loops.proofs.labels.row_of.Goals as goal

-- a number that is moved goes through its machine form, and is itself again
pub returns : goal.returns
returns c = λ number.
    let place = c.position-number.result in
    let back : to_z w64 (of_z w64 place) ≡ place = to_z-of_z w64 place (search rules) in
    c.in_ok-label_row.ensures (oids_of c.args.ids.now number) c.args.path.now c.args.labels.now c.args.place (sym c.in_ok-own.ensures) (sym c.in_ok-of.ensures) (back ∙ c.position-number.ensures)
