-- One more name.
use Rattle.std.proofs.Common.{◌≡◌, ◌<◌, ℕ, ◌+◌, List, [], ◌∷◌, ◌++◌, map, take, length, get_or, ap, sym, ◌∙◌, arith, length-take-le}
use Rattle.std.specs.Borrow.{Bor}
use Rattle.std.specs.List.{position_from}
use Rattle.std.proofs.lemmas.List.{take_more, map-append, length-map}
use Rattle.cat_model.specs.Lexemes.{same_text}
use Rattle.field_values.proofs.name_places.first_places.Goals as goal

pub loop-i-preserved : goal.loop-i-preserved
loop-i-preserved c = λ q.
    let names = c.args.names.now in
    let i = c.loop-i.i in
    let bytes : Bor (List ℕ) → List ℕ = λ name. name.now in
    let none : Bor (List ℕ) = record { ref_ptr = (0, 0); now = [] } in
    let below : i < length names = omega arith in
    let count : i ≡ length (map bytes (take i names)) = sym (length-map (take i names) bytes ∙ length-take-le i names (omega arith)) in
    let more : map bytes (take i names) ++ bytes (get_or names i none) ∷ [] ≡ map bytes (take (i + 1) names) =
    sym (map-append bytes (take i names) (get_or names i none ∷ [])) ∙ ap (map bytes) (sym (take_more names i none below)) in
    c.in_ok-add_place.ensures (map bytes (take i names)) c.loop-i.invariant count q ∙ ap (position_from (same_text q) 0) more
