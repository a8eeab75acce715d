-- The fields are hashed through references, which feeds the same.
use Rattle.std.proofs.Common.{◌≡◌, ℕ, List, ◌++◌, map, ap, sym, ◌∙◌, Bor}
use Rattle.std.specs.Hash as fed
use Rattle.std.specs.List.{fold}
use Rattle.std.proofs.lemmas.List.{length-map}
use Rattle.std.proofs.lemmas.List.Folds.{flat_map-map}
use Rattle.row_keys.proofs.row_key.RowKeyHash.hash.Goals as goal

fed_through : (fields : List (Bor (List ℕ))) → fed.slice (λ f. fed.slice fed.u8 f.now) fields ≡ fed.slice (fed.slice fed.u8) (map (λ f. f.now) fields)
fed_through fields =
    λ i. fed.usize (sym (length-map fields (λ (f : Bor (List ℕ)). f.now)) i) ++ sym (flat_map-map (fed.slice fed.u8) (λ (f : Bor (List ℕ)). f.now) fields) i

pub returns : goal.returns
returns g c =
    c.hash.ensures
    ∙ ap (fold g.H.Hasher.write c.args.state.now) (fed_through c.self.inside.fields.items ∙ ap (fed.slice (fed.slice fed.u8)) c.self.view_is)
