-- Entries at places, each with its rows.
use Rattle.std.specs.Prelude.{ℕ, List, [], ◌∷◌, slice_get, Option, Some, None}
use Rattle.std.specs.List.{flat_map}
use Rattle.toc_entry.specs.declared.entry.Entry.{Entry}

abbrev pub with_rows : (ℕ → Option (List ℕ)) → Option Entry → List (Entry × Option (List ℕ))
with_rows rows None = []
with_rows rows (Some e) = (e, rows e.dump_id) ∷ []

abbrev pub entries_with_rows : List Entry → (ℕ → Option (List ℕ)) → List ℕ → List (Entry × Option (List ℕ))
entries_with_rows entries rows places = flat_map (λ i. with_rows rows (slice_get entries i)) places
