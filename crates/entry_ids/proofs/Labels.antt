-- The labels of an enum from a place on: the one at the place, and those behind it.
use Rattle.std.proofs.Common.{◌≡◌, ℕ, ◌+◌, ◌<◌, List, [], ◌∷◌, length, drop, ap, add-one, drop-cons}
use Rattle.std.proofs.Math.ListN.{get_or}
use Rattle.cat_model.specs.declared.object.QName.{QName}
use Rattle.cat_model.specs.Values.{Bytes}
use Rattle.object_ids.specs.Slots.{label}
use Rattle.entry_ids.specs.Entries.{labels_from}

left : (labels : List Bytes) (place : ℕ) → place < length labels → drop place labels ≡ get_or labels place [] ∷ drop (place + 1) labels
left labels place h = rw (add-one, drop-cons labels place [])

pub more_labels : (q : QName) (labels : List Bytes) (place : ℕ) → place < length labels → labels_from q place (drop place labels) ≡ label q place ∷ labels_from q (place + 1) (drop (place + 1) labels)
more_labels q labels place h = ap (labels_from q place) (left labels place h)
