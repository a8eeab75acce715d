-- The fields of an entry in groups, as the code reads them.
use Rattle.std.specs.Prelude.{ℕ, Bool, List, Option}
use Rattle.toc_layout.specs.declared.reading.Identity.{Identity}
use Rattle.toc_layout.specs.declared.reading.Labels.{Labels}
use Rattle.toc_layout.specs.declared.reading.ThreeTexts.{ThreeTexts}

abbrev pub identity_seen : Identity → Bool × (ℕ × ℕ)
identity_seen x = (x.has_rows, (x.tableoid, x.oid))

abbrev pub labels_seen : Labels → List ℕ × (List ℕ × ℕ)
labels_seen x = (x.tag, (x.desc, x.section))

abbrev pub three_seen : ThreeTexts → Option (List ℕ) × (Option (List ℕ) × Option (List ℕ))
three_seen x = (x.first, (x.second, x.third))
