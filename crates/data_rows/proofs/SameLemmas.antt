-- When rows are the same, and when the lines of two texts read alike.
use Rattle.std.proofs.Common.{◌≡◌, Bool, List, Some, None, Decides, nat_eq, refl, ap}
use Rattle.std.specs.Option.{option_eq}
use Rattle.std.specs.Cmp.Lexicographic.{pointwise}
use Rattle.std.proofs.lemmas.Slice.Eq.{bytes_eq-Decides, slice_eq-Decides}
use Rattle.copy_text.specs.Rows.{Field}

field_eq-Decides : (field other : Field) → Decides (option_eq (pointwise nat_eq) field other) (field ≡ other)
field_eq-Decides None None = (λ _. refl, λ _. refl)
field_eq-Decides None (Some text) = (λ is. absurd cc, λ is. absurd cc)
field_eq-Decides (Some text) None = (λ is. absurd cc, λ is. absurd cc)
field_eq-Decides (Some text) (Some other) = (λ is. ap Some ((bytes_eq-Decides text other).0 is), λ is. (bytes_eq-Decides text other).1 cc)

pub row_eq-Decides : (row other : List Field) (r : Bool) → r ≡ pointwise (option_eq (pointwise nat_eq)) row other → Decides r (row ≡ other)
row_eq-Decides row other r is = slice_eq-Decides field_eq-Decides row other r is
