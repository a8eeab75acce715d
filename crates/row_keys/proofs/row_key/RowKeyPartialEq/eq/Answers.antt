-- The fields are compared through references, which compares the same.
use Rattle.std.proofs.Common.{ℕ, List, nat_eq, sym, ◌∙◌, Bor}
use Rattle.std.specs.Cmp.Lexicographic.{pointwise}
use Rattle.std.specs.Cmp.Derive.Mapped.{pointwise-map}
use Rattle.row_keys.proofs.row_key.RowKeyPartialEq.eq.Goals as goal

pub returns : goal.returns
returns c =
    c.eq.ensures
    ∙ sym (pointwise-map (λ (f : Bor (List ℕ)). f.now) (pointwise nat_eq) c.self.inside.fields.items c.other.inside.fields.items)
    ∙ (λ i. pointwise (pointwise nat_eq) (c.self.view_is i) (c.other.view_is i))
