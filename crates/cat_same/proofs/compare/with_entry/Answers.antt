use Rattle.std.proofs.Common.{inl, inr, refl, true≢false, sym, ◌∙◌}
use Rattle.cat_same.proofs.compare.with_entry.Goals as goal

pub returns-then-is_at : goal.returns-then-is_at
returns-then-is_at c = inl (c.is_at.ensures.0 c.if-is_at.true, refl)

pub returns-else-is_at : goal.returns-else-is_at
returns-else-is_at c = inr (λ same. true≢false (sym (c.is_at.ensures.1 same) ∙ c.if-is_at.false), c.lesser.ensures)
