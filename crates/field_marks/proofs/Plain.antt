-- A text of plain bytes has no escape, and is UTF-8.
use Rattle.std.proofs.Common.{◌≡◌, inl, inr, ℕ, ◌<◌, false, List, length, get_or, sym, ◌∙◌, arith}
use Rattle.std.proofs.lemmas.Bool.{true≢false, or_parts, leb-false, cases_lt}
use Rattle.std.proofs.lemmas.List.{get_or_past}
use Rattle.std.proofs.lemmas.Str.{IsUtf8-from_ascii}
use Rattle.line_fields.specs.Clear.{IsClearText}
use Rattle.field_marks.specs.Marks.{is_special}

module _ (text : List ℕ) (plain : (k : ℕ) → k < length text → is_special (get_or text k 0) ≡ false) where
  ascii : (k : ℕ) → get_or text k 0 < 128
  ascii k = elim (cases_lt k (length text)) [
    | inl lt ↦ omega (arith, leb-false 128 (get_or text k 0) (or_parts _ _ (plain k lt)).1)
    | inr le ↦ omega (arith, get_or_past text k 0 le)
  ]

  pub plain_is_clear : IsClearText text
  plain_is_clear = record {
    utf8 = IsUtf8-from_ascii text ascii;
    clear = λ k low lt is. true≢false (sym is ∙ (or_parts _ _ (plain k lt)).0);
  }
