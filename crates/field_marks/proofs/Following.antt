-- What marks tell of the text behind a tab or a newline.
use Rattle.std.proofs.Common.{◌≡◌, inl, inr, ℕ, ◌+◌, ◌-◌, ◌<◌, List, drop, get_or, sym, ap, subst, ◌∙◌, arith}
use Rattle.std.specs.Int.{bit_at}
use Rattle.std.proofs.lemmas.Bool.{cases_lt}
use Rattle.std.proofs.lemmas.List.{length-drop, get_or-drop, drop-drop}
use Rattle.std.proofs.lemmas.Nat.Bits.{bit_at-zero}
use Rattle.memchr.specs.Find.{Nowhere, is_byte2}
use Rattle.copy_text.specs.Marks.{tab, newline}
use Rattle.field_marks.specs.Marks.{AreMarks, AreMarksFrom, IsFirstMarked, Separates}

no_bit : {L : Type 0} (k : ℕ) → bit_at 0 k ≡ 1 → L
no_bit k is = absurd (omega (arith, bit_at-zero k, is))

-- nothing is known of a text
pub unknown : (text : List ℕ) → AreMarks text 0 0
unknown text = record {
  within = omega arith;
  each = λ k. (λ is. no_bit k is, λ both. absurd (omega (arith, both.0)));
}

moved : (text : List ℕ) (n k : ℕ) → (Separates text (n + k) → Separates (drop n text) k) × (Separates (drop n text) k → Separates text (n + k))
moved text n k =
    let same : get_or (drop n text) k 0 ≡ get_or text (n + k) 0 = get_or-drop n text k 0 in
    (λ is. ap (is_byte2 tab newline) same ∙ is, λ is. ap (is_byte2 tab newline) (sym same) ∙ is)

-- ---- the lowest mark

module _ (text : List ℕ) (bits known at : ℕ) (marks : AreMarks text bits known) (set : bit_at bits at ≡ 1) where
  pub lowest_here : (at < known) × Separates text at
  lowest_here = (marks.each at).0 set

  pub lowest_first : ((k : ℕ) → k < at → bit_at bits k ≡ 0) → Nowhere (Separates text) 0 at
  lowest_first below k low lt is =
      let there : bit_at bits k ≡ 1 = (marks.each k).1 (omega (arith, lowest_here.0), is) in
      absurd (omega (arith, there, below k lt))

  pub lowest_behind : (more : ℕ) → ((k : ℕ) → bit_at more k ≡ bit_at bits (at + 1 + k)) → AreMarks (drop (at + 1) text) more (known - at - 1)
  lowest_behind more shifted = record {
    within = omega (arith, length-drop (at + 1) text, marks.within, lowest_here.0);
    each = λ k. (
      λ is.
          let found = (marks.each (at + 1 + k)).0 (sym (shifted k) ∙ is) in (omega (arith, found.0), (moved text (at + 1) k).0 found.1),
      λ both. shifted k ∙ (marks.each (at + 1 + k)).1 (omega (arith, both.0), (moved text (at + 1) k).1 both.1),
    );
  }

-- no mark is set
pub nothing_known : (text : List ℕ) (bits known : ℕ) → AreMarks text bits known → bits ≡ 0 → Nowhere (Separates text) 0 known
nothing_known text bits known marks none k low lt is = no_bit k (ap (λ m. bit_at m k) (sym none) ∙ (marks.each k).1 (lt, is))

-- ---- the first marks

module _ (text : List ℕ) (start bits at : ℕ) (first : IsFirstMarked text start bits) (set : bit_at bits at ≡ 1) where
  marks : AreMarks (drop start text) bits 64
  marks = record {
    within = omega (arith, length-drop start text, first.room);
    each = λ k. (
      λ is. (((first.marks k).0 is).0, (moved text start k).0 ((first.marks k).0 is).1),
      λ both. (first.marks k).1 (both.0, (moved text start k).1 both.1),
    );
  }

  pub marked_here : (at < 64) × Separates text (start + at)
  marked_here = (first.marks at).0 set

  pub marked_first : ((k : ℕ) → k < at → bit_at bits k ≡ 0) → Nowhere (Separates text) 0 (start + at)
  marked_first below k low lt is = elim (cases_lt k start) [
    | inl before ↦ first.none k low before is
    | inr behind ↦
        let j : ℕ = k - start in
        let place : k ≡ start + j = omega arith in
        lowest_first (drop start text) bits 64 at marks set below j (omega arith) (omega arith) ((moved text start j).0 (subst (Separates text) place is))
  ]

  pub marked_behind : (more : ℕ) → ((k : ℕ) → bit_at more k ≡ bit_at bits (at + 1 + k)) → AreMarks (drop (start + at + 1) text) more (64 - at - 1)
  marked_behind more shifted =
      let place : start + (at + 1) ≡ start + at + 1 = omega arith in
      subst (λ xs. AreMarks xs more (64 - at - 1)) (drop-drop (at + 1) start text ∙ ap (λ n. drop n text) place) (lowest_behind (drop start text) bits 64 at marks set more shifted)

-- one block more without a mark
pub block_passed : (text : List ℕ) (at bits : ℕ) → Nowhere (Separates text) 0 at → AreMarksFrom text at bits → bits ≡ 0 → Nowhere (Separates text) 0 (at + 64)
block_passed text at bits none marks empty k low lt is = elim (cases_lt k at) [
  | inl before ↦ none k low before is
  | inr behind ↦
      let j : ℕ = k - at in
      let place : k ≡ at + j = omega arith in
      no_bit j (ap (λ m. bit_at m j) (sym empty) ∙ (marks j).1 (omega arith, subst (Separates text) place is))
]
