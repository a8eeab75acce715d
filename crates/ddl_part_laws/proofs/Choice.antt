-- The laws of one of two parts, and of a part that may be left out.
use Rattle.ddl_part_laws.proofs.Common.{arith, ◌≡◌, Bool, true, false, List, ◌++◌, refl, ap, ◌∙◌, inl, inr, ◌∷◌, Lexeme, starts, Part, choose, choose_at, Lawful, Begins, Avoids, Apart}
use Rattle.ddl_part_laws.proofs.{Steps.Agrees, Steps.starts_again, Steps.starts_neither, Steps.starts-append, Steps.avoids_begun, Told.Tells, Told.left_of, Told.long_of, Told.told, Told.lawful, Told.told_as}

-- the reading by whether the first is taken
chosen : {A : Type 0} (test : Lexeme → Bool) (p q : Part A) (ts : List Lexeme) (b : Bool) → starts test ts ≡ b → (choose test p q).read ts ≡ choose_at b (p.read ts) (q.read ts)
chosen test p q ts b e = ap (λ b. choose_at b (p.read ts) (q.read ts)) e

choose_tells : {A : Type 0} (test : Lexeme → Bool) → Agrees test → (p q : Part A) → Lawful p → Lawful q → (ts : List Lexeme) (b : Bool) → starts test ts ≡ b → Tells (choose test p q) ts (choose_at b (p.read ts) (q.read ts))
choose_tells test agrees p q lp lq ts true e =
    let f = told lp ts (p.read ts) refl in
    told_as ts (p.read ts) f (λ v us s. inl s) (λ t behind is u like other. chosen test p q (f.front ++ u ∷ other) true (starts_again test agrees true ts f.front (left_of (p.read ts)) t behind e f.parts is (long_of (p.read ts)) u like other))
choose_tells test agrees p q lp lq ts false e =
    let f = told lq ts (q.read ts) refl in
    told_as ts (q.read ts) f (λ v us s. inr s) (λ t behind is u like other. chosen test p q (f.front ++ u ∷ other) false (starts_again test agrees false ts f.front (left_of (q.read ts)) t behind e f.parts is (long_of (q.read ts)) u like other))

-- one of two parts has the laws where the next token tells them apart
pub choose_laws : {A : Type 0} (test : Lexeme → Bool) → Agrees test → (p q : Part A) → Lawful p → Lawful q → Begins test p → Avoids test q → Lawful (choose test p q)
choose_laws {A} test agrees p q lp lq begins avoids =
    lawful (λ ts. choose_tells test agrees p q lp lq ts (starts test ts) refl) (λ v front rest spells free. let none = starts_neither p.goes_on q.goes_on rest free in elim spells [
      | inl s ↦ chosen test p q (front ++ rest) true (starts-append test front rest (begins v front s)) ∙ lp.only v front rest s none.0
      | inr s ↦ chosen test p q (front ++ rest) false (avoids v front rest s none.1) ∙ lq.only v front rest s none.1
    ]) (record { value = lp.example.value; tokens = lp.example.tokens; spells = inl lp.example.spells })

-- where the second begins with other tokens
pub choose_apart : {A : Type 0} (test other : Lexeme → Bool) → Agrees test → (p q : Part A) → Lawful p → Lawful q → Begins test p → Begins other q → Apart other test → Lawful (choose test p q)
choose_apart test other agrees p q lp lq begins begins' apart = choose_laws test agrees p q lp lq begins (avoids_begun other test q begins' apart)

-- what spells one of two parts begins as one of them does
pub choose_begins : {A : Type 0} (test begun : Lexeme → Bool) (p q : Part A) → Begins begun p → Begins begun q → Begins begun (choose test p q)
choose_begins test begun p q b c = grind arith
