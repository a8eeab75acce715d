use Rattle.std.proofs.Common.{◌≡◌, ◌+◌, ◌-◌, ℕ, sym, ap, ◌∙◌, get_or, arith}
use Rattle.std.specs.Int.{bit_at}
use Rattle.std.proofs.lemmas.Bool.{eqb-true, false_from_ne_true}
use Rattle.std.proofs.lemmas.Nat.Bits.{bit_at-zero}
use Rattle.field_marks.specs.Marks.{is_special}
use Rattle.field_marks.proofs.block.are_plain.Goals as goal

pub returns : goal.returns
returns c = λ yes k low high.
    let j : ℕ = k - c.args.at in
    let none : c.specials.result ≡ 0 = eqb-true _ _ yes in
    let place : c.args.at + j ≡ k = omega arith in
    let same : get_or c.load.result j 0 ≡ get_or c.args.text.now k 0 = c.load.ensures j (omega arith) ∙ ap (λ n. get_or c.args.text.now n 0) place in
    ap is_special (sym same) ∙ false_from_ne_true _ (λ is. omega (arith, ap (λ m. bit_at m j) (sym none) ∙ (c.specials.ensures j).1 is, bit_at-zero j))
