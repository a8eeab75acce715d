use Rattle.std.proofs.Common.{◌≡◌, ◌+◌, ◌/◌, ◌%◌, ◌^◌, ap, ◌∙◌, shr-shr, arith}
use Rattle.std.specs.Int.{bit_at}
use Rattle.field_marks.proofs.block.above.Goals as goal

pub returns : goal.returns
returns c k =
    let bits = c.args.bits in
    let at = c.args.at in
    let place : at + (1 + k) ≡ at + 1 + k = omega arith in
    ap (λ x. x % 2) (shr-shr (bits / 2 ^ at) 1 k ∙ shr-shr bits at (1 + k)) ∙ ap (bit_at bits) place
