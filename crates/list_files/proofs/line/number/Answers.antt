use Rattle.std.proofs.Common.{◌≡◌, ◌+◌, ◌-◌, ◌*◌, ◌<◌, min, length, get_or, arith}
use Rattle.list_files.proofs.Numbers.{value_next}
use Rattle.list_files.proofs.line.number.Goals as goal

pub loop-digit-preserved : goal.loop-digit-preserved
loop-digit-preserved c =
    let below : c.loop-digit.digit-index < length c.args.digits.now = omega arith in
    let next : c.min-value.result ≡ min (c.loop-digit.value * 10 + (get_or c.args.digits.now c.loop-digit.digit-index 0 - 48)) 4294967296 =
    omega (arith, c.min-value.ensures, c.from.ensures, c.saturating_sub.ensures) in
    value_next c.args.digits.now c.loop-digit.digit-index c.loop-digit.value c.min-value.result below c.loop-digit.invariant next
