use Rattle.std.proofs.Common.{◌≡◌, get_or, sym}
use Rattle.std.specs.Char.{digit_value}
use Rattle.copy_text.proofs.EscapeLemmas.{byte_of_digits_more, digit_read}
use Rattle.copy_text.proofs.escape.byte_of.Goals as goal

pub loop-digit-preserved : goal.loop-digit-preserved
loop-digit-preserved c =
    let value : c.unwrap-value.result ≡ digit_value (get_or c.args.digits.now c.loop-digit.digit-index 0) = rw (← c.from.ensures) (digit_read _ (digit_value c.from.result) c.unwrap-value.result c.to_digit.ensures.value c.unwrap-value.ensures) in
    rw (c.loop-digit.invariant, value) (sym (byte_of_digits_more c.args.base c.args.digits.now c.loop-digit.digit-index c.loop-digit-test.true))
