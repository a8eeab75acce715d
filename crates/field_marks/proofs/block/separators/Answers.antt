use Rattle.std.proofs.Common.{ℕ, refl}
use Rattle.std.proofs.lemmas.Simd.{zip2_splat}
use Rattle.memchr.specs.Find.{is_byte2}
use Rattle.copy_text.specs.Marks.{tab, newline}
use Rattle.field_marks.proofs.Lanes.{hit, either, told}
use Rattle.field_marks.proofs.block.separators.Goals as goal

pub returns : goal.returns
returns c =
    let v = c.args.v in
    let is = λ (y : ℕ). zip2_splat hit v 64 y c.fits-v.0 in
    told _ (is_byte2 tab newline) v _ c.fits-v (either _ _ v (is tab) (is newline)) refl tt
