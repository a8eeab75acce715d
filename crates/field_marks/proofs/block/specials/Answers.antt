use Rattle.std.proofs.Common.{ℕ, refl}
use Rattle.std.proofs.lemmas.Simd.{zip2_splat, zip2_splat_left}
use Rattle.copy_text.specs.Marks.{backslash, carriage_return}
use Rattle.field_marks.specs.Marks.{is_special}
use Rattle.field_marks.proofs.Lanes.{hit, at_most, either, told}
use Rattle.field_marks.proofs.block.specials.Goals as goal

pub returns : goal.returns
returns c =
    let v = c.args.v in
    let is = λ (y : ℕ). zip2_splat hit v 64 y c.fits-v.0 in
    told _ is_special v _ c.fits-v (either _ _ v (either _ _ v (is backslash) (is carriage_return)) (zip2_splat_left at_most 128 64 v c.fits-v.0)) refl tt
