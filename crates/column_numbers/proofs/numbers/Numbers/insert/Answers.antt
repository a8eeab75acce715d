use Rattle.std.proofs.Common.{ℤ, ap, ◌∙◌, w64}
use Rattle.std.proofs.lemmas.Int.{to_z-of_z}
use Rattle.std.specs.FinMap.{from_entries, insert}
use Rattle.std.specs.Int.{cast_signed, cast_unsigned}
use Rattle.cat_model.specs.Keys.{key_cmp}
use Rattle.cat_model.specs.KeyLaws.{key_cmp_total, key_cmp-IsAntisymmetric}
use Rattle.cat_model.proofs.MapsSeen.{set_seen}
use Rattle.column_numbers.specs.Numbers.{NumbersOf}
use Rattle.column_numbers.proofs.numbers.Numbers.insert.Goals as goal

pub returns-clause-ok : goal.returns-clause-ok
returns-clause-ok c =
    set_seen key_cmp_total key_cmp-IsAntisymmetric c.self.inside.numbers.entries c.insert.new.self.entries c.args.key (cast_signed w64 (cast_unsigned w64 c.args.number)) c.in_ok-insert.ensures.updates.0
    ∙ ap (λ (n : ℤ). insert (from_entries {R = key_cmp} c.self.inside.numbers.entries) c.args.key n) (to_z-of_z w64 c.args.number c.ranges.number)
    ∙ ap (λ (n : NumbersOf). insert n c.args.key c.args.number) c.self.view_is
