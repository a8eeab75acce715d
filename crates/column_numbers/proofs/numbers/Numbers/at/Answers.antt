use Rattle.std.proofs.Common.{◌≡◌, ℤ, pos, Option, unwrap_or, sym, ap, ◌∙◌, rules, w64}
use Rattle.std.proofs.lemmas.Int.{to_z-of_z}
use Rattle.std.specs.FinMap.{get}
use Rattle.std.specs.Prelude.{FitsSigned}
use Rattle.std.specs.Map.{lookup}
use Rattle.std.specs.Ordering.{eq_by_cmp}
use Rattle.cat_model.specs.Keys.{key_cmp}
use Rattle.cat_model.specs.KeyLaws.{key_cmp_total, key_cmp-IsAntisymmetric}
use Rattle.cat_model.proofs.MapsSeen.{got_seen}
use Rattle.column_numbers.specs.Numbers.{NumbersOf, number_at}
use Rattle.column_numbers.proofs.numbers.Numbers.at.Goals as goal

pub returns : goal.returns
returns c =
    let fits : FitsSigned w64 c.unwrap_or.result = search rules in
    let found : c.unwrap_or.result ≡ unwrap_or (lookup (eq_by_cmp key_cmp c.args.key.now) c.self.inside.numbers.entries) (pos 0) = search rules in
    to_z-of_z w64 c.unwrap_or.result fits
    ∙ found
    ∙ sym (ap (λ (o : Option ℤ). unwrap_or o (pos 0)) (got_seen key_cmp_total key_cmp-IsAntisymmetric c.self.inside.numbers.entries c.args.key.now))
    ∙ ap (λ (n : NumbersOf). number_at n c.args.key.now) c.self.view_is
