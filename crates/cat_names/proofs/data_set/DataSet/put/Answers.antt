use Rattle.std.proofs.Common.{refl, ap, ◌∙◌}
use Rattle.std.specs.Ordering.{nat_cmp}
use Rattle.std.specs.Cmp.{nat_cmp_total}
use Rattle.std.specs.FinMap.{insert, nat_cmp-IsAntisymmetric}
use Rattle.cat_names.proofs.Mapped.{set_mapped}
use Rattle.cat_names.proofs.data_set.DataSet.put.Goals as goal

pub returns-clause-ok : goal.returns-clause-ok
returns-clause-ok c =
    set_mapped nat_cmp nat_cmp (λ k. k) (λ text. text.items) nat_cmp_total nat_cmp-IsAntisymmetric (λ a b. refl) (λ k. k) (λ k. refl) c.self.inside.texts c.insert.new.self c.args.table c.args.text c.in_ok-insert.ensures.updates.0
    ∙ ap (λ s. insert s c.args.table c.args.text.items) c.self.view_is
