use Rattle.std.proofs.Common.{Some, option_map, refl, ap, sym, ◌∙◌}
use Rattle.std.specs.Ordering.{nat_cmp}
use Rattle.std.specs.Cmp.{nat_cmp_total}
use Rattle.std.specs.FinMap.{get, nat_cmp-IsAntisymmetric}
use Rattle.cat_names.proofs.Mapped.{get_mapped}
use Rattle.cat_names.proofs.data_set.DataSet.text.Goals as goal

pub returns-in-Some : goal.returns-in-Some
returns-in-Some c =
    ap Some c.as_slice.ensures.value
    ∙ ap (option_map (λ text. text.items)) c.in-Some.ensures.value
    ∙ sym (get_mapped nat_cmp nat_cmp (λ k. k) (λ text. text.items) nat_cmp_total nat_cmp-IsAntisymmetric (λ a b. refl) c.self.inside.texts c.args.table)
    ∙ ap (λ s. get s c.args.table) c.self.view_is

pub returns-in-None : goal.returns-in-None
returns-in-None c =
    ap (option_map (λ text. text.items)) c.in-None.ensures.value
    ∙ sym (get_mapped nat_cmp nat_cmp (λ k. k) (λ text. text.items) nat_cmp_total nat_cmp-IsAntisymmetric (λ a b. refl) c.self.inside.texts c.args.table)
    ∙ ap (λ s. get s c.args.table) c.self.view_is
