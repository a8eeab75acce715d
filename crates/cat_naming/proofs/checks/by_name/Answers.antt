use Rattle.std.proofs.Common.{List, sym, ap, ◌∙◌}
use Rattle.std.specs.FinMap.{FinMap}
use Rattle.cat_model.specs.Holders.{Bytes, bytes_cmp}
use Rattle.eng_map.proofs.Backwards.{onto, onto-empty, onto-push}
use Rattle.cat_naming.proofs.checks.by_name.Goals as goal

pub checks-init : goal.checks-init
checks-init c =
    ap (λ (m : FinMap bytes_cmp Bytes). onto c.args.listed.items m) c.new-checks.ensures
    ∙ onto-empty c.args.listed.items

pub checks-preserved : goal.checks-preserved
checks-preserved c =
    let left = c.pop.new.self.items in
    let checks = c.checks.checks in
    ap (onto left) c.in_ok-put.ensures.ok
    ∙ sym (onto-push left c.in-Some.name c.in-Some.text checks)
    ∙ ap (λ (es : List (Bytes × Bytes)). onto es checks) (sym c.in-Some.ensures.items)
    ∙ c.checks.invariant
