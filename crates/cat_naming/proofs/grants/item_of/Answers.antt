use Rattle.std.proofs.Common.{ap, sym, ◌+◌, ◌∙◌, take}
use Rattle.cat_model.specs.Grants.{both_rights}
use Rattle.cat_names.specs.Grants.{listed_rights, listed_options}
use Rattle.cat_naming.proofs.Rights.{rights_more, options_more}
use Rattle.cat_naming.proofs.grants.item_of.Goals as goal

pub loop-right-preserved : goal.loop-right-preserved
loop-right-preserved c =
    let rs = c.as_slice-right-items.result.now in
    let is = c.as_slice-right-items.ensures in
    let i = c.loop-right.right-index in (
      c.both_rights-rights.ensures
          ∙ ap (λ r. both_rights r c.one_right.result) (c.loop-right.invariant.0 ∙ ap (λ rs. listed_rights (take i rs)) (sym is))
          ∙ ap (both_rights (listed_rights (take i rs))) c.one_right.ensures
          ∙ rights_more rs i _ c.loop-right-test.true
          ∙ ap (λ rs. listed_rights (take (i + 1) rs)) is,
      c.both_rights-options.ensures
          ∙ ap (λ r. both_rights r c.right_option.result) (c.loop-right.invariant.1 ∙ ap (λ rs. listed_options (take i rs)) (sym is))
          ∙ ap (both_rights (listed_options (take i rs))) c.right_option.ensures
          ∙ options_more rs i _ c.loop-right-test.true
          ∙ ap (λ rs. listed_options (take (i + 1) rs)) is,
    )
