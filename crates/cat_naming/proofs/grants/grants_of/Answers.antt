use Rattle.std.proofs.Common.{sym, ap, ◌∙◌}
use Rattle.std.proofs.lemmas.Result.{IfOk-weaker}
use Rattle.std.specs.FinMap.{from_entries}
use Rattle.cat_model.specs.Values.{holder_cmp}
use Rattle.cat_names.specs.Grants.{grants_of}
use Rattle.cat_naming.specs.Rights.{grant_entries}
use Rattle.cat_naming.proofs.grants.grants_of.Goals as goal

pub returns-in-None : goal.returns-in-None
unfolding grants_of
returns-in-None c = IfOk-weaker c.default_grants.result _ _ (λ grants e. e ∙ sym (ap (grants_of c.args.kind c.args.owner.now) c.in-None.is)) c.default_grants.ensures

pub returns-in-Some : goal.returns-in-Some
unfolding grants_of
returns-in-Some c = IfOk-weaker c.listed_grants.result _ _ (λ grants e. e ∙ ap (λ is. from_entries {R = holder_cmp} (grant_entries c.args.owner.now is)) c.as_slice.ensures ∙ sym (ap (grants_of c.args.kind c.args.owner.now) c.in-Some.is)) c.listed_grants.ensures
