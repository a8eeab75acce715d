use Rattle.std.proofs.Common.{[], ◌∷◌, ◌++◌, subst}
use Rattle.cat_names.specs.Indexed.{AreKeys}
use Rattle.cat_names.specs.Rights.{grantee_cmp}
use Rattle.cat_names.proofs.rights.is_bad_item.Goals as goal

pub returns-then-not-known-clause-added : goal.returns-then-not-known-clause-added
returns-then-not-known-clause-added c = λ gs h. subst (λ g. AreKeys grantee_cmp c.add_key.new.keys (gs ++ g ∷ [])) c.in_ok-clone_grantee.ensures (c.in_ok-first.ensures.added gs h)

pub returns-else-not-known-clause-added : goal.returns-else-not-known-clause-added
returns-else-not-known-clause-added c = λ gs h. subst (λ g. AreKeys grantee_cmp c.add_key.new.keys (gs ++ g ∷ [])) c.in_ok-clone_grantee.ensures (c.in_ok-first.ensures.added gs h)
