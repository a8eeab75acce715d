use Rattle.std.proofs.Common.{◌≡◌, Bool, true, false, cond, ◌||◌, refl, ◌∙◌}
use Rattle.std.specs.Ordering.{eq_by_cmp}
use Rattle.std.specs.BTreeSet.{contains}
use Rattle.cat_model.specs.Values.{bytes_cmp}
use Rattle.schema_folders.proofs.schemas.index.Goals as goal

cond_true : (b c : Bool) → cond b true c ≡ (b || c)
cond_true true c = refl
cond_true false c = refl

pub returns-clause-names_ok : goal.returns-clause-names_ok
returns-clause-names_ok c = λ q. c.in_default.ensures.updates.0 q ∙ cond_true (eq_by_cmp bytes_cmp c.args.name q) (contains bytes_cmp c.args.names.now q)
