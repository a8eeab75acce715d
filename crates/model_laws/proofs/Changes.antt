-- What stands at a key after changes.
use Rattle.std.proofs.Common.{◌≡◌, Bool, true, false, cond, List, [], ◌∷◌, Option, Some, None, Result, Ok, Err, refl, ap, sym, ◌∙◌}
use Rattle.std.specs.Ordering.{eq_by_cmp}
use Rattle.std.specs.FinMap.{get, insert, remove, get-insert, get-remove}
use Rattle.cat_model.specs.declared.key.Key.{Key}
use Rattle.cat_model.specs.declared.cause.Cause.{Cause}
use Rattle.cat_model.specs.Keys.{key_cmp, key_eq}
use Rattle.cat_model.specs.KeyLaws.{key_cmp_total, key_eq-Decides}
use Rattle.cat_model.specs.declared.value.Value.{Value}
use Rattle.cat_model.specs.Values.{Named}
use Rattle.cat_model.specs.Trees.{Change, changed_at, changed, after}

pub key_eq_self : (k : Key) → key_eq k k ≡ true
key_eq_self k = (key_eq-Decides k k).1 refl

-- what stands at a key after changes, by what stood there
abbrev pub value_after : List Change → Key → Option Value → Option Value
value_after [] k old = old
value_after (c ∷ cs) k old = value_after cs k (cond (key_eq k c.0) c.1 old)

get-changed_at : (named : Named) (k : Key) (v : Option Value) (q : Key) → get (changed_at named k v) q ≡ cond (key_eq q k) v (get named q)
get-changed_at named k (Some v) q = get-insert key_cmp_total named k v q
get-changed_at named k None q = get-remove key_cmp_total named k q

pub get-changed : (cs : List Change) (named : Named) (q : Key) → get (changed cs named) q ≡ value_after cs q (get named q)
get-changed [] named q = refl
get-changed (c ∷ cs) named q = get-changed cs (changed_at named c.0 c.1) q ∙ ap (value_after cs q) (get-changed_at named c.0 c.1 q)
