-- Where the first is taken the schema stands there, and a schema that stands there refuses the second.
use Rattle.std.proofs.Common.{◌≡◌, Bool, true, false, not, List, [], ◌∷◌, Option, Some, None, Result, Ok, Err, refl, ap, sym, ◌∙◌}
use Rattle.std.specs.FinMap.{get}
use Rattle.cat_model.specs.ObjectEffects.{create_schema, made}
use Rattle.cat_model.specs.References.{is_system}
use Rattle.cat_model.specs.Grants.{owner_only, schema_rights}
use Rattle.cat_model.specs.Trees.{Change, run, after, outcome, seen, changed, sets}
use Rattle.cat_model.specs.Conditions.{if_free, check}
use Rattle.cat_model.specs.declared.value.Value.TheVariants as value
use Rattle.cat_model.specs.declared.value.Value.{Value}
use Rattle.cat_model.specs.Values.{Bytes, Named}
use Rattle.cat_model.specs.declared.key.Key.TheVariants as key
use Rattle.cat_model.specs.declared.object.Object.TheVariants as object
use Rattle.cat_model.specs.declared.cause.Cause.TheVariants as cause
use Rattle.cat_model.specs.declared.stmt.Stmt.TheVariants as stmt
use Rattle.model_laws.proofs.Changes.{get-changed, value_after, key_eq_self}
use Rattle.cat_model.specs.Keys.{key_eq}
use Rattle.model_laws.proofs.laws.second_schema_is_refused.Goals as goal

there_after : (boot name : Bytes) (named next : Named) → after (Ok ((key.Schema name, Some value.Schema) ∷ made (object.Schema name) boot (owner_only schema_rights))) named ≡ Ok next → get next (key.Schema name) ≡ Some value.Schema
there_after boot name named next e =
    let cs = (key.Schema name, Some value.Schema) ∷ made (object.Schema name) boot (owner_only schema_rights) in
    let is : changed cs named ≡ next = cc in
    ap (λ (m : Named). get m (key.Schema name)) (sym is) ∙ get-changed cs named (key.Schema name) ∙ rw key_eq_self refl

refused : (boot name : Bytes) (next : Named) → get next (key.Schema name) ≡ Some value.Schema → run (create_schema boot name) next ≡ Err (cause.Exists (key.Schema name))
refused boot name next e = ap (λ (v : Option Value). after (outcome (if_free (key.Schema name) (check (not (is_system name)) (cause.Exists (key.Schema name)) (sets ((key.Schema name, Some value.Schema) ∷ made (object.Schema name) boot (owner_only schema_rights)))) v) (seen next)) next) e

pub returns : goal.returns
returns c = λ boot name named next ok. refused boot name next (taken boot name named next (get named (key.Schema name)) (not (is_system name)) ok)
  where
    taken : (boot name : Bytes) (named next : Named) (there : Option Value) (own : Bool) → after (outcome (if_free (key.Schema name) (check own (cause.Exists (key.Schema name)) (sets ((key.Schema name, Some value.Schema) ∷ made (object.Schema name) boot (owner_only schema_rights)))) there) (seen named)) named ≡ Ok next → get next (key.Schema name) ≡ Some value.Schema
    taken boot name named next (Some v) own e = cc
    taken boot name named next None false e = cc
    taken boot name named next None true e = there_after boot name named next e
