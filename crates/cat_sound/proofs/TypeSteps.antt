-- A type that a statement needs is there, comes to what it says, and its chain ends.
use Rattle.std.proofs.Common.{◌≡◌, ℕ, zero, suc, Bool, true, false, ◌||◌, Option, Some, None, refl, sym, subst, inr, if◌then◌else◌}
use Rattle.std.specs.FinMap.{get}
use Rattle.std.specs.List.{AllByRecursion}
use Rattle.cat_model.specs.declared.object.QName.{QName}
use Rattle.cat_model.specs.declared.key.Key.TheVariants as key
use Rattle.cat_model.specs.declared.cause.Cause.TheVariants as cause
use Rattle.cat_model.specs.declared.type_name.TypeName.{TypeName}
use Rattle.cat_model.specs.declared.type_name.TypeName.TheVariants.{Words, Path}
use Rattle.cat_model.specs.declared.value.Value.TheVariants as value
use Rattle.cat_model.specs.declared.value.Value.{Value}
use Rattle.cat_model.specs.declared.value.Resolved.{Resolved}
use Rattle.cat_model.specs.Values.{Named}
use Rattle.cat_model.specs.References.{is_system}
use Rattle.cat_model.specs.Trees.{Tree, look}
use Rattle.cat_model.specs.TypeEffects.{needs_type, if_type, as_it_is}
use Rattle.cat_sound.specs.Texts.{Texts}
use Rattle.cat_sound.specs.Asked.{Asked}
use Rattle.cat_sound.specs.Asks.{type_asks}
use Rattle.cat_sound.specs.Itself.{EndsItself}
use Rattle.cat_sound.specs.Beside.{base_of, EndsBehind, EndsWithin, Ends}
use Rattle.cat_sound.specs.Sound.{IsMet, IsSound}
use Rattle.cat_sound.proofs.Changes.{meets_is}
use Rattle.cat_sound.proofs.TreeSteps.{Keeps, keeps_look, keeps_refuse}

pub record ComesTo (named : Named) (type : TypeName) (end : Resolved) : Type 0 where
  pub own : EndsItself type end
  pub met : AllByRecursion (IsMet named) (type_asks type end)
  pub chain : Ends named type

asks_of : (named : Named) (q : QName) (end : Resolved) (system : Bool) → is_system q.schema ≡ system → (system ≡ false → IsMet named (key.UserType q, Asked.comes_to q end)) → AllByRecursion (IsMet named) (type_asks (Path q) end)
asks_of named q end true e met = rw e tt
asks_of named q end false e met = rw e (met refl, tt)

chain_over : (named : Named) (q : QName) (n : ℕ) (v : Value) → get named (key.UserType q) ≡ Some v → EndsBehind (EndsWithin n named) (base_of (Some v)) → Ends named (Path q)
chain_over named q n v is ends = (suc n, inr (subst (λ (o : Option Value). EndsBehind (EndsWithin n named) (base_of o)) (sym is) ends))

module _ {texts : Texts} {named : Named} (sound : IsSound texts named) where
  of_type : (q : QName) (then_do : Resolved → Tree) → is_system q.schema ≡ false → (o : Option Value) → get named (key.UserType q) ≡ o → ((end : Resolved) → ComesTo named (Path q) end → Keeps texts named (then_do end)) → Keeps texts named (if_type q then_do o)
  of_type q then_do own (Some (value.Enum labels)) is step =
      let end : Resolved = record { type_name = Path q; labels = Some labels; not_null = false } in
      step end (record {
        own = λ e. cc;
        met = asks_of named q end false own (λ e. meets_is named (key.UserType q) (Asked.comes_to q end) (value.Enum labels) is refl);
        chain = chain_over named q zero (value.Enum labels) is tt;
      })
  of_type q then_do own (Some (value.Domain d)) is step =
      let end : Resolved = record d.resolved { not_null = d.resolved.not_null || d.not_null } in
      let chain = sound.beside.chains q d is in
      step end (record {
        own = λ e. cc;
        met = asks_of named q end false own (λ e. meets_is named (key.UserType q) (Asked.comes_to q end) (value.Domain d) is refl);
        chain = chain_over named q chain.0 (value.Domain d) is chain.1;
      })
  of_type q then_do own (Some _) is step = keeps_refuse sound (cause.Absent (key.UserType q))
  of_type q then_do own None is step = keeps_refuse sound (cause.Absent (key.UserType q))

  of_path : (q : QName) (then_do : Resolved → Tree) (system : Bool) → is_system q.schema ≡ system → ((end : Resolved) → ComesTo named (Path q) end → Keeps texts named (then_do end)) → Keeps texts named (if system then then_do (as_it_is (Path q)) else look (key.UserType q) (if_type q then_do))
  of_path q then_do true e step = step (as_it_is (Path q)) (record { own = λ system. refl; met = asks_of named q (as_it_is (Path q)) true e (λ wrong. cc); chain = (zero, e) })
  of_path q then_do false e step = keeps_look (key.UserType q) (λ o is. of_type q then_do e o is step)

  pub keeps_type : (type : TypeName) {then_do : Resolved → Tree} → ((end : Resolved) → ComesTo named type end → Keeps texts named (then_do end)) → Keeps texts named (needs_type type then_do)
  keeps_type (Words text) step = step (as_it_is (Words text)) (record { own = refl; met = tt; chain = (zero, tt) })
  keeps_type (Path q) {then_do} step = of_path q then_do (is_system q.schema) refl step
