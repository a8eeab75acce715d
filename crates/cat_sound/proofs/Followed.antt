-- Following a chain of domains by names gives what is kept of its end.
use Rattle.std.proofs.Common.{◌≡◌, ℕ, zero, suc, Bool, true, false, ◌++◌, List, Option, Some, None, option_map, refl, ap, sym, subst, ◌∙◌, inl, inr, if◌then◌else◌}
use Rattle.std.specs.FinMap.{get}
use Rattle.std.specs.List.{AllByRecursion}
use Rattle.cat_model.specs.declared.object.QName.{QName}
use Rattle.cat_model.specs.declared.key.Key.TheVariants as key
use Rattle.cat_model.specs.declared.type_name.TypeName.{TypeName}
use Rattle.cat_model.specs.declared.type_name.TypeName.TheVariants.{Words, Path}
use Rattle.cat_model.specs.declared.value.Value.TheVariants as value
use Rattle.cat_model.specs.declared.value.Value.{Value}
use Rattle.cat_model.specs.declared.value.Resolved.{Resolved}
use Rattle.cat_model.specs.declared.value.Domain.{Domain}
use Rattle.cat_model.specs.declared.value.Column.{Column}
use Rattle.cat_model.specs.Values.{Named}
use Rattle.cat_model.specs.References.{is_system}
use Rattle.cat_model.specs.TypeEffects.{as_it_is, default_references}
use Rattle.cat_sound.specs.Texts.{Texts}
use Rattle.cat_sound.specs.Asked.{Asked, Passes}
use Rattle.cat_sound.specs.Asks.{type_asks, all_there, column_asks}
use Rattle.cat_sound.specs.Itself.{EndsItself}
use Rattle.cat_sound.specs.Beside.{base_of, EndsBehind, EndsWithin, Ends}
use Rattle.cat_sound.specs.Ends.{over, through, followed}
use Rattle.cat_sound.specs.Sound.{IsMet, IsSound}
use Rattle.cat_sound.proofs.Checks.{checks_asks}
use Rattle.cat_sound.proofs.Lists.{IsIn, of_member, of_each, all-front, flat-all}

-- what a column or a domain keeps of its type is in order
abbrev IsKept : Named → TypeName → Resolved → Type 0
IsKept named type end = EndsItself type end × AllByRecursion (IsMet named) (type_asks type end)

module _ (texts : Texts) (named : Named) (sound : IsSound texts named) where
  base_kept : (q : QName) (d : Domain) → get named (key.UserType q) ≡ Some (value.Domain d) → IsKept named d.base d.resolved
  base_kept q d is =
      let at = sound.each (key.UserType q) (value.Domain d) is in
      let front = all-front (IsMet named) (type_asks d.base d.resolved ++ all_there (default_references d.default)) (checks_asks d.checks) at.others.1.1.1 in
      (at.own.base.ends, all-front (IsMet named) (type_asks d.base d.resolved) (all_there (default_references d.default)) front)

  column_kept : (q : QName) (columns : List Column) → get named (key.Rel q) ≡ Some (value.Table columns) → (c : Column) → IsIn c columns → IsKept named c.type_name c.resolved
  column_kept q columns is c among =
      let at = sound.each (key.Rel q) (value.Table columns) is in (
        (of_member _ columns at.own.types c among).ends,
        of_member (λ (x : Column). AllByRecursion (IsMet named) (column_asks x)) columns (flat-all (IsMet named) column_asks columns at.others.1.1.1.1) c among,
      )

  -- what is asked of a type that isn't the system's own
  asked_of : (q : QName) (end : Resolved) (system : Bool) → is_system q.schema ≡ system → system ≡ false → AllByRecursion (IsMet named) (type_asks (Path q) end) → IsMet named (key.UserType q, Asked.comes_to q end)
  asked_of q end true e own met = cc
  asked_of q end false e own met = (rw e at met).0

  through_value : (n : ℕ) (q : QName) (end : Resolved) → ((t : TypeName) (r : Resolved) → IsKept named t r → EndsWithin n named t → followed n named t ≡ Some r) → (o : Option Value) → get named (key.UserType q) ≡ o → Passes o (Asked.comes_to q end) → EndsBehind (EndsWithin n named) (base_of o) → through (followed n named) q o ≡ Some end
  through_value n q end step (Some (value.Enum labels)) is comes ends = comes
  through_value n q end step (Some (value.Domain d)) is comes ends = ap (option_map (over d)) (step d.base d.resolved (base_kept q d is) ends) ∙ comes
  through_value n q end step (Some v) is comes ends = elim ends [ ]
  through_value n q end step None is comes ends = elim comes [ ]

  system_followed : (q : QName) (end : Resolved) (later : Option Resolved) → EndsItself (Path q) end → is_system q.schema ≡ true → (if is_system q.schema then Some (as_it_is (Path q)) else later) ≡ Some end
  system_followed q end later own e = rw e (ap (λ (r : Resolved). Some r) (sym (own e)))

  path_followed : (n : ℕ) (q : QName) (end : Resolved) → ((t : TypeName) (r : Resolved) → IsKept named t r → EndsWithin n named t → followed n named t ≡ Some r) → IsKept named (Path q) end → EndsBehind (EndsWithin n named) (base_of (get named (key.UserType q))) → (system : Bool) → is_system q.schema ≡ system → followed (suc n) named (Path q) ≡ Some end
  path_followed n q end step kept behind true e = system_followed q end (through (followed n named) q (get named (key.UserType q))) kept.0 e
  path_followed n q end step kept behind false e =
      ap (λ (b : Bool). if b then Some (as_it_is (Path q)) else through (followed n named) q (get named (key.UserType q))) e
      ∙ through_value n q end step (get named (key.UserType q)) refl (asked_of q end (is_system q.schema) refl e kept.1) behind

  pub kept_followed : (n : ℕ) (t : TypeName) (r : Resolved) → IsKept named t r → EndsWithin n named t → followed n named t ≡ Some r
  kept_followed zero (Words text) r kept ends = ap (λ (x : Resolved). Some x) (sym kept.0)
  kept_followed zero (Path q) r kept ends = system_followed q r None kept.0 ends
  kept_followed (suc n) (Words text) r kept ends = ap (λ (x : Resolved). Some x) (sym kept.0)
  kept_followed (suc n) (Path q) r kept (inl system) = system_followed q r (through (followed n named) q (get named (key.UserType q))) kept.0 system
  kept_followed (suc n) (Path q) r kept (inr behind) = path_followed n q r (kept_followed n) kept behind (is_system q.schema) refl

  pub domain_followed : (q : QName) (d : Domain) → get named (key.UserType q) ≡ Some (value.Domain d) → (n : ℕ) × (followed n named d.base ≡ Some d.resolved)
  domain_followed q d is =
      let ends = sound.beside.chains q d is in
      (ends.0, kept_followed ends.0 d.base d.resolved (base_kept q d is) ends.1)

  ends_at : (q : QName) (end : Resolved) (o : Option Value) → get named (key.UserType q) ≡ o → Passes o (Asked.comes_to q end) → Ends named (Path q)
  ends_at q end (Some (value.Enum labels)) is comes = (suc zero, inr (subst (λ (x : Option Value). EndsBehind (EndsWithin zero named) (base_of x)) (sym is) tt))
  ends_at q end (Some (value.Domain d)) is comes =
      let chain = sound.beside.chains q d is in
      (suc chain.0, inr (subst (λ (x : Option Value). EndsBehind (EndsWithin chain.0 named) (base_of x)) (sym is) chain.1))
  ends_at q end (Some v) is comes = cc
  ends_at q end None is comes = elim comes [ ]

  ends_of : (t : TypeName) (r : Resolved) → IsKept named t r → Ends named t
  ends_of (Words text) r kept = (zero, tt)
  ends_of (Path q) r kept = by (is_system q.schema) refl
    where
      by : (system : Bool) → is_system q.schema ≡ system → Ends named (Path q)
      by true e = (zero, e)
      by false e = ends_at q r (get named (key.UserType q)) refl (asked_of q r (is_system q.schema) refl e kept.1)

  pub columns_followed : (q : QName) (columns : List Column) → get named (key.Rel q) ≡ Some (value.Table columns) → AllByRecursion (λ (c : Column). (n : ℕ) × (followed n named c.type_name ≡ Some c.resolved)) columns
  columns_followed q columns is = of_each (λ (c : Column). (n : ℕ) × (followed n named c.type_name ≡ Some c.resolved)) columns (λ c among.
      let kept = column_kept q columns is c among in
      let ends = ends_of c.type_name c.resolved kept in
      (ends.0, kept_followed ends.0 c.type_name c.resolved kept ends.1))
