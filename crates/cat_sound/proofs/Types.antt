-- Statements about enums and domains leave a catalogue in order.
use Rattle.std.proofs.Common.{◌≡◌, Bool, true, List, ◌∷◌, ◌++◌, map, Option, Some, None, refl, ap, subst, ◌∙◌}
use Rattle.std.specs.FinMap.{get}
use Rattle.std.specs.List.{AllByRecursion}
use Rattle.cat_model.specs.declared.cause.Cause.TheVariants as cause
use Rattle.cat_model.specs.declared.object.QName.{QName}
use Rattle.cat_model.specs.declared.key.Key.TheVariants as key
use Rattle.cat_model.specs.declared.object.Object.TheVariants as object
use Rattle.cat_model.specs.declared.table.CheckDef.{CheckDef}
use Rattle.cat_model.specs.declared.type_name.TypeName.{TypeName}
use Rattle.cat_model.specs.declared.value.Value.TheVariants as value
use Rattle.cat_model.specs.declared.value.Value.{Value}
use Rattle.cat_model.specs.declared.value.Domain.{Domain}
use Rattle.cat_model.specs.declared.value.Resolved.{Resolved}
use Rattle.cat_model.specs.Values.{Bytes, Named}
use Rattle.cat_model.specs.Grants.{type_grants, type_rights}
use Rattle.cat_model.specs.References.{expression_references}
use Rattle.cat_model.specs.Tables.{distinct}
use Rattle.cat_model.specs.Trees.{Change, changed}
use Rattle.cat_model.specs.ObjectEffects.{made}
use Rattle.cat_model.specs.TypeEffects.{create_enum, create_domain, but, default_references, check_references}
use Rattle.cat_sound.specs.Texts.{Texts}
use Rattle.cat_sound.specs.Rights.{rights_of}
use Rattle.cat_sound.specs.Asked.{Asked, is_ownable}
use Rattle.cat_sound.specs.Asks.{all_there, type_asks, domain_asks}
use Rattle.cat_sound.specs.Itself.{IsDefault, check_of}
use Rattle.cat_sound.specs.Beside.{base_of, Ends}
use Rattle.cat_sound.specs.Sound.{IsMet, IsSound}
use Rattle.cat_sound.specs.Fit.{AreFitChecks}
use Rattle.model_laws.proofs.Changes.{get-changed, key_eq_self}
use Rattle.cat_sound.proofs.Changes.{AreNew, AreSet, now, left, there_is, new_left}
use Rattle.cat_sound.proofs.Checks.{checks_by_name, by_name, checks_asks, checks_met, there_each}
use Rattle.cat_sound.proofs.Keeping.{IsGood, new_answers}
use Rattle.cat_sound.proofs.Lists.{all-append, all-weaker}
use Rattle.cat_sound.proofs.Shared.{IsChained, keeps_shared, no_primary}
use Rattle.cat_sound.proofs.Needed.{none_without}
use Rattle.cat_sound.proofs.Made.{IsNewObject, made_good}
use Rattle.cat_sound.proofs.NewGrants.{type_first}
use Rattle.cat_sound.proofs.References.{AreThere, refs_left, but_left, not_among}
use Rattle.cat_sound.proofs.TreeSteps.{Keeps, keeps_sets, keeps_check, keeps_free, keeps_needs, keeps_needs_each}
use Rattle.cat_sound.proofs.TypeSteps.{ComesTo, keeps_type}

-- what CREATE TYPE and CREATE DOMAIN set
abbrev type_set : Bytes → QName → Value → List Change
type_set boot q v = (key.UserType q, Some v) ∷ made (object.Type q) boot type_grants

module _ (texts : Texts) (named : Named) (sound : IsSound texts named) where
  module _ (boot : Bytes) (q : QName) (boot_there : IsMet named (key.Role boot, Asked.there)) (none : get named (key.UserType q) ≡ None) where
    no_owner : get named (key.Owner (object.Type q)) ≡ None
    no_owner = none_without texts named sound.each (key.Owner (object.Type q)) (key.UserType q) refl none

    no_grants : get named (key.Acl (object.Type q)) ≡ None
    no_grants = none_without texts named sound.each (key.Acl (object.Type q)) (key.UserType q) refl none

    fresh : (v : Value) → AreNew named (type_set boot q v)
    fresh v = (none, (no_owner, (no_grants, tt)))

    type_there : (v : Value) → IsMet (changed (type_set boot q v) named) (key.UserType q, Asked.there)
    type_there v = now (type_set boot q v) named (key.UserType q, Asked.there) v (rw key_eq_self refl) tt

    with_owner : (v : Value) → IsMet (changed (type_set boot q v) named) (key.Owner (object.Type q), Asked.there)
    with_owner v = now (type_set boot q v) named (key.Owner (object.Type q), Asked.there) (value.Owner boot) (rw key_eq_self refl) tt

    with_grants : (v : Value) → IsMet (changed (type_set boot q v) named) (key.Acl (object.Type q), Asked.there)
    with_grants v = now (type_set boot q v) named (key.Acl (object.Type q), Asked.there) (value.Grants type_grants) (rw key_eq_self refl) tt

    made_type : (v : Value) → is_ownable v ≡ true → rights_of v ≡ Some type_rights → AllByRecursion (IsGood texts named (type_set boot q v)) (made (object.Type q) boot type_grants)
    made_type v ownable takes =
        let new : IsNewObject named (changed (type_set boot q v) named) (object.Type q) boot type_grants type_rights v = record {
          owned = refl;
          granted = refl;
          ownable = ownable;
          takes = takes;
          first = type_first;
          no_owner = no_owner;
          no_grants = no_grants;
          there = get-changed (type_set boot q v) named (key.UserType q) ∙ rw key_eq_self refl;
          with_owner = with_owner v;
          role = left (type_set boot q v) named (key.Role boot, Asked.there) refl boot_there;
        } in
        made_good texts named (type_set boot q v) (object.Type q) boot type_grants type_rights v new

    new_chain : (v : Value) → ((d : Domain) → v ≡ value.Domain d → Ends named d.base) → IsChained named q (Some v)
    new_chain v ends = record {
      base = λ b was. let gone : base_of (get named (key.UserType q)) ≡ None = ap base_of none in cc;
      ends = λ d is. ends d (let same : v ≡ value.Domain d = cc in same);
    }

    schema_left : (v : Value) (schema : Value) → get named (key.Schema q.schema) ≡ Some schema → IsMet (changed (type_set boot q v) named) (key.Schema q.schema, Asked.there)
    schema_left v schema is = left (type_set boot q v) named (key.Schema q.schema, Asked.there) refl (there_is named (key.Schema q.schema) schema is)

    enum_kept : (labels : List Bytes) (schema : Value) → get named (key.Schema q.schema) ≡ Some schema → distinct labels ≡ true → IsSound texts (changed (type_set boot q (value.Enum labels)) named)
    enum_kept labels schema schema_is apart =
        let v = value.Enum labels in
        keeps_shared texts named (type_set boot q v) sound
        (new_chain v (λ d e. cc), (tt, (tt, tt)))
        (no_primary named (type_set boot q v) (refl, (refl, (refl, tt)))) (
          record {
            new = record { own = apart; others = (schema_left v schema schema_is, (with_owner v, (with_grants v, tt))) };
            answers = new_answers named (type_set boot q v) (key.UserType q, Some v) none;
          },
          made_type v refl refl,
        )

    -- what a domain asks, by its parts
    domain_met : (d : Domain) (later : Named) → AllByRecursion (IsMet later) (type_asks d.base d.resolved) → AreThere later (default_references d.default) → AllByRecursion (IsMet later) (checks_asks d.checks) → AllByRecursion (IsMet later) (domain_asks d)
    domain_met d later base refs checks =
        all-append (IsMet later) (type_asks d.base d.resolved ++ all_there (default_references d.default)) (checks_asks d.checks)
        (all-append (IsMet later) (type_asks d.base d.resolved) (all_there (default_references d.default)) base refs) checks

    domain_kept : (base : TypeName) (not_null : Bool) (default : Option Bytes) (checks : List CheckDef) (end : Resolved) (schema : Value) → get named (key.Schema q.schema) ≡ Some schema → texts.type base ≡ true → IsDefault texts default → AreFitChecks texts checks → ComesTo named base end → AreThere named (default_references default) → AreThere named (but (key.UserType q) (check_references checks)) → IsSound texts (changed (type_set boot q (value.Domain (record { base = base; resolved = end; not_null = not_null; default = default; checks = checks_by_name checks }))) named)
    domain_kept base not_null default checks end schema schema_is typed good fit comes refs check_refs =
        let d : Domain = record { base = base; resolved = end; not_null = not_null; default = default; checks = checks_by_name checks } in
        let v = value.Domain d in
        let cs = type_set boot q v in
        let later = changed cs named in
        let set : AreSet cs = (refl, (refl, (refl, tt))) in
        let all_refs : AreThere later (check_references checks) = but_left named later (key.UserType q) (type_there v) (λ j. new_left cs named (fresh v) (j, Asked.there)) (check_references checks) check_refs in
        let each_check : AllByRecursion (λ c. AreThere later (expression_references c.text)) checks = there_each later (λ (c : CheckDef). expression_references c.text) checks all_refs in
        keeps_shared texts named cs sound
        (new_chain v (λ e is. let same : d ≡ e = cc in subst (λ (f : Domain). Ends named f.base) same comes.chain), (tt, (tt, tt)))
        (no_primary named cs (refl, (refl, (refl, tt)))) (
          record {
            new = record {
              own = record {
                base = record { named = typed; ends = comes.own };
                expression = good;
                others = not_among named (key.UserType q) (default_references default) none refs;
                checks = by_name (λ text. texts.constraint (check_of text) ≡ true) checks fit;
              };
              others = (
                schema_left v schema schema_is,
                (
                  with_owner v,
                  (
                    with_grants v,
                    domain_met d later
                        (all-weaker (IsMet named) (IsMet later) (λ ask. new_left cs named (fresh v) ask) (type_asks base end) comes.met)
                        (refs_left cs named set (default_references default) refs)
                        (checks_met later (checks_by_name checks) (by_name (λ text. AreThere later (expression_references text)) checks each_check)),
                  ),
                ),
              );
            };
            answers = new_answers named cs (key.UserType q, Some v) none;
          },
          made_type v refl refl,
        )

  pub create_enum-keeps : (boot : Bytes) (q : QName) (labels : List Bytes) → IsMet named (key.Role boot, Asked.there) → Keeps texts named (create_enum boot q labels)
  create_enum-keeps boot q labels boot_there =
      keeps_needs sound (key.Schema q.schema) (λ schema schema_is.
      keeps_free sound (key.UserType q) (λ none.
      keeps_check sound (distinct labels) (cause.Exists (key.UserType q)) (λ apart.
      keeps_sets refl (enum_kept boot q boot_there none labels schema schema_is apart))))

  pub create_domain-keeps : (boot : Bytes) (q : QName) (base : TypeName) (not_null : Bool) (default : Option Bytes) (checks : List CheckDef) → IsMet named (key.Role boot, Asked.there) → texts.type base ≡ true → IsDefault texts default → AreFitChecks texts checks → Keeps texts named (create_domain boot q base not_null default checks)
  create_domain-keeps boot q base not_null default checks boot_there typed good fit =
      keeps_needs sound (key.Schema q.schema) (λ schema schema_is.
      keeps_free sound (key.UserType q) (λ none.
      keeps_check sound (distinct (map (λ c. c.name) checks)) (cause.Exists (key.UserType q)) (λ apart.
      keeps_type sound base (λ end comes.
      keeps_needs_each sound (default_references default) (λ refs.
      keeps_needs_each sound (but (key.UserType q) (check_references checks)) (λ check_refs.
      keeps_sets refl (domain_kept boot q boot_there none base not_null default checks end schema schema_is typed good fit comes refs check_refs)))))))
