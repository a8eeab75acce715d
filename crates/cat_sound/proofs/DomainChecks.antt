-- ALTER DOMAIN .. ADD CONSTRAINT leaves a catalogue in order.
use Rattle.std.proofs.Common.{◌≡◌, true, not, List, [], ◌∷◌, ◌++◌, Some, refl, ap, sym, subst, ◌∙◌}
use Rattle.std.specs.FinMap.{get, insert, contains_key}
use Rattle.std.specs.List.{AllByRecursion}
use Rattle.cat_model.specs.declared.cause.Cause.TheVariants as cause
use Rattle.cat_model.specs.declared.object.QName.{QName}
use Rattle.cat_model.specs.declared.key.Key.TheVariants as key
use Rattle.cat_model.specs.declared.value.Value.TheVariants as value
use Rattle.cat_model.specs.declared.value.Domain.{Domain}
use Rattle.cat_model.specs.Values.{Bytes, Named}
use Rattle.cat_model.specs.References.{expression_references}
use Rattle.cat_model.specs.Trees.{Change, changed}
use Rattle.cat_model.specs.TypeEffects.{add_domain_check, default_references}
use Rattle.cat_sound.specs.Texts.{Texts}
use Rattle.cat_sound.specs.Asked.{Asked, Meets}
use Rattle.cat_sound.specs.Asks.{Ask, all_there, type_asks, domain_asks}
use Rattle.cat_sound.specs.Itself.{check_of}
use Rattle.cat_sound.specs.Beside.{base_of, Ends}
use Rattle.cat_sound.specs.Sound.{IsMet, IsSound}
use Rattle.cat_sound.proofs.Changes.{alike_left, AreSet}
use Rattle.cat_sound.proofs.Checks.{one_more, checks_asks, checks_met, met_checks}
use Rattle.cat_sound.proofs.Keeping.{alike_answers}
use Rattle.cat_sound.proofs.Lists.{all-append, all-front, all-back, all-weaker}
use Rattle.cat_sound.proofs.Shared.{IsChained, keeps_shared, no_primary}
use Rattle.cat_sound.proofs.References.{AreThere, refs_left}
use Rattle.cat_sound.proofs.TreeSteps.{Keeps, keeps_sets, keeps_check, keeps_needs_each, keeps_domain}

-- a domain with one more check
abbrev with_check : Domain → Bytes → Bytes → Domain
with_check d name text = record d { checks = insert d.checks name text }

alike_domains : (d : Domain) (name text : Bytes) (a : Asked) → Meets a (value.Domain d) → Meets a (value.Domain (with_check d name text))
alike_domains d name text Asked.there met = met
alike_domains d name text _ met = met

module _ (texts : Texts) (named : Named) (sound : IsSound texts named) where
  module _ (q : QName) (d : Domain) (is : get named (key.UserType q) ≡ Some (value.Domain d)) (name text : Bytes) where
    abbrev e : Domain
    e = with_check d name text

    abbrev cs : List Change
    cs = (key.UserType q, Some (value.Domain e)) ∷ []

    ask_left : (ask : Ask) → IsMet named ask → IsMet (changed cs named) ask
    ask_left = alike_left named (key.UserType q) (value.Domain d) (value.Domain e) is (alike_domains d name text)

    chained : IsChained named q (Some (value.Domain e))
    chained = record {
      base = λ b was. let here : base_of (get named (key.UserType q)) ≡ Some (Some d.base) = ap base_of is in sym here ∙ was;
      ends = λ f same. let equal : e ≡ f = cc in subst (λ (g : Domain). Ends named g.base) equal (sound.beside.chains q d is);
    }

    check_kept : texts.constraint (check_of text) ≡ true → AreThere named (expression_references text) → IsSound texts (changed cs named)
    check_kept good refs =
        let later = changed cs named in
        let at = sound.each (key.UserType q) (value.Domain d) is in
        let set : AreSet cs = (refl, tt) in
        let own_asks : AllByRecursion (IsMet named) (domain_asks d) = at.others.1.1.1 in
        let front = all-front (IsMet named) (type_asks d.base d.resolved ++ all_there (default_references d.default)) (checks_asks d.checks) own_asks in
        let old_checks = met_checks named d.checks (all-back (IsMet named) (type_asks d.base d.resolved ++ all_there (default_references d.default)) (checks_asks d.checks) own_asks) in
        keeps_shared texts named cs sound (chained, tt) (no_primary named cs (refl, tt)) (
          record {
            new = record {
              own = record {
                base = at.own.base;
                expression = at.own.expression;
                others = at.own.others;
                checks = one_more (λ t. texts.constraint (check_of t) ≡ true) d.checks name text good at.own.checks;
              };
              others = (
                ask_left (key.Schema q.schema, Asked.there) at.others.0,
                (
                  ask_left _ at.others.1.0,
                  (
                    ask_left _ at.others.1.1.0,
                    all-append (IsMet later) (type_asks d.base d.resolved ++ all_there (default_references d.default)) (checks_asks e.checks)
                        (all-weaker (IsMet named) (IsMet later) ask_left (type_asks d.base d.resolved ++ all_there (default_references d.default)) front)
                        (checks_met later e.checks (one_more (λ t. AreThere later (expression_references t)) d.checks name text
                        (refs_left cs named set (expression_references text) refs)
                        (λ n t at_n. refs_left cs named set (expression_references t) (old_checks n t at_n)))),
                  ),
                ),
              );
            };
            answers = alike_answers named cs (key.UserType q) (value.Domain d) (value.Domain e) is (alike_domains d name text);
          },
          tt,
        )

  pub add_domain_check-keeps : (q : QName) (name text : Bytes) → texts.constraint (check_of text) ≡ true → Keeps texts named (add_domain_check q name text)
  add_domain_check-keeps q name text good =
      keeps_domain sound q (λ d is.
      keeps_check sound (not (contains_key d.checks name)) (cause.Exists (key.UserType q)) (λ new.
      keeps_needs_each sound (expression_references text) (λ refs.
      keeps_sets refl (check_kept q d is name text good refs))))
