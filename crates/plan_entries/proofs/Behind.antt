-- Entries that have their places, and those to come, are the whole plan.
use Rattle.std.proofs.Common.{◌≡◌, List, [], ◌∷◌, ◌++◌, ap, sym, ◌∙◌, append_assoc, append-nil}
use Rattle.std.specs.BTreeMap.{BTreeMap}
use Rattle.std.specs.BTreeSet.{BTreeSet}
use Rattle.cat_model.specs.declared.object.QName.{QName}
use Rattle.restore_plan.specs.declared.entry.Entry.{Entry}
use Rattle.restore_plan.specs.declared.planned.Planned.{Planned}
use Rattle.restore_plan.specs.Order.{foreign_keys_in, planned, plan_behind}
use Rattle.plan_entries.specs.Earlier.{AreEarlier}
use Rattle.std.specs.Prelude.{ℕ}

pub record Placing (ids lockable : BTreeSet ℕ) (rows : BTreeMap ℕ ℕ) (parents : List (QName × QName)) (placed : List Planned) (left : List Entry) (whole : List Planned) : Type 0 where
  pub earlier : List Entry
  pub known : AreEarlier ids lockable rows earlier
  pub to_come : placed ++ plan_behind parents earlier left ≡ whole

pub goes_on : (ids ids' lockable lockable' : BTreeSet ℕ) (rows rows' : BTreeMap ℕ ℕ) (parents parents' : List (QName × QName)) (placed placed' : List Planned) (e : Entry) (left all : List Entry) (p : Planned) (whole : List Planned)
    → ((es : List Entry) → AreEarlier ids lockable rows es → p ≡ planned parents es e)
    → ((es : List Entry) → AreEarlier ids lockable rows es → AreEarlier ids' lockable' rows' (es ++ e ∷ []))
    → parents' ≡ parents ++ foreign_keys_in e.steps → placed' ≡ placed ++ p ∷ [] → all ≡ e ∷ left
    → Placing ids lockable rows parents placed all whole → Placing ids' lockable' rows' parents' placed' left whole
goes_on ids ids' lockable lockable' rows rows' parents parents' placed placed' e left all p whole is more same_parents same_placed here g =
    let earlier = g.earlier ++ e ∷ [] in
    let ways : List (QName × QName) = parents ++ foreign_keys_in e.steps in
    record {
      earlier = earlier;
      known = more g.earlier g.known;
      to_come =
          (λ i. same_placed i ++ plan_behind (same_parents i) earlier left)
          ∙ append_assoc placed (p ∷ []) (plan_behind ways earlier left)
          ∙ ap (λ (x : Planned). placed ++ x ∷ plan_behind ways earlier left) (is g.earlier g.known)
          ∙ sym (ap (λ (es : List Entry). placed ++ plan_behind parents g.earlier es) here) ∙ g.to_come;
    }

pub ends : (ids lockable : BTreeSet ℕ) (rows : BTreeMap ℕ ℕ) (parents : List (QName × QName)) (placed : List Planned) (left : List Entry) (whole : List Planned) → left ≡ [] → Placing ids lockable rows parents placed left whole → placed ≡ whole
ends ids lockable rows parents placed left whole none g =
    sym (append-nil placed) ∙ sym (ap (λ (es : List Entry). placed ++ plan_behind parents g.earlier es) none) ∙ g.to_come
