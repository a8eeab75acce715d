use Rattle.std.proofs.Common.{◌≡◌, ℤ, List, Result, OnOk, sym, subst}
use Rattle.cat_model.specs.declared.key.Key.{Key}
use Rattle.cat_model.specs.declared.object.QName.{QName}
use Rattle.cat_model.specs.declared.value.Value.{Value}
use Rattle.cat_model.specs.Values.{Bytes}
use Rattle.cat_rows.specs.declared.constraints.ConstraintRow.{ConstraintRow}
use Rattle.cat_sound.specs.Itself.{Itself}
use Rattle.cluster_loops.specs.Ids.{oids_of}
use Rattle.object_ids.specs.Ids.{IdsOf}
use Rattle.object_export.specs.Constraints.{IsConstrainedRow}
use Rattle.sound_texts.specs.Grammar.{grammar}
use Rattle.object_export.specs.Parts.{constrained_in}
use Rattle.object_loops.specs.Adding.{Adds}
use Rattle.object_loops.proofs.constraints.add_entry.Goals as goal

-- the rows of this entry are added
abbrev Added : {X E : Type 0} → Result X E → IdsOf → List ConstraintRow → List ConstraintRow → Key → Value → Type 0
Added result ids before after k v = OnOk result ((number : QName → Bytes → ℤ) → Itself grammar k v → Adds (IsConstrainedRow (oids_of ids number)) (constrained_in (k, v)) before after)

-- what is added for the entry of an arm is added for the one that was given
of_arm : (P : Key → Value → Type 0) (k arm_key : Key) (v arm_value : Value) → k ≡ arm_key → v ≡ arm_value → P arm_key arm_value → P k v
of_arm P k arm_key v arm_value key_is value_is p = subst (λ (x : Key). P x v) (sym key_is) (subst (P arm_key) (sym value_is) p)

pub returns-in-Con-Constraint : goal.returns-in-Con-Constraint
returns-in-Con-Constraint c = of_arm (Added c.add_constraint.result c.args.ids.now c.args.rows.now c.add_constraint.new.rows) _ _ _ _ c.in-Con-Constraint.is-0 c.in-Con-Constraint.is-1 c.add_constraint.ensures

pub returns-in-UserType-Domain : goal.returns-in-UserType-Domain
returns-in-UserType-Domain c = of_arm (Added c.add_domain.result c.args.ids.now c.args.rows.now c.add_domain.new.rows) _ _ _ _ c.in-UserType-Domain.is-0 c.in-UserType-Domain.is-1 c.add_domain.ensures
