-- An entry in its place: wherever the foreign keys of the catalogue are those of the opening and of the entries so far,
-- each of its statements looks only at what the entry's footprint reads and sets only what it writes.
use Rattle.std.specs.Prelude.{◌≡◌, true, List, [], ◌∷◌, Option, Some}
use Rattle.std.specs.FinMap.{get}
use Rattle.cat_model.specs.declared.object.QName.{QName}
use Rattle.cat_model.specs.declared.key.Key.TheVariants as key
use Rattle.cat_model.specs.declared.footprint.Footprint.{Footprint}
use Rattle.cat_model.specs.declared.stmt.Stmt.{Stmt}
use Rattle.cat_model.specs.declared.value.Value.TheVariants as value
use Rattle.cat_model.specs.declared.value.Constraint.{Constraint}
use Rattle.cat_model.specs.Values.{Bytes, Named}
use Rattle.cat_model.specs.Effects.{effect}
use Rattle.cat_model.specs.Footprints.{is_given}
use Rattle.cat_model.specs.Marks.{IsWithin}
use Rattle.cat_model.specs.Trees.{seen, next}
use Rattle.restore_plan.specs.declared.step.Step.{Step}
use Rattle.restore_plan.specs.declared.planned.Planned.{Planned}

-- each foreign key of the catalogue is among the pairs of a table and its parent
abbrev pub Given : List (QName × QName) → Named → Type 0
Given pairs named =
    (table : QName) (name : Bytes) (c : Constraint) (parent : QName) (names : List Bytes)
    → get named (key.Con table name) ≡ Some (value.Constraint c) → c.parent ≡ Some (parent, names) → is_given pairs table parent ≡ true

-- A statement stays within a footprint wherever the foreign keys are given, and leaves them given.
pub record Stays (boot : Bytes) (pairs : List (QName × QName)) (f : Footprint) (s : Stmt) : Type 0 where
  pub within : (named : Named) → Given pairs named → IsWithin f (seen named) (effect boot s)
  pub given : (named : Named) → Given pairs named → Given pairs (next (effect boot s) named)

abbrev pub AllStay : Bytes → List (QName × QName) → Footprint → List Step → Type 0
AllStay boot pairs f [] = Unit {0}
AllStay boot pairs f (s ∷ ss) = Stays boot pairs f s.statement × AllStay boot pairs f ss

-- the statements of one entry stay within its footprint, where these foreign keys are given besides its own
pub record InPlace (boot : Bytes) (pairs : List (QName × QName)) (p : Planned) : Type 0 where
  pub with_own : List (QName × QName)
  pub wider : (named : Named) → Given pairs named → Given with_own named
  pub stay : AllStay boot with_own p.footprint p.steps

-- each entry of a list in its place
abbrev pub InPlaces : Bytes → List (QName × QName) → List Planned → Type 0
InPlaces boot pairs [] = Unit {0}
InPlaces boot pairs (p ∷ ps) = (here : InPlace boot pairs p) × InPlaces boot here.with_own ps
