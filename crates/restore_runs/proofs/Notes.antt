-- Entries without owner statements make no notes.
use Rattle.std.proofs.Common.{◌≡◌, ℕ, Bool, true, false, ◌&&◌, List, [], ◌∷◌, ◌++◌, Option, Some, None, Result, Ok, Err, not, refl, ap, sym, ◌∙◌}
use Rattle.std.proofs.lemmas.List.{append-nil}
use Rattle.cat_model.specs.declared.cause.Cause.{Cause}
use Rattle.cat_model.specs.Effects.{effect}
use Rattle.cat_model.specs.Trees.{Change, seen, outcome}
use Rattle.cat_model.specs.Values.{Bytes, Named}
use Rattle.restore_plan.specs.declared.status.Note.{Note}
use Rattle.restore_plan.specs.declared.planned.Planned.{Planned}
use Rattle.restore_plan.specs.declared.step.Step.{Step}
use Rattle.restore_plan.specs.Serial.{Ended, Left, Under_way, after_steps, entry_left, first_blocked, noted, one_more, serial, serial_behind, started, until_refusal}

-- none of these statements gives an owner
abbrev pub are_plain : List Step → Bool
are_plain [] = true
are_plain (s ∷ steps) = not s.is_owner && are_plain steps

abbrev pub are_all_plain : List Planned → Bool
are_all_plain [] = true
are_all_plain (p ∷ ps) = are_plain p.steps && are_all_plain ps

plain_first : (b c : Bool) → (not b && c) ≡ true → b ≡ false
plain_first true c is = cc
plain_first false c is = refl

plain_rest : (b c : Bool) → (not b && c) ≡ true → c ≡ true
plain_rest true c is = cc
plain_rest false c is = is

first : (b c : Bool) → (b && c) ≡ true → b ≡ true
first true c is = refl
first false c is = is

rest : (b c : Bool) → (b && c) ≡ true → c ≡ true
rest true c is = is
rest false c is = cc

not_noted : (id : ℕ) (said : Result (List Change) Cause) → noted id false said ≡ []
not_noted id (Ok changes) = refl
not_noted id (Err cause) = refl

step_plain : (boot : Bytes) (id : ℕ) (w : Under_way) (refused : Option Cause) (s : Step) → s.is_owner ≡ false → w.notes ≡ [] → (until_refusal boot id w refused s).notes ≡ []
step_plain boot id w None s plain none =
    let said : Result (List Change) Cause = outcome (effect boot s.statement) (seen w.catalogue) in
    ap (λ (ns : List Note). ns ++ noted id s.is_owner said) none ∙ ap (λ (b : Bool). noted id b said) plain ∙ not_noted id said
step_plain boot id w (Some cause) s plain none = none

steps_plain : (boot : Bytes) (id : ℕ) (steps : List Step) (w : Under_way) → are_plain steps ≡ true → w.notes ≡ [] → (after_steps boot id steps w).notes ≡ []
steps_plain boot id [] w plain none = none
steps_plain boot id (s ∷ steps) w plain none = steps_plain boot id steps (until_refusal boot id w w.refused s) (plain_rest s.is_owner (are_plain steps) plain) (step_plain boot id w w.refused s (plain_first s.is_owner (are_plain steps) plain) none)

entry_plain : (boot : Bytes) (p : Planned) (named : Named) (blocker : Option ℕ) → are_plain p.steps ≡ true → (entry_left boot p named blocker).notes ≡ []
entry_plain boot p named (Some by) plain = refl
entry_plain boot p named None plain = steps_plain boot p.id p.steps (started named) plain refl

behind_plain : (boot : Bytes) (ended : Ended) (named : Named) (ps : List Planned) → are_all_plain ps ≡ true → (serial_behind boot ended named ps).notes ≡ []
behind_plain boot ended named [] plain = refl
behind_plain boot ended named (p ∷ ps) plain =
    let e : Left = entry_left boot p named (first_blocked ended p.deps) in
    let now : Ended = ended ++ (p.id, e.status) ∷ [] in
    ap (λ (ns : List Note). ns ++ (serial_behind boot now e.catalogue ps).notes) (entry_plain boot p named (first_blocked ended p.deps) (first (are_plain p.steps) (are_all_plain ps) plain))
    ∙ behind_plain boot now e.catalogue ps (rest (are_plain p.steps) (are_all_plain ps) plain)

-- a restore of such entries
pub none_noted : (boot : Bytes) (named : Named) (ps : List Planned) → are_all_plain ps ≡ true → (serial boot named ps).notes ≡ []
none_noted boot named ps plain = behind_plain boot [] named ps plain
