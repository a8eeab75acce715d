-- Which notes are of which entry: those that an entry makes have its dump id, so that in a restore of distinct entries each
-- finds its own at the front when it is its turn.
use Rattle.std.proofs.Common.{◌≡◌, ℕ, zero, suc, ◌+◌, ◌==◌, Bool, true, false, ◌&&◌, ◌||◌, not, List, [], ◌∷◌, ◌++◌, length, take, drop, map, Option, Some, None, Result, Ok, Err, refl, ap, sym, subst, ◌∙◌, append_assoc, eq-eqb, if◌then◌else◌}
use Rattle.std.proofs.Math.Seq.{take-append_seam, drop-append_seam}
use Rattle.cat_model.specs.declared.cause.Cause.{Cause}
use Rattle.cat_model.specs.Effects.{effect}
use Rattle.cat_model.specs.Trees.{Change, seen, outcome}
use Rattle.cat_model.specs.Values.{Bytes, Named}
use Rattle.restore_plan.specs.Chains.{are_distinct}
use Rattle.restore_plan.specs.Entries.{is_among}
use Rattle.restore_plan.specs.declared.status.EntryStatus.{EntryStatus}
use Rattle.restore_plan.specs.declared.status.Note.{Note}
use Rattle.restore_plan.specs.declared.planned.Planned.{Planned}
use Rattle.restore_plan.specs.declared.step.Step.{Step}
use Rattle.restore_plan.specs.Serial.{Ended, Left, Restored, Under_way, after_steps, entry_left, first_blocked, noted, serial, serial_behind, started, until_refusal}
use Rattle.toc_entry.specs.declared.entry.Entry.{Entry}
use Rattle.restore_runs.specs.InTurn.{told_behind}
use Rattle.restore_runs.specs.Reports.{own, note_lines, status_line, entry_lines}

-- each of these notes is of the entry, or none is
abbrev AllOf : ℕ → List Note → Type 0
AllOf id [] = Unit {0}
AllOf id (n ∷ ns) = (n.dump_id ≡ id) × AllOf id ns

abbrev NoneOf : ℕ → List Note → Type 0
NoneOf id [] = Unit {0}
NoneOf id (n ∷ ns) = ((n.dump_id == id) ≡ false) × NoneOf id ns

all_both : (id : ℕ) (xs ys : List Note) → AllOf id xs → AllOf id ys → AllOf id (xs ++ ys)
all_both id [] ys all others = others
all_both id (x ∷ xs) ys all others = (all.0, all_both id xs ys all.1 others)

none_both : (id : ℕ) (xs ys : List Note) → NoneOf id xs → NoneOf id ys → NoneOf id (xs ++ ys)
none_both id [] ys none others = others
none_both id (x ∷ xs) ys none others = (none.0, none_both id xs ys none.1 others)

-- notes of another entry are none of this one
none_from : (id other : ℕ) (xs : List Note) → (other == id) ≡ false → AllOf other xs → NoneOf id xs
none_from id other [] apart all = tt
none_from id other (x ∷ xs) apart all = (ap (λ (n : ℕ). n == id) all.0 ∙ apart, none_from id other xs apart all.1)

-- ---- how many stand at the front

own_none : (id : ℕ) (ys : List Note) → NoneOf id ys → own id ys ≡ 0
own_none id [] none = refl
own_none id (y ∷ ys) none = ap (λ (b : Bool). if b then suc (own id ys) else 0) none.0

own_all : (id : ℕ) (xs ys : List Note) → AllOf id xs → NoneOf id ys → own id (xs ++ ys) ≡ length xs
own_all id [] ys all none = own_none id ys none
own_all id (x ∷ xs) ys all none =
    ap (λ (b : Bool). if b then suc (own id (xs ++ ys)) else 0) (eq-eqb x.dump_id id all.0) ∙ ap suc (own_all id xs ys all.1 none)

-- ---- what an entry notes

noted_own : (id : ℕ) (is_owner : Bool) (said : Result (List Change) Cause) → AllOf id (noted id is_owner said)
noted_own id is_owner (Ok changes) = tt
noted_own id true (Err cause) = (refl, tt)
noted_own id false (Err cause) = tt

step_own : (boot : Bytes) (id : ℕ) (w : Under_way) (refused : Option Cause) (s : Step) → AllOf id w.notes → AllOf id (until_refusal boot id w refused s).notes
step_own boot id w None s all =
    let said : Result (List Change) Cause = outcome (effect boot s.statement) (seen w.catalogue) in
    all_both id w.notes (noted id s.is_owner said) all (noted_own id s.is_owner said)
step_own boot id w (Some cause) s all = all

steps_own : (boot : Bytes) (id : ℕ) (steps : List Step) (w : Under_way) → AllOf id w.notes → AllOf id (after_steps boot id steps w).notes
steps_own boot id [] w all = all
steps_own boot id (s ∷ steps) w all = steps_own boot id steps (until_refusal boot id w w.refused s) (step_own boot id w w.refused s all)

entry_own : (boot : Bytes) (p : Planned) (named : Named) (blocker : Option ℕ) → AllOf p.id (entry_left boot p named blocker).notes
entry_own boot p named (Some by) = tt
entry_own boot p named None = steps_own boot p.id p.steps (started named) tt

-- ---- what the entries behind it note

head_apart : (b c : Bool) → (b || c) ≡ false → b ≡ false
head_apart true c is = is
head_apart false c is = refl

rest_apart : (b c : Bool) → (b || c) ≡ false → c ≡ false
rest_apart true c is = cc
rest_apart false c is = is

later_apart : (boot : Bytes) (id : ℕ) (ended : Ended) (named : Named) (ps : List Planned) → is_among id (map (λ p. p.id) ps) ≡ false → NoneOf id (serial_behind boot ended named ps).notes
later_apart boot id ended named [] apart = tt
later_apart boot id ended named (p ∷ ps) apart =
    let e : Left = entry_left boot p named (first_blocked ended p.deps) in
    let now : Ended = ended ++ (p.id, e.status) ∷ [] in
    none_both id e.notes (serial_behind boot now e.catalogue ps).notes
    (none_from id p.id e.notes (head_apart (p.id == id) (is_among id (map (λ q. q.id) ps)) apart) (entry_own boot p named (first_blocked ended p.deps)))
    (later_apart boot id now e.catalogue ps (rest_apart (p.id == id) (is_among id (map (λ q. q.id) ps)) apart))

-- ---- the lines

distinct_head : (b c : Bool) → (not b && c) ≡ true → b ≡ false
distinct_head true c is = cc
distinct_head false c is = refl

distinct_rest : (b c : Bool) → (not b && c) ≡ true → c ≡ true
distinct_rest true c is = cc
distinct_rest false c is = is

-- an entry whose own notes come first, and then notes of others
entry_first : (teller : Bytes) (e : Entry) (es : List Entry) (status : EntryStatus) (statuses : List EntryStatus) (mine others : List Note) → own e.dump_id (mine ++ others) ≡ length mine →
    entry_lines teller (e ∷ es) (status ∷ statuses) (mine ++ others) ≡ (note_lines teller e mine ++ status_line teller e status) ++ entry_lines teller es statuses others
entry_first teller e es status statuses mine others counted =
    (λ i. (note_lines teller e (take (counted i) (mine ++ others)) ++ status_line teller e status) ++ entry_lines teller es statuses (drop (counted i) (mine ++ others)))
    ∙ (λ i. (note_lines teller e (take-append_seam mine others i) ++ status_line teller e status) ++ entry_lines teller es statuses (drop-append_seam mine others i))

told_same : (teller boot : Bytes) (ended : Ended) (named : Named) (es : List Entry) (ps : List Planned) → map (λ e. e.dump_id) es ≡ map (λ p. p.id) ps → are_distinct (map (λ p. p.id) ps) ≡ true →
    entry_lines teller es (serial_behind boot ended named ps).statuses (serial_behind boot ended named ps).notes ≡ told_behind teller boot ended named es ps
told_same teller boot ended named [] ps same distinct = refl
told_same teller boot ended named (e ∷ es) [] same distinct = refl
told_same teller boot ended named (e ∷ es) (p ∷ ps) same distinct =
    let l : Left = entry_left boot p named (first_blocked ended p.deps) in
    let now : Ended = ended ++ (p.id, l.status) ∷ [] in
    let r : Restored = serial_behind boot now l.catalogue ps in
    let is : e.dump_id ≡ p.id = cc in
    let more : map (λ e. e.dump_id) es ≡ map (λ p. p.id) ps = cc in
    let apart = later_apart boot p.id now l.catalogue ps (distinct_head (is_among p.id (map (λ q. q.id) ps)) (are_distinct (map (λ q. q.id) ps)) distinct) in
    entry_first teller e es l.status r.statuses l.notes r.notes (ap (λ (id : ℕ). own id (l.notes ++ r.notes)) is ∙ own_all p.id l.notes r.notes (entry_own boot p named (first_blocked ended p.deps)) apart)
    ∙ ap (λ (t : List ℕ). (note_lines teller e l.notes ++ status_line teller e l.status) ++ t) (told_same teller boot now l.catalogue es ps more (distinct_rest (is_among p.id (map (λ q. q.id) ps)) (are_distinct (map (λ q. q.id) ps)) distinct))

-- the lines of a restore of distinct entries
pub in_turn : (teller boot : Bytes) (named : Named) (es : List Entry) (ps : List Planned) → map (λ e. e.dump_id) es ≡ map (λ p. p.id) ps → are_distinct (map (λ p. p.id) ps) ≡ true →
    entry_lines teller es (serial boot named ps).statuses (serial boot named ps).notes ≡ told_behind teller boot [] named es ps
in_turn teller boot named es ps same distinct = told_same teller boot [] named es ps same distinct
