-- The statements of an entry that a restore takes are fit: those that its texts read as, and its owner statement.
use Rattle.std.proofs.Common.{◌≡◌, ℕ, Bool, true, false, List, [], ◌∷◌, ◌++◌, map, Option, Some, None, Result, Ok, Err, refl, subst, if◌then◌else◌}
use Rattle.std.specs.List.{AllByRecursion}
use Rattle.cat_model.specs.declared.grant.Owned.{Owned}
use Rattle.cat_model.specs.declared.words.What.{What}
use Rattle.cat_sound.specs.Fit.{IsFit}
use Rattle.cat_sound.proofs.Lists.{all-append}
use Rattle.ddl_laws.specs.fault.DdlFault.{DdlFault}
use Rattle.ddl_laws.specs.located.Located.{Located}
use Rattle.ddl_laws.specs.Reading.{statements_of}
use Rattle.ddl_laws.specs.Spellings.{said}
use Rattle.ddl_laws.proofs.Respelled.{read_is_writable}
use Rattle.restore_plan.specs.declared.entry.Entry as planned
use Rattle.restore_plan.specs.declared.step.Step.{Step}
use Rattle.restore_steps.specs.Faults.{told, unless_left_out, left_out, entry_of, entry_due}
use Rattle.restore_steps.specs.Statements.{◌>>=◌, text_of, given_to, owner_statement, owner_steps, step_of, as_steps, steps_in, rows_text, rows_steps, statements}
use Rattle.sound_texts.specs.Grammar.{grammar}
use Rattle.sound_texts.proofs.Writable.{all_fit}
use Rattle.toc_entry.specs.declared.entry.Entry.{Entry}
use Rattle.restores_sound.specs.Fit.{AreFitSteps}

located_fit : (found : List Located) → AllByRecursion (IsFit grammar) (said found) → AreFitSteps (map step_of found)
located_fit [] fit = tt
located_fit (l ∷ ls) fit = (fit.0, located_fit ls fit.1)

steps_fit : (text : List ℕ) (steps : List Step) → steps_in text ≡ Ok steps → AreFitSteps steps
unfolding steps_in
steps_fit text steps e = by (statements_of text) refl e
  where
    by : (r : Result (List Located) DdlFault) → statements_of text ≡ r → as_steps r ≡ Ok steps → AreFitSteps steps
    by (Ok found) is h =
        let same : map step_of found ≡ steps = cc in
        subst AreFitSteps same (located_fit found (all_fit (said found) (read_is_writable text found is)))
    by (Err fault) is h = absurd cc

rows_fit : (e : Entry) (rows : Option (List ℕ)) (steps : List Step) → rows_steps e rows ≡ Ok steps → AreFitSteps steps
unfolding rows_steps
rows_fit e rows steps is = by e.has_rows is
  where
    by : (b : Bool) → (if b then steps_in (rows_text e rows) else Ok []) ≡ Ok steps → AreFitSteps steps
    by true h = steps_fit (rows_text e rows) steps h
    by false h = let same : [] ≡ steps = cc in subst AreFitSteps same tt

given_fit : (object : Option Owned) (role : Option (List ℕ)) → AreFitSteps (owner_steps (given_to object role))
given_fit (Some object) (Some role) = (tt, tt)
given_fit (Some object) None = tt
given_fit None (Some role) = tt
given_fit None None = tt

owner_fit : (owners : Bool) (e : Entry) → AreFitSteps (owner_steps (owner_statement owners e))
unfolding owner_statement
owner_fit true e = given_fit _ _
owner_fit false e = tt

abbrev FitSteps : Step → Type 0
FitSteps s = IsFit grammar s.statement

statements_fit : (owners : Bool) (e : Entry) (rows : Option (List ℕ)) (steps : List Step) → statements owners e rows ≡ Ok steps → AreFitSteps steps
unfolding statements
statements_fit owners e rows steps is = by (steps_in (text_of e.defn)) refl (rows_steps e rows) refl is
  where
    by : (made : Result (List Step) DdlFault) → steps_in (text_of e.defn) ≡ made → (put : Result (List Step) DdlFault) → rows_steps e rows ≡ put
        → (made >>= λ m. put >>= λ p. Ok (m ++ owner_steps (owner_statement owners e) ++ p)) ≡ Ok steps → AreFitSteps steps
    by (Ok made) is_made (Ok put) is_put h =
        let owner : List Step = owner_steps (owner_statement owners e) in
        let same : made ++ owner ++ put ≡ steps = cc in
        subst AreFitSteps same (all-append FitSteps (made ++ owner) put (all-append FitSteps made owner (steps_fit (text_of e.defn) made is_made) (owner_fit owners e)) (rows_fit e rows put is_put))
    by (Ok made) is_made (Err fault) is_put h = absurd cc
    by (Err fault) is_made put is_put h = absurd cc

pub entry_fit : (owners : Bool) (e : Entry) (rows : Option (List ℕ)) (found : planned.Entry) → entry_due owners e rows ≡ Ok found → AreFitSteps found.steps
unfolding entry_due
entry_fit owners e rows found is = by (statements owners e rows) refl is
  where
    kept : (steps : List Step) (out : Option What) → AreFitSteps steps → unless_left_out e.dump_id out (entry_of e steps) ≡ Ok found → AreFitSteps found.steps
    kept steps None fit h =
        let same : entry_of e steps ≡ found = cc in
        subst (λ (x : planned.Entry). AreFitSteps x.steps) same fit
    kept steps (Some it) fit h = absurd cc

    by : (r : Result (List Step) DdlFault) → statements owners e rows ≡ r → (told e.dump_id r >>= λ steps. unless_left_out e.dump_id (left_out e) (entry_of e steps)) ≡ Ok found → AreFitSteps found.steps
    by (Ok steps) is_steps h = kept steps (left_out e) (statements_fit owners e rows steps is_steps) h
    by (Err fault) is_steps h = absurd cc
