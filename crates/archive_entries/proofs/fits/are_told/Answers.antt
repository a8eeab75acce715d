use Rattle.std.proofs.Common.{◌≡◌, false, true, [], ◌∷◌, sym, ◌∙◌, rules}
use Rattle.std.proofs.lemmas.List.{nil_from_length}
use Rattle.archive_entries.specs.Fits.{is_next}
use Rattle.archive_entries.proofs.FitLemmas.{told_none, told_false, told_true}
use Rattle.archive_entries.proofs.fits.are_told.Goals as goal

pub returns-then-not-is_next : goal.returns-then-not-is_next
returns-then-not-is_next c =
    let split : c.loop-entry.rest.now ≡ c.in-Some.entry.now ∷ c.in-Some.later.now = c.in-Some.ensures.cases.0 in
    let fails : is_next c.loop-entry.last c.in-Some.entry.now ≡ false = search rules in
    sym (c.loop-entry.invariant ∙ told_false c.loop-entry.last c.in-Some.entry.now c.in-Some.later.now c.loop-entry.rest.now split fails)

pub loop-entry-preserved : goal.loop-entry-preserved
loop-entry-preserved c =
    let split : c.loop-entry.rest.now ≡ c.in-Some.entry.now ∷ c.in-Some.later.now = c.in-Some.ensures.cases.0 in
    let holds : is_next c.loop-entry.last c.in-Some.entry.now ≡ true = search rules in
    c.loop-entry.invariant ∙ told_true c.loop-entry.last c.in-Some.entry.now c.in-Some.later.now c.loop-entry.rest.now split holds

pub returns : goal.returns
returns c =
    let none : c.loop-entry.rest.now ≡ [] = nil_from_length c.loop-entry.rest.now (search rules) in
    sym (c.loop-entry.invariant ∙ told_none c.loop-entry.last c.loop-entry.rest.now none)
