-- What one word adds to the values of an option.
use Rattle.std.proofs.Common.{◌≡◌, ℕ, Bool, true, false, cond, List, [], ◌∷◌, ◌++◌, Some, None, Ok, Err, refl, sym, ap, ◌∙◌, append_assoc, append-nil}
use Rattle.std.specs.Option.{option_to_list}
use Rattle.command_line.specs.declared.lists.PatternWord.{PatternWord}
use Rattle.patterns.specs.Reading.{pattern_of}
use Rattle.command_line.specs.declared.options.Opt.{Opt}
use Rattle.command_line.specs.declared.reading.Said.{Said}
use Rattle.command_line.specs.declared.reading.Said.TheVariants as said
use Rattle.command_line.specs.declared.values.Section.{Section}
use Rattle.command_line.specs.Options.{is_same}
use Rattle.command_line.specs.Values.{section_of}
use Rattle.command_line.specs.Reading.{Reading}
use Rattle.command_line.specs.Mentions.{values_of}
use Rattle.command_line.specs.Commands.{with_pattern, patterns_of, with_section, sections_of}
use Rattle.command_line.specs.Seen.{value_said}
use Rattle.command_line.specs.Steps.{with_said, seen, left}
use Rattle.command_line.specs.declared.reader.Reader.{Reader}
use Rattle.command_line.specs.declared.reading.Step.{Step}
use Rattle.command_line.specs.declared.reading.Step.TheVariants as step

if_same : (same : Bool) (value : List ℕ) (later : List (List ℕ)) → cond same (value ∷ later) later ≡ option_to_list (cond same (Some value) None) ++ later
if_same true value later = refl
if_same false value later = refl

pub values_more : (option : Opt) (what : Said) (later : Reading) → values_of option (with_said what later) ≡ option_to_list (value_said option what) ++ values_of option later
unfolding values_of
values_more option (said.Given word given value) later = if_same (is_same given option) value.now (values_of option later)
values_more option (said.Other word text) later = refl

pub patterns_of-append : (xs ys : List (List ℕ)) → patterns_of (xs ++ ys) ≡ patterns_of xs ++ patterns_of ys
patterns_of-append [] ys = refl
patterns_of-append (x ∷ xs) ys =
    elim (pattern_of x) as (λ p. with_pattern x p (patterns_of (xs ++ ys)) ≡ with_pattern x p (patterns_of xs) ++ patterns_of ys)
    [ Ok p ↦ ap (λ l. record { text = x; pattern = p } ∷ l) (patterns_of-append xs ys) | Err e ↦ patterns_of-append xs ys ]

pub sections_of-append : (xs ys : List (List ℕ)) → sections_of (xs ++ ys) ≡ sections_of xs ++ sections_of ys
sections_of-append [] ys = refl
sections_of-append (x ∷ xs) ys =
    elim (section_of x) as (λ p. with_section p (sections_of (xs ++ ys)) ≡ with_section p (sections_of xs) ++ sections_of ys)
    [ Some p ↦ ap (λ l. p ∷ l) (sections_of-append xs ys) | None ↦ sections_of-append xs ys ]

-- the values so far and those to come are all, also behind one more word
pub names_go_on : (option : Opt) (before after : List (List ℕ)) (what : Said) (here later : Reading) (all : List (List ℕ)) → with_said what later ≡ here
    → after ≡ before ++ option_to_list (value_said option what) → before ++ values_of option here ≡ all → after ++ values_of option later ≡ all
names_go_on option before after what here later all e a h =
    let new : List (List ℕ) = option_to_list (value_said option what) in
    ap (λ l. l ++ values_of option later) a ∙ append_assoc before new (values_of option later)
    ∙ ap (λ l. before ++ l) (sym (values_more option what later) ∙ ap (values_of option) e) ∙ h

pub patterns_go_on : (option : Opt) (before after : List PatternWord) (what : Said) (here later : Reading) (all : List PatternWord) → with_said what later ≡ here
    → after ≡ before ++ patterns_of (option_to_list (value_said option what)) → before ++ patterns_of (values_of option here) ≡ all → after ++ patterns_of (values_of option later) ≡ all
patterns_go_on option before after what here later all e a h =
    let new : List (List ℕ) = option_to_list (value_said option what) in
    ap (λ l. l ++ patterns_of (values_of option later)) a ∙ append_assoc before (patterns_of new) (patterns_of (values_of option later))
    ∙ ap (λ l. before ++ l) (sym (patterns_of-append new (values_of option later)) ∙ ap patterns_of (sym (values_more option what later) ∙ ap (values_of option) e)) ∙ h

pub sections_go_on : (option : Opt) (before after : List Section) (what : Said) (here later : Reading) (all : List Section) → with_said what later ≡ here
    → after ≡ before ++ sections_of (option_to_list (value_said option what)) → before ++ sections_of (values_of option here) ≡ all → after ++ sections_of (values_of option later) ≡ all
sections_go_on option before after what here later all e a h =
    let new : List (List ℕ) = option_to_list (value_said option what) in
    ap (λ l. l ++ sections_of (values_of option later)) a ∙ append_assoc before (sections_of new) (sections_of (values_of option later))
    ∙ ap (λ l. before ++ l) (sym (sections_of-append new (values_of option later)) ∙ ap sections_of (sym (values_more option what later) ∙ ap (values_of option) e)) ∙ h

-- where a step says nothing more, no value is left
nothing_more : (option : Opt) (s : Step) → ((what : Said) (reader : Reader) → s ≡ step.Says what reader → ⊥) → values_of option (seen s) ≡ []
unfolding values_of
nothing_more option step.Ends h = refl
nothing_more option (step.Fails fault) h = refl
nothing_more option (step.Says what reader) h = absurd (h what reader refl)

pub names_end : (option : Opt) (names all : List (List ℕ)) (s : Step) (reader : Reader) → seen s ≡ left reader → ((what : Said) (reader : Reader) → s ≡ step.Says what reader → ⊥)
    → names ++ values_of option (left reader) ≡ all → names ≡ all
names_end option names all s reader e h g = sym (append-nil names) ∙ ap (λ l. names ++ l) (sym (nothing_more option s h) ∙ ap (values_of option) e) ∙ g

pub patterns_end : (option : Opt) (patterns all : List PatternWord) (s : Step) (reader : Reader) → seen s ≡ left reader → ((what : Said) (reader : Reader) → s ≡ step.Says what reader → ⊥)
    → patterns ++ patterns_of (values_of option (left reader)) ≡ all → patterns ≡ all
patterns_end option patterns all s reader e h g = sym (append-nil patterns) ∙ ap (λ l. patterns ++ patterns_of l) (sym (nothing_more option s h) ∙ ap (values_of option) e) ∙ g

pub sections_end : (option : Opt) (sections all : List Section) (s : Step) (reader : Reader) → seen s ≡ left reader → ((what : Said) (reader : Reader) → s ≡ step.Says what reader → ⊥)
    → sections ++ sections_of (values_of option (left reader)) ≡ all → sections ≡ all
sections_end option sections all s reader e h g = sym (append-nil sections) ∙ ap (λ l. sections ++ sections_of l) (sym (nothing_more option s h) ∙ ap (values_of option) e) ∙ g
