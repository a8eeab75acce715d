use Rattle.std.proofs.Common.{ℕ, Bool, Option, Some, None, reverse, ap, ◌∙◌, sym}
use Rattle.std.specs.Option.{option_or}
use Rattle.entry_choices.specs.Choices.{is_taken_among, takes}
use Rattle.entry_choices.proofs.Scans.{taken_other, taken_alone, taken_led, taken_of_none, or_stays}
use Rattle.entry_choices.proofs.single.is_taken_among.Goals as goal

pub returns-in_default-asked_of : goal.returns-in_default-asked_of
returns-in_default-asked_of c =
    ap (λ (b : Bool). Some b) (c.takes-alone.ensures ∙ ap (λ (s : ℕ). takes c.args.options.now s None c.in-Some.entry.now) c.section_behind.ensures)
    ∙ sym (c.loop-entry.invariant ∙ ap (λ (x : Option Bool). option_or x c.loop-entry.otherwise)
    (taken_alone c.args.options.now c.loop-entry.rest.now c.in-Some.before.now c.in-Some.entry.now c.loop-entry.sought c.in-Some.ensures.cases.0 c.if-entry-sought.true c.in_default-asked_of.ensures))

pub loop-entry-preserved-then-entry-sought : goal.loop-entry-preserved-then-entry-sought
loop-entry-preserved-then-entry-sought c =
    c.loop-entry.invariant
    ∙ ap (λ (x : Option Bool). option_or x c.loop-entry.otherwise)
    (taken_led c.args.options.now c.loop-entry.rest.now c.in-Some.before.now c.in-Some.entry.now c.loop-entry.sought c.in-Some-asked_of.first c.in-Some.ensures.cases.0 c.if-entry-sought.true c.in-Some-asked_of.ensures)
    ∙ or_stays (is_taken_among c.args.options.now (reverse c.in-Some.before.now) c.in-Some-asked_of.first) c.loop-entry.otherwise _
    ∙ ap (λ (b : Bool). option_or (is_taken_among c.args.options.now (reverse c.in-Some.before.now) c.in-Some-asked_of.first) (Some b))
    (sym (c.takes-alone.ensures ∙ ap (λ (s : ℕ). takes c.args.options.now s None c.in-Some.entry.now) c.section_behind.ensures))

pub loop-entry-preserved : goal.loop-entry-preserved
loop-entry-preserved c =
    c.loop-entry.invariant
    ∙ ap (λ (x : Option Bool). option_or x c.loop-entry.otherwise)
    (taken_other c.args.options.now c.loop-entry.rest.now c.in-Some.before.now c.in-Some.entry.now c.loop-entry.sought c.in-Some.ensures.cases.0 c.if-entry-sought.false)

pub returns : goal.returns
returns c = sym (c.loop-entry.invariant ∙ ap (λ (x : Option Bool). option_or x c.loop-entry.otherwise) (taken_of_none c.args.options.now c.loop-entry.rest.now c.loop-entry.sought c.in_default.ensures.cases))
