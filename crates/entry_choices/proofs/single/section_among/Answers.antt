use Rattle.std.proofs.Common.{ℕ, Option, Some, reverse, ap, ◌∙◌, sym}
use Rattle.std.specs.Option.{option_or}
use Rattle.entry_choices.specs.Choices.{section_among}
use Rattle.entry_choices.proofs.Scans.{section_other, section_own, section_alone, section_led, section_of_none, or_stays}
use Rattle.entry_choices.proofs.single.section_among.Goals as goal

pub returns-then-entry-ne1 : goal.returns-then-entry-ne1
returns-then-entry-ne1 c =
    ap (λ (s : ℕ). Some s) c.section_by-alone.ensures
    ∙ sym (c.loop-entry.invariant ∙ ap (λ (x : Option ℕ). option_or x c.loop-entry.otherwise)
    (section_own c.loop-entry.rest.now c.in-Some.before.now c.in-Some.entry.now c.loop-entry.sought c.in-Some.ensures.cases.0 c.if-entry-sought.true c.if-entry-ne1.true))

pub returns-in_default-first_dependency : goal.returns-in_default-first_dependency
returns-in_default-first_dependency c =
    ap (λ (s : ℕ). Some s) c.section_by-alone.ensures
    ∙ sym (c.loop-entry.invariant ∙ ap (λ (x : Option ℕ). option_or x c.loop-entry.otherwise)
    (section_alone c.loop-entry.rest.now c.in-Some.before.now c.in-Some.entry.now c.loop-entry.sought c.in-Some.ensures.cases.0 c.if-entry-sought.true c.in_default-first_dependency.ensures))

pub loop-entry-preserved-then-entry-sought : goal.loop-entry-preserved-then-entry-sought
loop-entry-preserved-then-entry-sought c =
    c.loop-entry.invariant
    ∙ ap (λ (x : Option ℕ). option_or x c.loop-entry.otherwise)
    (section_led c.loop-entry.rest.now c.in-Some.before.now c.in-Some.entry.now c.loop-entry.sought c.in-Some-first_dependency.first c.in-Some.ensures.cases.0 c.if-entry-sought.true c.if-entry-ne1.false c.in-Some-first_dependency.ensures)
    ∙ or_stays (section_among (reverse c.in-Some.before.now) c.in-Some-first_dependency.first) c.loop-entry.otherwise _
    ∙ ap (λ (s : ℕ). option_or (section_among (reverse c.in-Some.before.now) c.in-Some-first_dependency.first) (Some s)) (sym c.section_by-alone.ensures)

pub loop-entry-preserved : goal.loop-entry-preserved
loop-entry-preserved c =
    c.loop-entry.invariant
    ∙ ap (λ (x : Option ℕ). option_or x c.loop-entry.otherwise)
    (section_other c.loop-entry.rest.now c.in-Some.before.now c.in-Some.entry.now c.loop-entry.sought c.in-Some.ensures.cases.0 c.if-entry-sought.false)

pub returns : goal.returns
returns c = sym (c.loop-entry.invariant ∙ ap (λ (x : Option ℕ). option_or x c.loop-entry.otherwise) (section_of_none c.loop-entry.rest.now c.loop-entry.sought c.in_default.ensures.cases))
