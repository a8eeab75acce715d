use Rattle.std.proofs.Common.{◌≡◌, ◌∙◌, ◌-◌, ◌+◌, drop, Option, Some, None, sym, ap, arith}
use Rattle.toc_layout.specs.declared.fault.ArchiveFault.{ArchiveFault}
use Rattle.fmt_custom.specs.Customs.{entry_fault_in, or_else, first_fault}
use Rattle.fmt_custom.proofs.Firsts.{more, no_left, no_entry}
use Rattle.fmt_custom.proofs.reader.first_fault.Goals as goal

pub returns-in_err-left : goal.returns-in_err-left
returns-in_err-left c = λ bytes found are.
    c.from_residual.ensures ∙ sym (no_left found c.args.len c.args.entries.now c.args.lefts.now c.loop-i.i (sym c.in_err-left.ensures)) ∙ c.loop-i.invariant bytes found are

pub returns-in-Some : goal.returns-in-Some
returns-in-Some c = λ bytes found are.
    let e = c.index-entries-i.result in
    let len = c.args.len in
    let i = c.loop-i.i in
    let left = c.in_ok-left.left in
    let later : Option ArchiveFault = first_fault found len (drop (i + 1) c.args.entries.now) (drop (i + 1) c.args.lefts.now) in
    let known : entry_fault_in found (len - left - 8) e ≡ Some c.in-Some.fault = rw (← c.saturating_sub.ensures, ← c.saturating_sub-place.ensures) (sym (c.entry_fault.ensures bytes found are) ∙ c.in-Some.is) in
    sym (ap (λ o. or_else o later) known)
    ∙ sym (more found len c.args.entries.now c.args.lefts.now i e left c.loop-i-test.true c.index-entries-i.is (sym c.in_ok-left.ensures))
    ∙ c.loop-i.invariant bytes found are

pub loop-i-preserved : goal.loop-i-preserved
loop-i-preserved c = λ bytes found are.
    let e = c.index-entries-i.result in
    let len = c.args.len in
    let i = c.loop-i.i in
    let left = c.in_ok-left.left in
    let later : Option ArchiveFault = first_fault found len (drop (i + 1) c.args.entries.now) (drop (i + 1) c.args.lefts.now) in
    let known : entry_fault_in found (len - left - 8) e ≡ None = rw (← c.saturating_sub.ensures, ← c.saturating_sub-place.ensures) (sym (c.entry_fault.ensures bytes found are) ∙ c.in_default.is) in
    sym (ap (λ o. or_else o later) known)
    ∙ sym (more found len c.args.entries.now c.args.lefts.now i e left c.loop-i-test.true c.index-entries-i.is (sym c.in_ok-left.ensures))
    ∙ c.loop-i.invariant bytes found are

pub returns : goal.returns
returns c = λ bytes found are. sym (no_entry found c.args.len c.args.entries.now c.args.lefts.now c.loop-i.i (omega arith)) ∙ c.loop-i.invariant bytes found are
