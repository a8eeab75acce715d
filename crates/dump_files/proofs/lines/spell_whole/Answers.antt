use Rattle.std.proofs.Common.{◌≡◌, List, ℕ, ◌∙◌, true, false, sym, subst}
use Rattle.std.specs.Str.{bytes_eq}
use Rattle.copy_text.specs.Marks.{end_mark}
use Rattle.dump_files.proofs.StepLemmas.{line_out, line_fault, line_stop}
use Rattle.dump_files.proofs.lines.spell_whole.Goals as goal

pub returns-then-eq-clause-end : goal.returns-then-eq-clause-end
returns-then-eq-clause-end c = λ more rest _.
    let is : bytes_eq c.args.line.now end_mark ≡ true = subst (λ (xs : List ℕ). bytes_eq c.args.line.now xs ≡ true) c.as_slice.ensures (sym c.eq.ensures ∙ c.if-eq.true) in
    line_stop c.args.columns c.args.rows c.args.out.now.items c.args.line.now more c.requires.one_line is rest c.extend_from_slice.new.self.items c.in_ok-extend_from_slice.ensures.items

pub returns-in-Some-clause-fault : goal.returns-in-Some-clause-fault
returns-in-Some-clause-fault c = λ more.
    let isnt : bytes_eq c.args.line.now end_mark ≡ false = subst (λ (xs : List ℕ). bytes_eq c.args.line.now xs ≡ false) c.as_slice.ensures (sym c.eq.ensures ∙ c.if-eq.false) in
    line_fault c.args.columns c.args.rows c.args.out.now.items c.args.line.now more c.requires.one_line c.in-Some.fault isnt (rw c.in-Some.is at c.in_ok-fault.ensures.bad)

pub returns-clause-row : goal.returns-clause-row
returns-clause-row c = λ more _.
    let isnt : bytes_eq c.args.line.now end_mark ≡ false = subst (λ (xs : List ℕ). bytes_eq c.args.line.now xs ≡ false) c.as_slice.ensures (sym c.eq.ensures ∙ c.if-eq.false) in
    let good = rw c.in_default.is at c.in_ok-fault.ensures.good in
    line_out c.args.columns c.args.rows c.args.out.now.items c.args.line.now more c.requires.one_line good.0 c.spell_line.new.out.items isnt good.1 good.2
