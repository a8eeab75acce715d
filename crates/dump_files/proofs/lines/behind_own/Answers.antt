use Rattle.std.proofs.Common.{◌≡◌, ◌+◌, ◌∷◌, List, ℕ, length, ap, ◌∙◌, arith}
use Rattle.std.proofs.lemmas.List.{length-append}
use Rattle.copy_text.specs.Marks.{newline}
use Rattle.dump_files.proofs.OwnRuns.{run_begins, run_on}
use Rattle.dump_files.proofs.lines.behind_own.Goals as goal

pub loop-line-preserved : goal.loop-line-preserved
loop-line-preserved c =
    let is = c.in-Some.ensures.some in
    let long = ap (λ (xs : List ℕ). length xs) is ∙ length-append c.in-Some.line.now (newline ∷ c.in-Some.behind.now) in
    let room = c.loop-line.invariant.room in
    let within = c.loop-line.invariant.within in
    record {
      room = omega (arith, long, room);
      within = omega (arith, long, within);
      run = run_on c.args.columns c.args.rows c.loop-line.count c.args.text.now c.loop-line.rest.now c.in-Some.line.now c.in-Some.behind.now c.requires.own c.in-Some.ensures.one_line is (c.has_columns.ensures c.if-not-has_columns.false) c.loop-line.invariant.run;
    }
