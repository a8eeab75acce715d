use Rattle.std.proofs.Common.{◌∷◌, subst, sym}
use Rattle.std.specs.List.{AllByRecursion}
use Rattle.copy_text.specs.Lines.{data_lines}
use Rattle.copy_text.specs.Texts.{IsText}
use Rattle.plain_rows.specs.Lines.{LineFits}
use Rattle.plain_rows.proofs.fitting.all_fit.Goals as goal

pub lines-preserved : goal.lines-preserved
lines-preserved c =
    let line = c.in-Some.line.now in
    let behind = c.in-Some.behind.now in
    let texts : AllByRecursion IsText (line ∷ data_lines behind) = subst (AllByRecursion IsText) c.in-Some.ensures.some c.lines.invariant.texts in
    record {
      texts = texts.1;
      fit = λ primary marked all.
          c.lines.invariant.fit primary marked
          (subst (AllByRecursion (LineFits c.args.columns.now primary)) (sym c.in-Some.ensures.some) (c.in_ok-line_fits.ensures c.if-not-branch.false texts.0 primary marked, all));
    }
