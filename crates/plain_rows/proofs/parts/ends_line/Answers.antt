use Rattle.std.proofs.Common.{◌≡◌, ℕ, List, [], ◌∷◌, ◌++◌, ap, ◌∙◌}
use Rattle.std.proofs.lemmas.Bool.{eqb-true}
use Rattle.copy_text.specs.Marks.{newline}
use Rattle.plain_rows.proofs.PartLines.{part_ends}
use Rattle.plain_rows.proofs.parts.ends_line.Goals as goal

pub returns-in-Some : goal.returns-in-Some
returns-in-Some c = λ yes clear.
    let front : List ℕ = c.in-Some._front.now in
    let last : c.in-Some.last.now ≡ newline = eqb-true _ _ yes in
    part_ends c.args.part.now front (c.in-Some.ensures.cases.0 ∙ ap (λ (b : ℕ). front ++ b ∷ []) last) clear
