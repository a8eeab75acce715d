use Rattle.std.proofs.Common.{◌≡◌, List, [], ◌∷◌, ◌++◌, OnOk, subst}
use Rattle.copy_text.specs.Marks.{newline}
use Rattle.copy_text.specs.Rows.{Field, spell_row}
use Rattle.cat_model.specs.RowTexts.{rows_held}
use Rattle.cat_model.proofs.RowsSpelled.{one_more, left_joined, left_rows, held_more}
use Rattle.cat_model.proofs.rows.TableRows.push.Goals as goal

pub invariant_of-self : goal.invariant_of-self
invariant_of-self c =
    let r = c.write_row.result in
    let row = c.args.row.now in
    let line = spell_row row ++ newline ∷ [] in
    left_joined c.self.inside.text.items line c.write_row.new.out.items c.self.invariant r
    (one_more c.self.inside.text.items row r c.self.invariant c.requires c.write_row.ensures.reads) c.write_row.ensures.ok c.write_row.ensures.err

pub returns-clause-ok : goal.returns-clause-ok
returns-clause-ok c =
    let r = c.write_row.result in
    let row = c.args.row.now in
    let line = spell_row row ++ newline ∷ [] in
    let new = c.write_row.new.out.items in
    subst (λ (rows : List (List Field)). OnOk r (rows_held new ≡ rows ++ row ∷ [])) c.self.view_is
    (held_more c.self.inside.text.items row r c.requires c.write_row.ensures.reads new
    (left_rows c.self.inside.text.items line new c.self.invariant r
    (one_more c.self.inside.text.items row r c.self.invariant c.requires c.write_row.ensures.reads) c.write_row.ensures.ok))
