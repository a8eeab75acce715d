use Rattle.std.proofs.Common.{◌≤◌, ◌∷◌, [], ◌++◌, length, take, filter_map, sym, ap, subst, ◌∙◌, arith}
use Rattle.std.proofs.lemmas.List.{take_all}
use Rattle.cat_names.specs.Indexed.{AreKeys}
use Rattle.cat_book.specs.Paths.{path_cmp, class_path}
use Rattle.cat_book.proofs.Placed.{given_more}
use Rattle.cat_book.proofs.leads.class_paths.Goals as goal

pub loop-row-preserved : goal.loop-row-preserved
loop-row-preserved c =
    let f = class_path c.args.spaces.now in
    let rows = c.args.rows.now in
    let i = c.loop-row.row-index in
    let row = c.row-item.result in
    let more = ap (λ p. filter_map f (take i rows) ++ filter_map (λ q. q) (p ∷ [])) c.in_ok-path.ensures in
    subst (AreKeys path_cmp c.add_path.new.paths) (more ∙ sym (given_more f rows i row c.loop-row-test.true c.row-item.is)) (c.in_ok-add_path.ensures (filter_map f (take i rows)) c.loop-row.invariant)

pub returns : goal.returns
returns c =
    let f = class_path c.args.spaces.now in
    let rows = c.args.rows.now in
    let i = c.loop-row.row-index in
    let all : length rows ≤ i = omega (arith, c.loop-row-test.false) in
    subst (AreKeys path_cmp c.loop-row.paths) (ap (filter_map f) (take_all i rows all)) c.loop-row.invariant
