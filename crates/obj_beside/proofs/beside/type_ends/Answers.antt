use Rattle.std.proofs.Common.{◌≡◌, ◌≤◌, ◌∷◌, [], ◌++◌, length, take, filter_map, option_map, sym, ap, subst, ◌∙◌, arith}
use Rattle.std.proofs.lemmas.List.{take_all}
use Rattle.cat_book.specs.Paths.{path_cmp}
use Rattle.obj_beside.specs.Firsts.{AreFirsts}
use Rattle.obj_graph.specs.Links.{type_at}
use Rattle.obj_beside.proofs.Rows.{given_more}
use Rattle.obj_beside.proofs.beside.type_ends.Goals as goal

pub loop-row-preserved : goal.loop-row-preserved
loop-row-preserved c =
    let f = type_at c.args.book.now in
    let rows = c.args.rows.now in
    let i = c.loop-row.row-index in
    let row = c.row-item.result in
    let before = filter_map f (take i rows) in
    let more : before ++ filter_map (λ e. e) (option_map (λ q. (q, c.type_id.result)) c.in_ok-path.path ∷ []) ≡ before ++ filter_map (λ e. e) (f row ∷ []) = λ j. before ++ filter_map (λ e. e) (option_map (λ q. (q, (c.type_id.ensures) j)) (c.in_ok-path.ensures j) ∷ []) in
    subst (AreFirsts path_cmp c.add_path.new.ends) (more ∙ sym (given_more f rows i row c.loop-row-test.true c.row-item.is)) (c.in_ok-add_path.ensures before c.loop-row.invariant)

pub returns : goal.returns
returns c =
    let f = type_at c.args.book.now in
    let rows = c.args.rows.now in
    let i = c.loop-row.row-index in
    let all : length rows ≤ i = omega (arith, c.loop-row-test.false) in
    subst (AreFirsts path_cmp c.loop-row.ends) (ap (filter_map f) (take_all i rows all)) c.loop-row.invariant
