use Rattle.std.proofs.Common.{◌≡◌, [], ◌∷◌, ◌++◌, ◌+◌, ◌≤◌, length, take, None, sym, ap, subst, ◌∙◌, arith}
use Rattle.std.proofs.lemmas.List.{take_all, drop_all, take_more}
use Rattle.std.proofs.lemmas.Result.{err_from_is_err_and}
use Rattle.cat_names.specs.Findings.{first_kind, fault_or, dangling_unless}
use Rattle.cat_names.specs.Gives.{GivesLine, IsLineDue}
use Rattle.cat_names.proofs.Steps.{passed_at, failed_at, ended_at}
use Rattle.cat_book.specs.Rules.{found, ending, fault_by}
use Rattle.cat_book.specs.Seen.{AreSeen}
use Rattle.cat_book.proofs.lines.check_lines.Goals as goal

pub returns-in_err-go_on : goal.returns-in_err-go_on
returns-in_err-go_on g c =
    let rules = g.T.Conditions.rules in
    let cat = c.args.beside.now in
    let rows = c.args.rows.now in
    let i = c.loop-row.row-index in
    let row = c.row-item.result in
    let is = c.in_ok-found.ensures.found (take i rows) c.loop-row.invariant.1 in
    let p = err_from_is_err_and c.from_residual-in_err-go_on.result c.from_residual-in_err-go_on.ensures.1 in
    rw (p.1, p.2) (failed_at (found rules cat) (ending rules cat) rows i row (fault_by rules cat rows) c.loop-row.line c.in_err-go_on.field-0.0 c.loop-row-test.true c.row-item.is c.loop-row.invariant.2
    (subst (λ f. IsLineDue c.in_err-go_on.field-0.0 (fault_or c.loop-row.line (first_kind f) None)) is c.in_err-go_on.ensures.err) c.loop-row.invariant.0)

pub loop-row-preserved : goal.loop-row-preserved
loop-row-preserved g c =
    let rules = g.T.Conditions.rules in
    let cat = c.args.beside.now in
    let rows = c.args.rows.now in
    let i = c.loop-row.row-index in
    let row = c.row-item.result in
    let is = c.in_ok-found.ensures.found (take i rows) c.loop-row.invariant.1 in (
      passed_at (found rules cat) (ending rules cat) rows i row (fault_by rules cat rows) c.loop-row-test.true c.row-item.is (sym (ap first_kind is) ∙ c.in_ok-go_on.ensures.ok) c.loop-row.invariant.0,
      subst (λ rs. AreSeen rules rs c.find_in.new.seen) (ap (λ r. take i rows ++ r ∷ []) c.row-item.is ∙ sym (take_more rows i row c.loop-row-test.true)) (c.in_ok-found.ensures.seen (take i rows) c.loop-row.invariant.1),
      ap (λ n. n + 1) c.loop-row.invariant.2,
    )

pub returns : goal.returns
returns g c =
    let rules = g.T.Conditions.rules in
    let cat = c.args.beside.now in
    let rows = c.args.rows.now in
    let i = c.loop-row.row-index in
    let all : length rows ≤ i = omega (arith, c.loop-row-test.false) in
    let at : i ≡ length rows = omega (arith, all, c.loop-row.auto.row-index-end) in
    let due = ended_at (found rules cat) (ending rules cat) rows i (fault_by rules cat rows) (drop_all i rows all) (take_all i rows all) c.loop-row.invariant.0 in
    subst (GivesLine c.end.result) (ap (λ n. fault_or n (dangling_unless c.needed.result) None) (c.loop-row.invariant.2 ∙ ap (λ n. n + 1) at) ∙ ap (λ b. fault_or (length rows + 1) (dangling_unless b) None) c.needed.ensures ∙ sym due) c.end.ensures
