use Rattle.std.proofs.Common.{ℕ, ◌+◌, drop, sym, ◌∙◌, arith}
use Rattle.sql_lex.proofs.Scans.{is_mark, found, not_found, escape_quote, escape_backslash, escape_stays, escape_closed, escape_again, escape_taken, escape_cut}
use Rattle.sql_lex.proofs.ends.escape_end.Goals as goal

pub returns-then-not-stands-clause-end : goal.returns-then-not-stands-clause-end
returns-then-not-stands-clause-end c =
    let text = c.args.text.now in
    let next : ℕ = c.marks.at + c.in-Some.len + 1 in
    let f = found is_mark text c.marks.at c.in-Some.len c.in-Some.ensures in
    sym (escape_quote text c.marks.at c.in-Some.len f c.if-text-at-eq39.true ∙ escape_closed next (drop next text) (sym c.stands.ensures.value ∙ c.if-not-stands.true)) ∙ c.marks.invariant.same

pub marks-preserved-then-text-at-eq39 : goal.marks-preserved-then-text-at-eq39
marks-preserved-then-text-at-eq39 c =
    let text = c.args.text.now in
    let next : ℕ = c.marks.at + c.in-Some.len + 1 in
    let f = found is_mark text c.marks.at c.in-Some.len c.in-Some.ensures in
    let room = c.stands.ensures.room c.if-not-stands.false in
    record {
      same = sym (escape_quote text c.marks.at c.in-Some.len f c.if-text-at-eq39.true ∙ escape_again text next (sym c.stands.ensures.value ∙ c.if-not-stands.false) room) ∙ c.marks.invariant.same;
      low = omega arith;
      high = omega arith;
    }

pub returns-then-next-text-clause-end : goal.returns-then-next-text-clause-end
returns-then-next-text-clause-end c =
    let text = c.args.text.now in
    let f = found is_mark text c.marks.at c.in-Some.len c.in-Some.ensures in
    sym (escape_backslash text c.marks.at c.in-Some.len f c.if-text-at-eq39.false ∙ escape_cut text (c.marks.at + c.in-Some.len + 1) c.if-next-text.true) ∙ c.marks.invariant.same

pub marks-preserved : goal.marks-preserved
marks-preserved c =
    let text = c.args.text.now in
    let next : ℕ = c.marks.at + c.in-Some.len + 1 in
    let f = found is_mark text c.marks.at c.in-Some.len c.in-Some.ensures in
    let room = f.room in
    record {
      same = sym (escape_backslash text c.marks.at c.in-Some.len f c.if-text-at-eq39.false ∙ escape_taken text next (omega arith)) ∙ c.marks.invariant.same;
      low = omega arith;
      high = omega arith;
    }

pub returns-clause-end : goal.returns-clause-end
returns-clause-end c =
    let text = c.args.text.now in
    sym (escape_stays text c.marks.at (not_found is_mark text c.marks.at c.in_default.ensures)) ∙ c.marks.invariant.same
