use Rattle.std.proofs.Common.{◌≡◌, ℕ, ◌+◌, ◌-◌, cond, false, Some, get_or, drop, sym, ap, ◌∙◌, arith}
use Rattle.std.specs.Prelude.{◌==◌}
use Rattle.std.proofs.lemmas.Bool.{ne_eqb, eq-eqb}
use Rattle.sql_lex.specs.Bytes.{next_is}
use Rattle.sql_lex.specs.Ends.{comment_end}
use Rattle.sql_lex.proofs.Scans.{is_bound, found, not_found, comment_opens, comment_closes, comment_goes_on, comment_stays}
use Rattle.sql_lex.proofs.ends.comment_end.Goals as goal
use Rattle.sql_lex.proofs.ends.comment_end.Goals.{else-mark-eq47-via-then-mark-eq47+else-stands, else-mark-eq47-via-else-mark-eq47, else-mark-eq42-via-then-mark-eq42+else-stands-2, else-mark-eq42-via-else-mark-eq42}

pub marks-preserved-then-stands : goal.marks-preserved-then-stands
marks-preserved-then-stands c =
    let text = c.args.text.now in
    let f = found is_bound text c.marks.at c.in-Some.len c.in-Some.ensures in
    let room = c.stands.ensures.room c.if-stands.true in
    record {
      along = record {
        same = sym (comment_opens c.marks.depth text c.marks.at c.in-Some.len f c.if-mark-eq47.true (sym c.stands.ensures.value ∙ c.if-stands.true)) ∙ c.marks.invariant.along.same;
        low = let low = c.marks.invariant.along.low in omega arith;
        high = omega arith;
      };
      some = omega arith;
      bound = let bound = c.marks.invariant.bound in omega arith;
    }

pub returns-then-depth-eq1-clause-end : goal.returns-then-depth-eq1-clause-end
returns-then-depth-eq1-clause-end c =
    let text = c.args.text.now in
    let next : ℕ = c.marks.at + c.in-Some.len + 1 in
    let f = found is_bound text c.marks.at c.in-Some.len c.in-Some.ensures in
    let closes = comment_closes c.marks.depth text c.marks.at c.in-Some.len f c.if-mark-eq42.true (sym c.stands-then-mark-eq42.ensures.value ∙ c.if-stands-2.true) in
    let last = ap (λ b. cond b (Some (next + 1)) (comment_end (c.marks.depth - 1) 0 (next + 1) (drop (next + 1) text))) (eq-eqb c.marks.depth 1 c.if-depth-eq1.true) in
    sym (closes ∙ last) ∙ c.marks.invariant.along.same

pub marks-preserved-then-stands-2 : goal.marks-preserved-then-stands-2
marks-preserved-then-stands-2 c =
    let text = c.args.text.now in
    let next : ℕ = c.marks.at + c.in-Some.len + 1 in
    let f = found is_bound text c.marks.at c.in-Some.len c.in-Some.ensures in
    let room = c.stands-then-mark-eq42.ensures.room c.if-stands-2.true in
    let closes = comment_closes c.marks.depth text c.marks.at c.in-Some.len f c.if-mark-eq42.true (sym c.stands-then-mark-eq42.ensures.value ∙ c.if-stands-2.true) in
    let more = ap (λ b. cond b (Some (next + 1)) (comment_end (c.marks.depth - 1) 0 (next + 1) (drop (next + 1) text))) (ne_eqb c.marks.depth 1 c.if-depth-eq1.false) in
    record {
      along = record {
        same = sym (closes ∙ more) ∙ c.marks.invariant.along.same;
        low = let low = c.marks.invariant.along.low in omega arith;
        high = omega arith;
      };
      some = let some = c.marks.invariant.some in omega (arith, c.if-depth-eq1.false);
      bound = let bound = c.marks.invariant.bound in omega arith;
    }

pub marks-preserved : goal.marks-preserved
marks-preserved c =
    let text = c.args.text.now in
    let mark : ℕ = get_or text (c.marks.at + c.in-Some.len) 0 in
    let next : ℕ = c.marks.at + c.in-Some.len + 1 in
    let f = found is_bound text c.marks.at c.in-Some.len c.in-Some.ensures in
    let room = f.room in
    let slash : mark ≡ 47 → next_is (λ b. b == 42) (drop next text) ≡ false = elim c.else-mark-eq47.branch [
      | else-mark-eq47-via-then-mark-eq47+else-stands w ↦ λ e. sym w.stands.ensures.value ∙ w.if-stands.false
      | else-mark-eq47-via-else-mark-eq47 w ↦ λ e. absurd (w.if-mark-eq47.false e)
    ] in
    let star : mark ≡ 42 → next_is (λ b. b == 47) (drop next text) ≡ false = elim c.else-mark-eq42.branch [
      | else-mark-eq42-via-then-mark-eq42+else-stands-2 w ↦ λ e. sym w.stands-then-mark-eq42.ensures.value ∙ w.if-stands-2.false
      | else-mark-eq42-via-else-mark-eq42 w ↦ λ e. absurd (w.if-mark-eq42.false e)
    ] in
    record {
      along = record {
        same = sym (comment_goes_on c.marks.depth text c.marks.at c.in-Some.len f slash star) ∙ c.marks.invariant.along.same;
        low = let low = c.marks.invariant.along.low in omega arith;
        high = omega arith;
      };
      some = let some = c.marks.invariant.some in omega arith;
      bound = let bound = c.marks.invariant.bound in omega arith;
    }

pub returns-clause-end : goal.returns-clause-end
returns-clause-end c =
    let text = c.args.text.now in
    sym (comment_stays c.marks.depth text c.marks.at (not_found is_bound text c.marks.at c.in_default.ensures)) ∙ c.marks.invariant.along.same
