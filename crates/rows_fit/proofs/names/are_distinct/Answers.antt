-- The name stands behind itself once more, or it is new.
use Rattle.std.proofs.Common.{◌≡◌, ◌<◌, ◌+◌, ◌-◌, ℕ, true, false, not, ◌∷◌, length, drop, ap, sym, ◌∙◌, arith}
use Rattle.std.specs.List.{list_any}
use Rattle.cat_model.specs.Lexemes.{same_text}
use Rattle.cat_model.specs.Tables.{distinct}
use Rattle.rows_fit.proofs.Distinct.{in_front, still_distinct, stands_twice}
use Rattle.rows_fit.proofs.names.are_distinct.Goals as goal

pub returns-else-new : goal.returns-else-new
returns-else-new c =
    let names = c.args.names.now in
    let i = c.loop-i.i in
    let name = c.index-names-at.result in
    let one : i - 1 + 1 ≡ i = omega arith in
    let below : i - 1 < length names = omega arith in
    let old : not (list_any (same_text name) (drop (i - 1 + 1) names)) ≡ false =
    (λ j. not (list_any (same_text (sym c.as_bytes.ensures.value j)) (drop (one j) names))) ∙ sym (c.in_ok-new.ensures.new (drop i names) c.loop-i.invariant.0) ∙ c.if-new.false in
    sym (stands_twice names (i - 1) name below c.index-names-at.is old)

pub loop-i-preserved : goal.loop-i-preserved
loop-i-preserved c =
    let names = c.args.names.now in
    let i = c.loop-i.i in
    let name = c.index-names-at.result in
    let one : i - 1 + 1 ≡ i = omega arith in
    let below : i - 1 < length names = omega arith in
    let new : not (list_any (same_text name) (drop (i - 1 + 1) names)) ≡ true =
    (λ j. not (list_any (same_text (sym c.as_bytes.ensures.value j)) (drop (one j) names))) ∙ sym (c.in_ok-new.ensures.new (drop i names) c.loop-i.invariant.0) ∙ c.if-new.true in
    let front : c.as_bytes.result.now ∷ drop i names ≡ drop (i - 1) names =
    (λ j. c.as_bytes.ensures.value j ∷ drop (sym one j) names) ∙ sym (in_front names (i - 1) name below c.index-names-at.is) in
    let rest : distinct (drop (i - 1 + 1) names) ≡ true = ap (λ (n : ℕ). distinct (drop n names)) one ∙ c.loop-i.invariant.1 in (
      λ text. c.in_ok-new.ensures.added (drop i names) c.loop-i.invariant.0 text ∙ ap (list_any (same_text text)) front,
      still_distinct names (i - 1) name below c.index-names-at.is new rest,
      omega arith,
    )
