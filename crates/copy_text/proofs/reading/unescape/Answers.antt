use Rattle.std.proofs.Common.{◌≡◌, ◌<◌, sym, ap, ◌∙◌, arith, length, ◌++◌, List, ℕ}
use Rattle.std.proofs.lemmas.Bool.{eqb-true, eqb-false}
use Rattle.copy_text.proofs.EscapeLemmas.{decode_open, ends_open, decode_more, ends_more, decode_plain, ends_plain}
use Rattle.copy_text.proofs.reading.unescape.Goals as goal

pub returns-then-is_empty-clause-bytes : goal.returns-then-is_empty-clause-bytes
returns-then-is_empty-clause-bytes c =
    let found = c.in-Some.ensures in
    let ended = eqb-true _ _ (sym c.is_empty.ensures ∙ c.if-is_empty.true) in
    let step = decode_open c.loop-at.bytes.items c.loop-at.rest.now c.in-Some.at c.split_at-in-Some.result.1.now found.0.high found.0.before found.1 c.split_at-in-Some.ensures.back ended in
    rw (c.in_ok-extend_from_slice.ensures.items, c.split_at.ensures.front) (step ∙ c.loop-at.invariant.0)

pub returns-then-is_empty-clause-open : goal.returns-then-is_empty-clause-open
returns-then-is_empty-clause-open c =
    let found = c.in-Some.ensures in
    let ended = eqb-true _ _ (sym c.is_empty.ensures ∙ c.if-is_empty.true) in
    ends_open c.loop-at.rest.now c.in-Some.at c.split_at-in-Some.result.1.now found.0.high found.0.before found.1 c.split_at-in-Some.ensures.back ended ∙ c.loop-at.invariant.1

pub loop-at-preserved : goal.loop-at-preserved
loop-at-preserved c =
    let found = c.in-Some.ensures in
    let rest = c.loop-at.rest.now in
    let behind = c.split_at-in-Some.result.1.now in
    let none_left : length behind ≡ 0 → ⊥ = eqb-false _ _ (sym c.is_empty.ensures ∙ c.if-is_empty.false) in
    let some : 0 < length behind = omega arith in
    let read = c.read_escape-byte.ensures.value in
    let bytes = decode_more c.loop-at.bytes.items rest c.in-Some.at c.read_escape-byte.result.0 c.read_escape-byte.result.1 behind found.0.high found.0.before found.1 c.split_at-in-Some.ensures.back read in
    let ends = ends_more rest c.in-Some.at c.read_escape-byte.result.0 c.read_escape-byte.result.1 behind found.0.high found.0.before found.1 c.split_at-in-Some.ensures.back some read in (
      rw (c.in_ok-push.ensures.items, c.in_ok-extend_from_slice.ensures.items, c.split_at.ensures.front, c.split_at-in-Some-2.ensures.back) (bytes ∙ c.loop-at.invariant.0),
      rw c.split_at-in-Some-2.ensures.back (ends ∙ c.loop-at.invariant.1),
    )

pub returns-clause-bytes : goal.returns-clause-bytes
returns-clause-bytes c =
    rw (c.in_ok-extend_from_slice-2.ensures.items) (ap (λ (xs : List ℕ). c.loop-at.bytes.items ++ xs) (sym (decode_plain c.loop-at.rest.now c.in_default.ensures)) ∙ c.loop-at.invariant.0)

pub returns-clause-open : goal.returns-clause-open
returns-clause-open c = ends_plain c.loop-at.rest.now c.in_default.ensures ∙ c.loop-at.invariant.1
