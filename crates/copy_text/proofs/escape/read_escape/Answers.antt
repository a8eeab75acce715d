use Rattle.std.proofs.Common.{sym, ◌∙◌, inl, inr}
use Rattle.std.proofs.lemmas.Bool.{eqb-true, eqb-false}
use Rattle.copy_text.proofs.EscapeLemmas.{is_octal, is_hexadecimal, is_letter}
use Rattle.copy_text.proofs.escape.read_escape.Goals as goal
use Rattle.copy_text.proofs.escape.read_escape.Goals.{else-behind-eq120-via-then-behind-eq120+else-not-is_empty-2, else-behind-eq120-via-else-behind-eq120}

pub returns-then-not-is_empty-clause-value : goal.returns-then-not-is_empty-clause-value
returns-then-not-is_empty-clause-value c =
    let octal = c.digits_at_front-octal in
    is_octal c.args.behind.now octal.result.now c.byte_of.result octal.ensures.value
    (eqb-false _ _ (sym c.is_empty.ensures ∙ c.if-not-is_empty.true)) c.byte_of.ensures

pub returns-then-not-is_empty-2-clause-value : goal.returns-then-not-is_empty-2-clause-value
returns-then-not-is_empty-2-clause-value c =
    let octal = c.digits_at_front-octal in
    let hexadecimal = c.digits_at_front-hexadecimal in
    is_hexadecimal c.args.behind.now octal.result.now hexadecimal.result.now c.byte_of-then-not-is_empty-2.result octal.ensures.value
    (eqb-true _ _ (sym c.is_empty.ensures ∙ c.if-not-is_empty.false)) c.if-behind-eq120.true hexadecimal.ensures.value
    (eqb-false _ _ (sym c.is_empty-then-behind-eq120.ensures ∙ c.if-not-is_empty-2.true)) c.byte_of-then-not-is_empty-2.ensures

pub returns-clause-value : goal.returns-clause-value
returns-clause-value c =
    let octal = c.digits_at_front-octal in
    let hexadecimal = c.digits_at_front-hexadecimal in
    is_letter c.args.behind.now octal.result.now hexadecimal.result.now c.letter_byte.result c.requires octal.ensures.value
    (eqb-true _ _ (sym c.is_empty.ensures ∙ c.if-not-is_empty.false)) hexadecimal.ensures.value
    (elim c.else-behind-eq120.branch [
      | else-behind-eq120-via-then-behind-eq120+else-not-is_empty-2 w ↦ inr (eqb-true _ _ (sym w.is_empty-then-behind-eq120.ensures ∙ w.if-not-is_empty-2.false))
      | else-behind-eq120-via-else-behind-eq120 w ↦ inl w.if-behind-eq120.false
    ])
    c.letter_byte.ensures
