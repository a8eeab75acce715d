use Rattle.std.proofs.Common.{true, false, Some, sym, ap, ◌∙◌}
use Rattle.row_texts.proofs.AllTokens.{if_all_collected}
use Rattle.row_texts.proofs.tokens.all_tokens.Goals as goal

pub returns-then-not-is_end : goal.returns-then-not-is_end
returns-then-not-is_end c =
    let r = c.in_ok-pieces.field-0 in
    sym (if_all_collected c.args.text.now r.pieces.items r.end r.fault false c.in_ok-pieces.ensures.exact (sym c.if-not-is_end.ensures))

pub returns : goal.returns
returns c =
    let r = c.in_ok-pieces.field-0 in
    ap (λ ts. Some ts) c.new.ensures
    ∙ sym (if_all_collected c.args.text.now r.pieces.items r.end r.fault true c.in_ok-pieces.ensures.exact (sym c.if-not-is_end.ensures))
