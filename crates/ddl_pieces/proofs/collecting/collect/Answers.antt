use Rattle.ddl_pieces.proofs.Common.{Ok, sym, ap, ◌∙◌}
use Rattle.ddl_pieces.proofs.Collects.{all_left, at_end, at_fault, at_semicolon, at_token, joined_whole, none_so_far, one_more}
use Rattle.ddl_pieces.proofs.collecting.collect.Goals as goal

pub tokens-init : goal.tokens-init
tokens-init c = rw c.new-pieces.ensures.items (record { left = all_left c.args.text.now c.args.from; so_far = none_so_far c.args.text.now c.args.from c.requires })

pub returns-in-Ok-None-clause-exact : goal.returns-in-Ok-None-clause-exact
returns-in-Ok-None-clause-exact c = at_end _ _ _ _ c.tokens.invariant.left (sym c.in-Ok-None.ensures.exact ∙ ap Ok c.in-Ok-None.field-0-is)

pub returns-in-Err-clause-exact : goal.returns-in-Err-clause-exact
returns-in-Err-clause-exact c = at_fault _ _ _ _ _ c.tokens.invariant.left (sym c.in-Err.ensures.exact)

pub returns-then-is_sign_kind : goal.returns-then-is_sign_kind
returns-then-is_sign_kind c =
    let h = c.tokens.invariant in
    let next = sym c.in-Ok-Some.ensures.exact ∙ ap Ok c.in-Ok-Some.field-0-is in
    let s = one_more c.args.text.now c.args.from c.tokens.at c.tokens.pieces.items c.in-Ok-Some.token h.so_far next (rw c.in-Ok-Some.field-0-is at c.in-Ok-Some.ensures.within) in
    rw c.in_ok-push.ensures.items (record {
      exact = at_semicolon _ _ _ _ _ h.left next (sym c.is_sign_kind.ensures ∙ c.if-is_sign_kind.true);
      joined = joined_whole _ _ _ s.joined;
      sound = s.sound;
      within = (s.low, s.high);
      forward = s.forward;
    })

pub tokens-preserved : goal.tokens-preserved
tokens-preserved c =
    let h = c.tokens.invariant in
    let next = sym c.in-Ok-Some.ensures.exact ∙ ap Ok c.in-Ok-Some.field-0-is in
    let lies = rw c.in-Ok-Some.field-0-is at c.in-Ok-Some.ensures.within in
    rw c.in_ok-push.ensures.items (record {
      left = at_token _ _ _ _ _ h.left next (sym c.is_sign_kind.ensures ∙ c.if-is_sign_kind.false) lies;
      so_far = one_more _ _ _ _ _ h.so_far next lies;
    })
