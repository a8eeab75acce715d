use Rattle.std.proofs.Common.{◌≡◌, ◌+◌, ◌++◌, ◌∷◌, [], take, vec_len, sym, ap, ◌∙◌, arith}
use Rattle.sql_lex.specs.Written.{doubled}
use Rattle.sql_lex.proofs.Quotes.{kept_more, quoted_begins, quoted_goes_on, quoted_ends}
use Rattle.std.proofs.lemmas.List.{take_at}
use Rattle.sql_lex.proofs.write.put_quoted.Goals as goal

pub pieces-init : goal.pieces-init
pieces-init c = record {
  whole = quoted_begins c.args.quote c.args.text.now c.args.out.now.items c.push.new.self.items c.in_ok-push.ensures.items;
  kept = rw c.in_ok-push.ensures.items (take_at c.args.out.now.items (c.args.quote ∷ []) (vec_len c.args.out.now) (sym c.args.out.now.ok.0));
  short = omega arith;
}

pub overflow_add-len : goal.overflow_add-len
overflow_add-len c = let high = c.in-Some.ensures.0.high in let short = c.pieces.invariant.short in omega arith

pub pieces-preserved : goal.pieces-preserved
pieces-preserved c =
    let piece : c.extend_from_slice.new.self.items ≡ c.pieces.out.items ++ take (c.in-Some.len + 1) c.pieces.rest.now = c.in_ok-extend_from_slice.ensures.items ∙ ap (λ p. c.pieces.out.items ++ p) c.split_at.ensures.front in
    let on = quoted_goes_on c.args.quote c.in-Some.len c.pieces.rest.now c.pieces.out.items c.extend_from_slice.new.self.items c.push-in-Some.new.self.items c.in-Some.ensures piece c.in_ok-push-2.ensures.items in
    record {
      whole = ap (λ more. c.push-in-Some.new.self.items ++ (doubled c.args.quote more ++ c.args.quote ∷ [])) c.split_at.ensures.back ∙ on ∙ c.pieces.invariant.whole;
      kept = rw (c.in_ok-push-2.ensures.items, piece) (kept_more (vec_len c.args.out.now) c.args.out.now.items (c.pieces.out.items ++ take (c.in-Some.len + 1) c.pieces.rest.now) (c.args.quote ∷ []) c.args.out.now.ok.0
          (kept_more (vec_len c.args.out.now) c.args.out.now.items c.pieces.out.items (take (c.in-Some.len + 1) c.pieces.rest.now) c.args.out.now.ok.0 c.pieces.invariant.kept));
      short = let short = c.pieces.invariant.short in omega (arith, c.split_at.ensures.back_len);
    }

pub returns-clause-ok : goal.returns-clause-ok
returns-clause-ok c =
    quoted_ends c.args.quote c.pieces.rest.now c.pieces.out.items c.extend_from_slice-2.new.self.items c.push-2.new.self.items c.in_default.ensures c.in_ok-extend_from_slice-2.ensures.items c.in_ok-push-3.ensures.items ∙ c.pieces.invariant.whole
