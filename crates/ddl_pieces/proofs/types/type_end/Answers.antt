use Rattle.ddl_pieces.proofs.Common.{sym, refl, lexeme_of, type_step, type_long}
use Rattle.ddl_pieces.proofs.{Scanning.at_token, Scanning.at_stop, TypeRuns.goes, TypeRuns.stays}
use Rattle.ddl_pieces.proofs.types.type_end.Goals as goal

pub returns-in-Err : goal.returns-in-Err
returns-in-Err c =
    let t = lexeme_of c.args.text.now c.in-Some.piece in
    let h = stays (type_step c.tokens.spot t) (type_long c.tokens.spot t) c.in-Err.long (rw c.in-Err.is at c.in_ok-next.ensures) in
    rw (c.end_of_type-in-Err.ensures, sym h.1) (at_stop _ _ _ _ _ _ _ _ c.tokens.invariant c.in-Some.ensures.read.0 h.0 refl)

pub tokens-preserved : goal.tokens-preserved
tokens-preserved c = at_token _ _ _ _ _ _ _ _ c.tokens.invariant c.in-Some.ensures.read.0 (goes _ _ _ (rw c.in-Ok.is at c.in_ok-next.ensures))
