use Rattle.std.proofs.Common.{refl, arith}
use Rattle.std.proofs.lemmas.Bool.{eqb-true}
use Rattle.row_fields.proofs.Pieces.{null_first, null_then_tab}
use Rattle.row_fields.proofs.plain.is_null_first.Goals as goal

pub returns-in-len2-clause-piece : goal.returns-in-len2-clause-piece
returns-in-len2-clause-piece c = λ yes. (null_first c.args.rest.now (omega arith) (c.spell_null.ensures.first yes) (c.spell_null.ensures.second yes)).0

pub returns-then-spell_null-clause-piece : goal.returns-then-spell_null-clause-piece
returns-then-spell_null-clause-piece c = λ yes.
    (null_then_tab c.args.rest.now c.in-len3-up.len_at_least (c.if-spell_null.ensures.first refl) (c.if-spell_null.ensures.second refl) (eqb-true _ _ yes)).0
