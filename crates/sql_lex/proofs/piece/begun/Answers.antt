use Rattle.std.proofs.Common.{◌≡◌, ◌+◌, true, false, drop, rules, ◌∙◌}
use Rattle.sql_lex.specs.Ends.{escape_end, comment_end}
use Rattle.sql_lex.specs.Pieces.{begun}
use Rattle.sql_lex.proofs.Scans.{two_on}
use Rattle.sql_lex.proofs.piece.begun.Goals as goal

pub returns-then-stands : goal.returns-then-stands
unfolding begun
returns-then-stands c =
    let end : c.escape_end.result ≡ escape_end false true (c.args.at + 2) (drop 1 (drop (c.args.at + 1) c.args.text.now)) =
    c.escape_end.ensures.end ∙ two_on (escape_end false true) c.args.text.now c.args.at in
    search rules

pub returns-then-stands-3 : goal.returns-then-stands-3
unfolding begun
returns-then-stands-3 c =
    let end : c.comment_end.result ≡ comment_end 1 0 (c.args.at + 2) (drop 1 (drop (c.args.at + 1) c.args.text.now)) =
    c.comment_end.ensures.end ∙ two_on (comment_end 1 0) c.args.text.now c.args.at in
    search rules
