-- The lexemes so far are those of the tokens so far.
use Rattle.std.proofs.Common.{◌≡◌, map, take}
use Rattle.cat_model.specs.Lexemes.{lexeme_of}
use Rattle.stmt_refs.specs.Said.{said}
use Rattle.stmt_refs.proofs.lexeme.all_said.Given as goal

abbrev pub invariant-loop-token : goal.invariant-loop-token
invariant-loop-token l = map said l.lexemes.items ≡ map (lexeme_of l.text) (take l.token-index l.tokens)
