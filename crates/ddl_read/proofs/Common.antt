-- What the proofs of this crate start from.
pub use Rattle.ddl_scripts.proofs.Common.{◌≡◌, ℕ, ◌<◌, ◌≤◌, true, List, length, arith, slice_index_or, Piece, some_left, suc, ◌+◌, ◌-◌, false, [], ◌∷◌, ◌++◌, Option, Some, None, Result, Ok, Err, refl, ap, ◌∙◌, append_assoc, append-nil, LexFault, Token, Stmt, lexeme_of, lexemes, value_of, Collected, collected_by, Reading, sym, err_from_is_err_and}
unfoldable pub use Rattle.ddl_scripts.proofs.Common.{are_joined, are_joined_from, next_token_of, spelling, is_word, is_sign, collected, collected_within}
pub use Rattle.ddl_scripts.specs.Reading.{Whole, whole, whole_of, stray_in, told, line_at, line_said, statements_at, listed, first_start, no_more, statements_by}
unfoldable pub use Rattle.ddl_scripts.specs.Reading.{begins_statement, stray, statement_of, statements_within, statements_of}
