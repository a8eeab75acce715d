-- What the proofs of this crate start from.
pub use Rattle.ddl_scripts.proofs.Common.{◌≡◌, Bool, true, false, ◌||◌, List, [], ◌∷◌, Some, None, refl, ap, codes, ℕ, arith, ◌++◌, append_assoc, Ok, Err, ◌∙◌, not, not-true, not-false, ◌==◌, Lexeme, source, starts, Part, ◌then◌, Many, no_more, many, ◌◂◌, Lawful, Apart, Avoids, comma, qualified, literal, a_word, a_sign, words_apart, names_of, TokenKind, Literal, Inside, short_word, path_of, Check, Owner, CheckDef, checking, parted, QName, literal_path, its_owner, one_more_check, domain_changed, no_clauses, with_clauses, listed, or_parts, never, suc, Option, sym, inl, inr, IsWritable, IsName, end_mark, Utf8, Stmt, Constraint, Primary, Unique, Foreign, TableChange, Default, Added, joined, IsPath, bound_or, ℤ, newline, zero, ◌+◌, Result, length, ◌-◌, ◌<◌, ◌≤◌, subst, append-nil, ◌⊎◌, Token, LexFault, Piece, is_sign_kind, start_of, lexeme_of, lexemes, value_of, gives, Collected, collected_by, semicolon, lies_behind, Stop, Reading, shortened, Stopped, and_parts, and_from, or_right, drop_all, list_all-append, IsUtf8-append, IsUtf8-from_is_utf8, is_utf8-from_IsUtf8, cond, length-append, slice_index, list_all, IsUtf8, IsMetaLine, token_at, next_at_end, spelling_is_read, spelled, is_name_kind, nothing_more, preceded, MetaLine, AreRows, AllWritable, IsTokenAt}
unfoldable pub use Rattle.ddl_scripts.proofs.Common.{is_utf8, chars, encode, is_keyword_of, name_of, literal_of, is_word, is_sign, name_in, name_value, is_name, is_literal, text_in, literal_value, columns, rest_goes_on, deferral, action, on_delete, reactions, key_rest, foreign_rest, whole_number, sequence_clauses, sequence_of, expression, nest_step, nest_done, ends_run, default_text, path_value, bracketed, attributes, typed, table_elements, truth, some_columns, created, altered_domain, altered, selected, setting, command, statement, quoted, doubled, written_name, written_literal, path, domain_text, check_text, grant_text, revoke_text, member_text, usual_min, usual_max, next_token_of, collected, collected_within, spelling, goes_on, written_kind, is_blank, in_line, next_is, begins_line, connect_text}
pub use Rattle.ddl_scripts.specs.{declared.located.Located.Located, declared.fault.DdlFault.DdlFault, MetaLines.Wrong, Reading.◌>>=◌, Reading.Whole, Reading.whole, Reading.whole_of, Reading.completed, Reading.line_in, Reading.line_fault, Reading.line_said, Reading.statements_at, Reading.first_start, Reading.fault_of, Reading.statements_by, Reading.fault_by, Readings.IsStatement, Readings.IsLine, Readings.line_token, Readings.Reads, Readings.all_read, Readings.one_read, Readings.line_read, Readings.IsLongThere, Readings.IsStuck, Readings.FailsAt, Readings.no_token, Readings.stuck, Readings.no_rows, Readings.bad_line, Readings.later, Readings.later_line, MetaLines.unknown, MetaLines.named, MetaLines.one_name, MetaLines.connected, Reading.with_rows, Spellings.spellings, Spellings.said}
pub use Rattle.ddl_scripts.proofs.RowTexts.{rows_bounds, rows_read_back, read_are_rows}
unfoldable pub use Rattle.ddl_scripts.specs.{MetaLines.meta_line, Reading.line_at, Reading.statement_of, Reading.statements_within, Reading.statements_of, MetaLines.stands_alone, MetaLines.name_alone, MetaLines.command_len, MetaLines.said_by, CopyRows.rows_behind}
pub use Rattle.ddl_grammar_laws.proofs.TableLaws.{named_check_is, checks_apart, typed_laws, attributes_end, sign_end, column_ends, elements_apart, named_check_free}
pub use Rattle.ddl_relation_texts.proofs.Common.{Gap, none, space, Written, dot_as, word_as, mark_as, name_as, path_as, then_as, end_as, seen_as, choose_as, a_name, name_no_sign, name_means, joined-append, Stood, placed, AllCame, have_come}
unfoldable pub use Rattle.ddl_relation_texts.proofs.Common.{is_key}
