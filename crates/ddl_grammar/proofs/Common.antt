-- What the proofs of this crate start from.
pub use Rattle.ddl_parts.proofs.Common.{◌≡◌, true, false, List, Some, codes, ℕ, arith, Ok, Lexeme, Part, seen, Rights, Granted, ◌≢◌, suc, ◌+◌, ◌-◌, ◌<◌, ◌≤◌, min, Bool, cond, eqb, [], ◌∷◌, ◌++◌, length, take, drop, Result, refl, sym, ap, ◌∙◌, inl, inr, append_assoc, append-nil, length-append, slice_range, IfOk, cases_Bool, cond-false, take_rest, length-drop, length-take, drop_all, bytes_eq-Decides, newline, end_mark, before_end_mark, IsNextLine, len_of, lines_nil, onto_first, prefix_len, AllByRecursion, drop-append_seam, drop-append-add, flat_map-cons, data_lines, not, ◌&&◌, map, Option, Err, subst, ◌==◌, list_all, to_ascii_lowercase, and_parts, and_from, nat_tests, IsName, TokenKind, unless, Stmt, is_name_kind, lexeme_of, ◌||◌, None, not-true, not-false, source, starts, ◌then◌, Many, no_more, many, ◌◂◌, Lawful, Apart, Avoids, comma, qualified, literal, Literal, short_word, path_of, CheckDef, QName, listed, or_parts, never, Utf8, IsPath, ℤ, zero, ◌⊎◌, Token, LexFault, is_sign_kind, start_of, lexemes, value_of, Collected, collected_by, lies_behind, Stop, Reading, shortened, Stopped, or_right, list_all-append, IsUtf8-append, IsUtf8-from_is_utf8, is_utf8-from_IsUtf8, slice_index, IsUtf8, IsMetaLine, token_at, next_at_end, spelling_is_read, spelled, nothing_more, preceded, MetaLine, IsTokenAt, slice_index_or, err_from_is_err_and}
unfoldable pub use Rattle.ddl_parts.proofs.Common.{is_word, name_value, line_at, lines, in_line, inside, undoubled, name_of, spelling, collected, is_utf8, chars, encode, is_blank, is_digit, begins_word, in_word, marks_escapes, next_is, run_end, quote_end, escape_end, comment_end, fraction_end, number_end, begins_line, closed, begun, in_utf8, piece_at, next_within, next_token_of, name_in, collected_within, literal_of, is_keyword_of, is_sign, text_in, literal_value, is_name, is_literal, scan, many_at, ends_run, nest_step, nest_done, expression, default_text, default_and_null, without_not_null, count_value, digits_below, whole_number, type_step, type_done, type_long, is_type_word, is_number, type_of, type_part, path_in, path_value, quoted, doubled, written_name, written_literal, goes_on, written_kind, are_joined, are_joined_from}
pub use Rattle.ddl_parts.proofs.{Slices.seam, Basics.name_in_is, Basics.a_word, Basics.a_sign, Basics.words_apart, Basics.gives, Basics.some_left}
pub use Rattle.ddl_parts.specs.{declared.pieces.Piece.Piece, declared.runs.Spot.TheVariants.Inside}
pub use Rattle.ddl_spelling.specs.Paths.{joined}
unfoldable pub use Rattle.ddl_spelling.specs.{Sequences.usual_min, Sequences.usual_max, Sequences.clauses_text, Paths.path, Tables.domain_text, Tables.check_text, RightsText.grant_text, RightsText.revoke_text, Roles.attributes_text, Roles.member_text, Roles.connect_text}
pub use Rattle.ddl_grammar.specs.{declared.rights.Right.Right, declared.rights.Right.TheVariants.Select, declared.rights.Right.TheVariants.Usage, declared.rights.Right.TheVariants.Insert, declared.rights.Right.TheVariants.References, declared.rights.Right.TheVariants.Delete, declared.rights.Right.TheVariants.Trigger, declared.rights.Right.TheVariants.Truncate, declared.rights.Right.TheVariants.Update, declared.rights.Right.TheVariants.Create, declared.rights.Kind.Kind, declared.rights.Wanted.Wanted, RightsGrammar.only, RightsGrammar.rights_on, RightsGrammar.object}
unfoldable pub use Rattle.ddl_grammar.specs.{OnlyGrammar.only_value, OnlyGrammar.other_value, TableGrammar.column_name_value, RightsGrammar.wanted_first}
