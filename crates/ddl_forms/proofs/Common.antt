-- What the proofs of this crate start from.
pub use Rattle.ddl_parts.proofs.Common.{◌≡◌, Bool, true, false, not, ◌&&◌, List, [], ◌∷◌, ◌++◌, refl, arith, and_parts, Lexeme, Part, ℕ, zero, suc, ◌+◌, ◌<◌, ◌≤◌, ◌||◌, length, length-append, append_assoc, append-nil, Some, None, Ok, sym, ap, ◌∙◌, ◌==◌, ◌⊎◌, inl, inr, slice_range, take_at, drop_at, not-true, TokenKind, next_at_end, IsTokenAt, spelled, lexeme_of, lexemes, Collected, semicolon, cond, nat_lt, lt-ltb, nat_tests, ◌-◌, take, drop, Option, Result, Err, subst, or_parts, cases_Bool, drop_split, Word, QuotedName, Literal, Number, Sign, MetaLine, Token, LexFault, LiesBehind, Spells, AreDigits, IsGap, Between, gap, IsNext, next_found, piece_word, quoted_is, word_free, digit_free, lies_behind, spelling_is_read, gap_is_passed, is_sign_kind, collected_by, nothing_more, preceded, add_assoc, list_all, IsUtf8, scalar, low_scalar, and_from, list_all-append, IsUtf8-nil, IsUtf8-append, IsUtf8-from_is_utf8, is_utf8-from_IsUtf8, encode_ascii, ◌≢◌, list_any, AllByRecursion, str_to_ascii_lowercase, str_eq_ignore_ascii_case, bytes_eq-Decides, ne_eqb, recursion_from_All, IsWord, name_is_read, literal_is_read, IsName, option_and_then, drop-length, source, start_of, Machine, run, Runs, name, Items, Many, no_more, one, many, mark, seen, choose, nothing, ◌then◌, QName, never, runs_of, stop, wider, ◌▸◌, ◌◂◌, literal, qualified, IsPath, IsRunText, one_more, passes, IsTextOf, nested, is_ok, TypeName, typing, if_name, named, IsType, codes, Nest, are_not_null, IsDefaultText, ◌^◌, ℤ, pos, negsuc, digit_value, decimal, signed_decimal, AllDigits, decimal_is_IsNumeral, IsAscii-decimal, digit_from_value, IsUtf8-from_ascii, is_int, IsInt, token_at, path_of, flat_map, starts, before_end_mark, lines_nil, IsExpressionText, IsBracketText, map, IsText, ColumnDef, CheckDef, item_of, listing, listed, or_right, Rights, Granted, no_rights, has_rights, Encoding, Utf8, Stmt, comma}
unfoldable pub use Rattle.ddl_parts.proofs.Common.{next_token_of, spelling, is_sign, collected, collected_within, is_utf8, is_blank, is_digit, begins_word, in_word, marks_escapes, next_is, goes_on, goes_on_behind_dot, chars, encode, in_line, name_of, is_keyword_of, is_reserved, begins_bare, is_bare, quoted, written_name, written_literal, written_kind, is_word, name_in, name_value, text_in, literal_value, nest_step, nest_done, ends_run, expression, default_text, type_step, type_done, is_type_word, is_number, type_of, type_part, default_and_null, without_not_null, is_sound, path_in, path_value, is_literal}
pub use Rattle.ddl_parts.proofs.{Basics.and_false, Slices.drop_twice, Slices.seam, Slices.between_low, Basics.name_in_is, Basics.run_none, Basics.passes_true, Basics.words_apart, Basics.nest, Slices.token_sound}
pub use Rattle.ddl_parts.specs.{declared.pieces.Piece.Piece, declared.types.TypeSpot.TypeSpot, declared.types.TypeSpot.TheVariants.Begin, declared.types.TypeSpot.TheVariants.Path, declared.runs.Spot.Spot, declared.runs.Spot.TheVariants.First, declared.runs.Spot.TheVariants.LaterNot, declared.runs.Spot.TheVariants.Closed}
pub use Rattle.std.proofs.lemmas.Bool.{ltb-true}
pub use Rattle.ddl_spelling.specs.{Paths.joined, Paths.only_if, Keys.rest_text, Tables.given_default, Tables.table_lines, Sequences.type_words, Sequences.min_text, Sequences.max_text, Roles.flag_text, Roles.limit_text, Roles.given_literal, RightsText.remark_text, RightsText.is_all, RightsText.granted_words, RightsText.granted_name, RightsText.grantee_text}
unfoldable pub use Rattle.ddl_spelling.specs.{Paths.path, Tables.check_text, Views.space_before, Tables.column_text, Sequences.usual_min, Sequences.usual_max, Sequences.bound, RightsText.with_commas, RightsText.right_list, RightsText.rights_text}
