-- What the proofs of the grammar start from: of std, the tokens, the catalogue, and the definitions of parts.
pub use Rattle.ddl_parts.specs.{declared.runs.Bracket.Bracket, declared.runs.Spot.Spot, Collecting.Collected, Collecting.collected_by, Collecting.nothing_more, Collecting.preceded, Expressions.Nest, Expressions.are_not_null, Expressions.nested, Laws.Apart, Laws.Avoids, Laws.Begins, Laws.Example, Laws.Lawful, Laws.Like, Laws.Named, Laws.Stopped, Leaves.digits_of, Leaves.is_literal_kind, Leaves.is_name_kind, Leaves.literal, Leaves.name, Leaves.number_first, Leaves.qualified, Lexemes.Lexeme, Lexemes.is_sign_kind, Lexemes.never, Lexemes.source, Lexemes.spelled, Lexemes.start_of, Lexemes.starts, Lists.comma, Lists.item_begins, Lists.item_of, Lists.listed, Lists.listing, Parts.Branch, Parts.Items, Parts.Machine, Parts.Many, Parts.Part, Parts.Reading, Parts.Runs, Parts.Stop, Parts.branch, Parts.choose, Parts.choose_at, Parts.ends, Parts.first_by, Parts.many, Parts.mark, Parts.no_more, Parts.nothing, Parts.one, Parts.one_at, Parts.one_more, Parts.one_of, Parts.optional, Parts.passes, Parts.run, Parts.runs_of, Parts.scan_step, Parts.seen, Parts.seen_at, Parts.stop, Parts.then_at, Parts.wider, Parts.◌>>=◌, Parts.◌then◌, Parts.◌▸◌, Parts.◌◂◌, Pieces.Fails, Pieces.GivesPart, Pieces.GivesRun, Pieces.ended, Pieces.lexeme_of, Pieces.lexemes, Pieces.value_of, Shortened.IsTooLong, Shortened.path_of, Shortened.short_word, Shortened.shortened, Shortened.whole_path, Types.if_name, Types.is_long_by, Types.is_number_kind, Types.is_word_kind, Types.named, Types.stop_words, Types.typing, Texts.IsDefaultText, Texts.IsInt, Texts.IsPath, Texts.IsRunText, Texts.IsTextOf, Texts.IsType, Texts.is_int, Texts.semicolon, Texts.IsBracketText, Texts.IsExpressionText}
pub use Rattle.std.proofs.Common.{Bool, Err, IfOk, List, None, Ok, Option, Result, Some, [], ap, append-nil, append_assoc, arith, bytes_eq, codes, cond, drop, eq-eqb, eqb, eqb-true, false, get_or, inl, inr, is_ok, is_some, leb-true, length, length-append, ltb-true, map, min, nat_lt, negsuc, not, option_and_then, pos, refl, reverse, slice_index, slice_index_or, slice_range, subst, suc, sym, take, true, zero, ℕ, ℤ, ◌&&◌, ◌++◌, ◌+◌, ◌-◌, ◌<◌, ◌==◌, ◌^◌, ◌||◌, ◌∙◌, ◌∷◌, ◌≡◌, ◌≢◌, ◌≤◌, ◌⊎◌}
pub use Rattle.std.proofs.{Math.Seq.drop-append-add, Math.Seq.drop-append_seam, Math.Seq.drop-length, Math.Utf8.low_scalar, Math.Utf8.scalar, lemmas.Bool.and_from, lemmas.Bool.and_parts, lemmas.Bool.cases_Bool, lemmas.Bool.cond-false, lemmas.Bool.lt-ltb, lemmas.Bool.ne_eqb, lemmas.Bool.not-false, lemmas.Bool.not-true, lemmas.Bool.or_cases, lemmas.Bool.or_left, lemmas.Bool.or_parts, lemmas.Bool.or_right, lemmas.Bool.Decides.nat_tests, lemmas.Fmt.IsAscii-decimal, lemmas.Fmt.IsAscii-from_digits, lemmas.Fmt.decimal_is_IsNumeral, lemmas.List.drop-take, lemmas.List.drop_all, lemmas.List.drop_at, lemmas.List.length-drop, lemmas.List.length-map, lemmas.List.length-take, lemmas.List.take_at, lemmas.List.take_rest, lemmas.List.Concat.flat_map-cons, lemmas.List.Elements.All-from_recursion, lemmas.List.Elements.recursion_from_All, lemmas.List.Folds.drop_split, lemmas.List.Folds.list_all-append, lemmas.Result.err_from_is_err_and, lemmas.Slice.Eq.bytes_eq-Decides, lemmas.Str.IsUtf8-append, lemmas.Str.IsUtf8-from_ascii, lemmas.Str.IsUtf8-from_is_utf8, lemmas.Str.IsUtf8-nil, lemmas.Str.encode_ascii, lemmas.Str.is_utf8-from_IsUtf8, lemmas.Str.Parse.digit_from_value, Math.Nat.add_assoc}
pub use Rattle.std.specs.{Char.digit_value, Char.to_ascii_lowercase, Fmt.decimal, Fmt.signed_decimal, List.AllByRecursion, List.flat_map, List.list_all, List.list_any, List.onto_first, List.prefix_len, Option.ok_or, Str.IsUtf8, Str.str_eq_ignore_ascii_case, Str.str_to_ascii_lowercase, Str.Parse.AllDigits, Str.Parse.ParsesUnsigned, Str.Parse.digits_value, Str.Parse.without_leading_plus}
unfoldable pub use Rattle.std.proofs.Math.Utf8.{encode}
unfoldable pub use Rattle.std.specs.Str.{chars, is_utf8}
pub use Rattle.copy_text.proofs.LineLemmas.{len_of, lines_nil}
pub use Rattle.copy_text.specs.{Lines.IsNextLine, Lines.before_end_mark, Lines.data_lines, Marks.end_mark, Marks.newline, Texts.IsName, Texts.IsText}
unfoldable pub use Rattle.copy_text.specs.Lines.{line_at, lines}
pub use Rattle.sql_lex.proofs.{Passing.lies_behind, Passing.next_at_end, PieceLaws.digit_free, PieceLaws.quoted_is, PieceLaws.word_free, TextLaws.next_found, TextLaws.piece_word, WriteLaws.gap_is_passed, WriteLaws.literal_is_read, WriteLaws.name_is_read, WriteLaws.spelling_is_read}
pub use Rattle.sql_lex.specs.{Answers.Between, Answers.IsNext, Answers.gap, Meaning.unless, Next.LiesBehind, ReadBack.IsTokenAt, ReadBack.token_at, Spelling.AreDigits, Spelling.IsGap, Spelling.IsMetaLine, Spelling.IsWord, Spelling.Spells, declared.fault.LexFault.LexFault, declared.token.Token.Token, declared.token.TokenKind.TokenKind, declared.token.TokenKind.TheVariants.Literal, declared.token.TokenKind.TheVariants.MetaLine, declared.token.TokenKind.TheVariants.Number, declared.token.TokenKind.TheVariants.QuotedName, declared.token.TokenKind.TheVariants.Sign, declared.token.TokenKind.TheVariants.Word}
unfoldable pub use Rattle.sql_lex.specs.{Bytes.begins_word, Bytes.in_line, Bytes.in_word, Bytes.is_blank, Bytes.is_digit, Bytes.marks_escapes, Bytes.next_is, Ends.comment_end, Ends.escape_end, Ends.fraction_end, Ends.number_end, Ends.quote_end, Ends.run_end, Meaning.inside, Meaning.is_keyword_of, Meaning.literal_of, Meaning.name_of, Meaning.spelling, Meaning.undoubled, Next.next_token_of, Next.next_within, Pieces.begins_line, Pieces.begun, Pieces.closed, Pieces.in_utf8, Pieces.piece_at, ReadBack.written_kind, Reserved.is_reserved, Spelling.goes_on, Spelling.goes_on_behind_dot, Written.begins_bare, Written.doubled, Written.is_bare, Written.quoted, Written.written_literal, Written.written_name}
pub use Rattle.cat_model.specs.{Grants.has_rights, Grants.no_rights, Grants.schema_rights, Grants.sequence_rights, Grants.table_rights, declared.constraint.Encoding.Encoding, declared.constraint.Encoding.TheVariants.Utf8, declared.grant.Granted.Granted, declared.grant.Rights.Rights, declared.object.QName.QName, declared.stmt.Stmt.Stmt, declared.table.CheckDef.CheckDef, declared.table.ColumnDef.ColumnDef, declared.type_name.TypeName.TypeName}
unfoldable pub use Rattle.ddl_parts.specs.{Collecting.collected, Collecting.collected_within, Expressions.default_and_null, Expressions.default_text, Expressions.ends_run, Expressions.expression, Expressions.nest_done, Expressions.nest_step, Expressions.without_not_null, Leaves.is_literal, Leaves.is_name, Leaves.literal_value, Leaves.name_in, Leaves.name_value, Leaves.text_in, Lexemes.is_sign, Lexemes.is_word, Parts.many_at, Parts.scan, Pieces.are_joined, Pieces.are_joined_from, Pieces.are_sound, Pieces.is_sound, Shortened.path_in, Shortened.path_value, Types.is_number, Types.is_type_word, Types.type_done, Types.type_goes_on, Types.type_long, Types.type_of, Types.type_part, Types.type_step, Numbers.count_value, Numbers.digits_below, Numbers.whole_number}
