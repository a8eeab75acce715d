-- What the proofs of this crate start from.
pub use Rattle.ddl_forms.proofs.Common.{◌≡◌, ℕ, Bool, List, [], ◌∷◌, ◌++◌, append-nil, Result, Ok, Err, refl, sym, ap, subst, ◌∙◌, arith, IsUtf8, and_parts, IsUtf8-append, IsUtf8-from_is_utf8, token_at, IsName, QName, Lexeme, qualified, lexemes, token_sound, path_of, IsPath, false, append_assoc, inl, inr, codes, true, cond, flat_map, AllByRecursion, source, spelled, starts, is_sign_kind, name, seen, ◌then◌, ◌▸◌, ◌◂◌, rest_text, joined, nested, IsExpressionText, IsBracketText, IsDefaultText, Part, Items, map, Option, Some, None, ◌⊎◌, IsText, ColumnDef, CheckDef, many, literal, item_of, listing, only_if, IsType, given_default, table_lines, listed, ℤ, not, ◌&&◌, ◌||◌, signed_decimal, never, type_words, min_text, max_text, Many, no_more, str_to_ascii_lowercase}
unfoldable pub use Rattle.ddl_forms.proofs.Common.{is_utf8, chars, encode, written_name, written_kind, is_sign, literal_value, is_sound, collected, path, path_in, path_value, is_keyword_of, name_of, is_word, name_value, name_in, expression, check_text, space_before, is_reserved, written_literal, is_literal, column_text, usual_min, usual_max, bound}
pub use Rattle.ddl_forms.proofs.{Kept.have_come, Standing.Stood, Standing.placed, Standing.NoSemicolon, Standing.collects_all, Tokens.name_token, Tokens.sign_token, Tokens.Gap, Tokens.none, Tokens.a_name, Tokens.name_means, Tokens.name_no_sign, Written.Written, Written.literal_said, Written.path_as, Written.AllFit, Written.items_pieces, Behind.Words, Behind.Safe, Behind.admits, Putting.joined-append, Putting.Follows, Putting.IsPut, Putting.Yields, RunTexts.words, RunTexts.run_read, Tokens.space, Tokens.newline, Tokens.spaced, Tokens.indented, Tokens.no_key, Tokens.value_name, Written.Says, Written.opening_as, Written.closing_as, Written.comma_as, Written.name_as, Written.then_as, Written.lead_as, Written.close_as, Written.shown_as, Written.pieces_as, Written.choose_as, Written.nothing_as, Written.alike_as, Written.leaf_as, Written.dot_as, Written.plain_as, Written.signs, Written.word_as, Written.mark_as, Written.literal_as, Written.word_then, Written.end_as, Written.seen_as, Written.heard_as, Written.run_put, Written.word_said, Written.name_said, Written.is_as, Written.path_same, Expressions.nested_plain, Numbers.number_as, Tokens.indent, Tokens.tabbed, Written.like_as, Written.maybe_as, Written.OptionFit, Written.many_as, Written.after_as, Putting.followed, Putting.same_text, Putting.put_as, Putting.none_put, Putting.then_put, Behind.then_opens, Behind.Opens, Behind.admitted, Written.meets, Behind.covers, Written.not_closed, Kept.AllCame, Kept.came_front, Kept.came_behind}
unfoldable pub use Rattle.ddl_forms.proofs.{Tokens.is_single, Written.is_key, Written.is_bare_word, Expressions.expression_as, Expressions.default_as}
pub use Rattle.ddl_grammar.specs.{ValueGrammar.literal_path, Columns.further, Columns.names_of, Writable.IsRest, Writable.AreColumns, Writable.IsCheck, Writable.IsColumn, Writable.IsDefault, Writable.IsSequence, Respelling.IsInt, Clauses.check_of, OnlyGrammar.only_name, TableGrammar.Attributes, TableGrammar.not_null, TableGrammar.given, TableGrammar.checking, TableGrammar.column_name, TableGrammar.column_of, TableGrammar.element_at, TableGrammar.elements, TableGrammar.more_elements, TableGrammar.parted, declared.sequences.Clauses.Clauses, SequenceGrammar.no_clauses, SequenceGrammar.with_clause, SequenceGrammar.with_clauses, SequenceGrammar.clausing, SequenceGrammar.bound_or}
pub use Rattle.ddl_grammar.proofs.Meanings.{column_name_is}
unfoldable pub use Rattle.ddl_grammar.specs.{Columns.columns, Rests.deferral, Rests.action, Rests.on_delete, Rests.reactions, Rests.key_rest, Rests.foreign_rest, Clauses.named_check, Clauses.equals_or_to, CopyGrammar.some_columns, RelationGrammar.bracketed, ValueGrammar.truth, OnlyGrammar.only_value, OnlyGrammar.other_value, OnlyGrammar.other_path, TableGrammar.null_first, TableGrammar.default_first, TableGrammar.attributes, TableGrammar.typed, TableGrammar.domain_rest, TableGrammar.column_name_value, TableGrammar.column, TableGrammar.element, TableGrammar.last_element, TableGrammar.table_elements, SequenceGrammar.clause_behind, SequenceGrammar.begins_clause, SequenceGrammar.sequence_clauses, SequenceGrammar.sequence_of, SequenceGrammar.sequence}
unfoldable pub use Rattle.ddl_grammar.proofs.Common.{clauses_text, domain_text}
pub use Rattle.ddl_forms.specs.Paths.{some_listed}
pub use Rattle.ddl_forms.specs.Tables.{in_lines}
