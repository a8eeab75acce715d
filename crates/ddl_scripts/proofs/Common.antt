-- What the proofs of this crate start from.
pub use Rattle.ddl_grammar.proofs.Common.{◌≡◌, ◌≢◌, ℕ, suc, ◌+◌, ◌-◌, ◌<◌, ◌≤◌, min, Bool, cond, eqb, List, [], ◌∷◌, ◌++◌, length, take, drop, Result, refl, sym, ap, ◌∙◌, arith, inl, inr, append_assoc, append-nil, length-append, slice_range, IfOk, cases_Bool, cond-false, take_rest, length-drop, length-take, drop_all, bytes_eq-Decides, newline, end_mark, before_end_mark, IsNextLine, len_of, lines_nil, seam, false, Ok, onto_first, prefix_len, AllByRecursion, drop-append_seam, drop-append-add, flat_map-cons, data_lines, name_in_is, true, not, ◌&&◌, map, Option, Some, Err, subst, ◌==◌, list_all, to_ascii_lowercase, and_parts, and_from, nat_tests, IsName, TokenKind, unless, Stmt, Piece, is_name_kind, lexeme_of, ◌||◌, None, codes, not-true, not-false, Lexeme, source, starts, Part, ◌then◌, Many, no_more, many, ◌◂◌, Lawful, Apart, Avoids, comma, qualified, literal, a_word, a_sign, words_apart, Literal, Inside, short_word, path_of, CheckDef, QName, listed, or_parts, never, Utf8, joined, IsPath, ℤ, zero, ◌⊎◌, Token, LexFault, is_sign_kind, start_of, lexemes, value_of, gives, Collected, collected_by, lies_behind, Stop, Reading, shortened, Stopped, or_right, list_all-append, IsUtf8-append, IsUtf8-from_is_utf8, is_utf8-from_IsUtf8, slice_index, IsUtf8, IsMetaLine, token_at, next_at_end, spelling_is_read, spelled, nothing_more, preceded, MetaLine, IsTokenAt, slice_index_or, some_left, err_from_is_err_and}
unfoldable pub use Rattle.ddl_grammar.proofs.Common.{line_at, lines, in_line, inside, undoubled, name_of, spelling, name_value, collected, is_utf8, chars, encode, is_blank, is_digit, begins_word, in_word, marks_escapes, next_is, run_end, quote_end, escape_end, comment_end, fraction_end, number_end, begins_line, closed, begun, in_utf8, piece_at, next_within, next_token_of, name_in, collected_within, literal_of, is_keyword_of, is_word, is_sign, text_in, literal_value, is_name, is_literal, scan, many_at, ends_run, nest_step, nest_done, expression, default_text, default_and_null, without_not_null, count_value, digits_below, whole_number, type_step, type_done, type_long, is_type_word, is_number, type_of, type_part, path_in, path_value, usual_min, usual_max, quoted, doubled, written_name, written_literal, path, domain_text, check_text, grant_text, revoke_text, member_text, goes_on, written_kind, connect_text, are_joined, are_joined_from}
pub use Rattle.ddl_grammar.specs.{Rows.with_feeds, Rows.AreRows, Columns.names_of, declared.alters.Constraint.TheVariants.Check, declared.alters.TableChange.TheVariants.Owner, TableGrammar.checking, TableGrammar.parted, ValueGrammar.literal_path, Grammar.its_owner, Grammar.one_more_check, Grammar.domain_changed, SequenceGrammar.no_clauses, SequenceGrammar.with_clauses, Respelling.IsWritable, declared.alters.Constraint.Constraint, declared.alters.Constraint.TheVariants.Primary, declared.alters.Constraint.TheVariants.Unique, declared.alters.Constraint.TheVariants.Foreign, declared.alters.TableChange.TableChange, declared.alters.TableChange.TheVariants.Default, declared.alters.TableChange.TheVariants.Added, SequenceGrammar.bound_or, Grammar.semicolon, Respelling.AllWritable}
unfoldable pub use Rattle.ddl_grammar.specs.{Rows.rows_in, Clauses.named_check, TableGrammar.null_first, TableGrammar.default_first, TableGrammar.attributes, TableGrammar.typed, TableGrammar.column_name_value, TableGrammar.column, TableGrammar.element, TableGrammar.last_element, TableGrammar.table_elements, RelationGrammar.bracketed, ValueGrammar.truth, Grammar.created, Grammar.altered_domain, Grammar.altered, Grammar.selected, Grammar.setting, Grammar.command, Grammar.statement, RightsGrammar.some_kind_has, RightsGrammar.goes_with, RightsGrammar.right_first, RightsGrammar.wanted_first, RightsGrammar.rights_from, RightsGrammar.on_object, RightsGrammar.rights_and_object, RightsGrammar.grantee_of, Memberships.truth_first, Memberships.set_behind, Memberships.inherit_and_set, Memberships.others_behind, Memberships.options, Memberships.with_options, Memberships.granted_by, Memberships.member, Memberships.membership, Grants.grant_option, Grants.to_grantee, Grants.from_grantee, Grants.grant_rights, Grants.revoke_rights, Grants.granted, Grants.revoked, Columns.columns, Rests.deferral, Rests.action, Rests.on_delete, Rests.reactions, Rests.key_rest, Rests.foreign_rest, CopyGrammar.some_columns, SequenceGrammar.sequence_clauses, SequenceGrammar.sequence_of, SequenceGrammar.begins_clause, SequenceGrammar.clause_behind, Rests.rest_goes_on}
pub use Rattle.ddl_scripts.specs.{CopyRows.seen, CopyRows.copied, CopyRows.Copied, CopyRows.rows_by, MetaLines.IsSaid, MetaLines.Wrong, MetaLines.one_name, MetaLines.connected}
unfoldable pub use Rattle.ddl_scripts.specs.{CopyRows.rows_from, CopyRows.is_between, CopyRows.rows_at, CopyRows.rows_behind, MetaLines.command_len, MetaLines.stands_alone, MetaLines.name_alone, MetaLines.said_by, MetaLines.meta_line, Reading.statement_of, Reading.statements_within, Reading.statements_of}
