-- What has to unfold so that texts are read by computing.
use Rattle.ddl_scripts.proofs.Common.{is_utf8, chars, encode, is_blank, is_digit, begins_word, in_word, marks_escapes, in_line, next_is, run_end, quote_end, escape_end, comment_end, fraction_end, number_end, begins_line, closed, begun, in_utf8, piece_at, next_within, next_token_of, inside, undoubled, name_of, literal_of, is_keyword_of, spelling, is_word, is_sign as sign_of, name_in, name_value, text_in, literal_value, is_name, is_literal, scan, many_at, ends_run, nest_step, nest_done, expression, default_text, default_and_null, without_not_null, collected_within, collected, count_value, digits_below, whole_number, named_check, null_first, default_first, attributes, typed, column_name_value, column, element, last_element, table_elements, type_step, type_done, type_long, is_type_word, is_number, type_of, type_part, bracketed, path_in, path_value, truth, statement_of, statements_within, statements_of, some_kind_has, goes_with, right_first, wanted_first, rights_from, on_object, rights_and_object, grantee_of, truth_first, set_behind, inherit_and_set, others_behind, with_options, granted_by, member, membership, grant_option, to_grantee, from_grantee, grant_rights, revoke_rights, granted, revoked, columns, deferral, action, on_delete, reactions, key_rest, foreign_rest, lines, is_between, rows_in, rows_from, rows_at, rows_behind, command_len, stands_alone, name_alone, said_by, meta_line, some_columns, sequence_clauses, sequence_of, usual_min, usual_max, begins_clause, clause_behind}
use Rattle.ddl_scripts.specs.Reading.{line_at}
use Rattle.sql_lex.specs.Bytes.{is_sign}
use Rattle.ddl_grammar.specs.{Syntax.part, LeafParts.leaf_part, OnlyGrammar.only_value, OnlyGrammar.other_value, OnlyGrammar.other_path, Clauses.equals_or_to, TableGrammar.domain_rest, SequenceGrammar.sequence, Comments.remark, Roles.role_changes, Roles.role_flags, Roles.later_flags, Roles.role_settings, Databases.options as database_options, Databases.maybe_encoded, Databases.encoded, Databases.utf8_value, Databases.furthers, Databases.further, Databases.is_option, Databases.is_bare, Databases.is_value, RightsGrammar.kind_first as object_kind, Memberships.options, Grammar.created, Grammar.created_relation, Grammar.create_enum, Grammar.create_domain, Grammar.create_table, Grammar.create_database, Grammar.index_body, Grammar.altered, Grammar.altered_table, Grammar.altered_domain, Grammar.altered_sequence, Grammar.new_owner, Grammar.own_change, Grammar.table_change, Grammar.constraint_body, Grammar.selected, Grammar.set_value, Grammar.commented_object, Grammar.path_remarked, Grammar.remark_end, Grammar.setting, Grammar.copy_from, Grammar.command, Grammar.statement}

unfoldable pub reads : Unit {0}
unfolding object_kind line_at digits_below path_in path_value count_value whole_number truth null_first default_first attributes typed column_name_value column element last_element table_elements type_step type_done type_long is_type_word is_number type_of type_part default_text default_and_null without_not_null is_name is_literal many_at named_check is_utf8 chars encode is_blank is_digit begins_word in_word is_sign marks_escapes in_line next_is run_end quote_end escape_end comment_end fraction_end number_end begins_line closed begun in_utf8 piece_at next_within next_token_of inside undoubled name_of literal_of is_keyword_of spelling is_word sign_of name_in name_value text_in literal_value scan ends_run nest_step nest_done expression collected_within collected statement_of statements_within statements_of bracketed some_kind_has goes_with right_first wanted_first rights_from on_object rights_and_object grantee_of truth_first set_behind inherit_and_set others_behind options with_options granted_by member membership grant_option to_grantee from_grantee grant_rights revoke_rights granted revoked columns deferral action on_delete reactions key_rest foreign_rest lines is_between rows_in rows_from rows_at rows_behind command_len stands_alone name_alone said_by meta_line some_columns sequence_clauses sequence_of usual_min usual_max begins_clause clause_behind part leaf_part only_value other_value other_path equals_or_to domain_rest sequence remark role_changes role_flags later_flags role_settings database_options maybe_encoded encoded utf8_value furthers further is_option is_bare is_value created created_relation create_enum create_domain create_table create_database index_body altered altered_table altered_domain altered_sequence new_owner own_change table_change constraint_body selected set_value commented_object path_remarked remark_end setting copy_from command statement
reads = tt
