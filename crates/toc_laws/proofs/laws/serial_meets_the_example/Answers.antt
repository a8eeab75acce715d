use Rattle.std.proofs.Common.{refl}
use Rattle.std.specs.Str.{is_utf8, chars}
use Rattle.std.proofs.Math.Utf8.{encode}
use Rattle.sql_lex.specs.Bytes.{is_blank, is_digit, begins_word, in_word, is_sign, marks_escapes, in_line, next_is}
use Rattle.sql_lex.specs.Ends.{run_end, quote_end, escape_end, comment_end, fraction_end, number_end}
use Rattle.sql_lex.specs.Pieces.{begins_line, closed, begun, in_utf8, piece_at}
use Rattle.sql_lex.specs.Next.{next_within, next_token_of, tokens_within, tokens_of}
use Rattle.sql_lex.specs.Meaning.{inside, undoubled, name_of, literal_of, is_keyword_of, spelling}
use Rattle.cat_model.specs.Lexemes.{lexemes}
use Rattle.cat_model.specs.References.{expression_references, view_references}
use Rattle.obj_graph.specs.Objects.{objects_of}
use Rattle.obj_graph.specs.Links.{key_ends, relation_ends, type_ends}
use Rattle.obj_graph.specs.TypeLinks.{type_links}
use Rattle.obj_graph.specs.RelationLinks.{class_links, column_links, default_links, sequence_links, view_links}
use Rattle.obj_graph.specs.ConstraintLinks.{keys_of, constraint_links, index_links}
use Rattle.obj_graph.specs.DependLinks.{depend_links}
use Rattle.obj_graph.specs.BoundaryLinks.{boundary_links}
use Rattle.obj_graph.specs.Graphs.{holder_links, other_links, edges_between, graph_of}
use Rattle.ddl_laws.specs.Lexemes.{is_word, is_sign as is_sign_lexemes}
use Rattle.ddl_laws.specs.Leaves.{name_in, name_value}
use Rattle.ddl_laws.specs.Parts.{scan}
use Rattle.ddl_laws.specs.Expressions.{ends_run, nest_step, nest_done, expression, default_text}
use Rattle.ddl_laws.specs.Types.{type_step, type_done, type_long, is_type_word, is_number, type_of, type_part}
use Rattle.row_texts.specs.Tokens.{all_tokens}
use Rattle.row_texts.specs.TypeTexts.{type_named}
use Rattle.row_texts.specs.DefaultTexts.{default_said, is_default}
use Rattle.row_texts.specs.IndexTexts.{named_index, index_text, index_said}
use Rattle.row_texts.specs.SequenceTypes.{sequence_type, sequence_kind}
use Rattle.row_texts.specs.ViewTexts.{view_text, view_body}
use Rattle.graph_walks.specs.Reaching.{needed_next, found_from, reaches, on_cycle}
use Rattle.graph_walks.specs.Filling.{is_free, last_free, without, filled, order_of}
use Rattle.graph_walks.specs.Telling.{off, first_on_cycle, next_on_path, rest_of_path, told_cycle}
use Rattle.dep_sort.specs.FirstOrder.{first_cmp, id_cmp, placed, in_order, first_places, id_places, stands_at, renumbered}
use Rattle.dep_sort.specs.Cut.{breaks_if, breaks, made_at, made_once, made_by, taker, moved_arcs, places_of, bound_arcs, without_body, made_of, cut}
use Rattle.dep_sort.specs.Ordering.{final_places, depends_of, sorted, told_places, loop_of, due_if, due}
use Rattle.std.specs.Fmt.{digits}
use Rattle.sql_lex.specs.Reserved.{is_reserved}
use Rattle.sql_lex.specs.Written.{begins_bare, in_bare, is_bare, doubled, quoted, written_name, written_literal}
use Rattle.ddl_spelling.specs.Paths.{path, listed}
use Rattle.ddl_spelling.specs.Sequences.{usual_min, usual_max, bound, clauses_text}
use Rattle.ddl_spelling.specs.Views.{stands_alone, space_before}
use Rattle.ddl_spelling.specs.RightsText.{is_all, with_commas, right_list, rights_text, grant_text, revoke_text}
use Rattle.ddl_spelling.specs.Roles.{attributes_text, member_text, connect_text}
use Rattle.ddl_spelling.specs.Tables.{type_text, check_text, column_text, domain_text}
use Rattle.ddl_grammar.proofs.Spelled.{by_syntax}
use Rattle.cat_names.specs.Lookups.{role_name}
use Rattle.oid_groups.specs.Orders.{placed as placed_row, by_number}
use Rattle.obj_graph.specs.Chosen.{select_fault}
use Rattle.dump_stmts.specs.Types.{type_stmt}
use Rattle.dump_stmts.specs.Tables.{table_stmt, default_stmt, column_list, copy_line}
use Rattle.dump_stmts.specs.Views.{select_lines, select_of, view_stmt, dummy_stmt, rule_stmt, rule_drop_stmt}
use Rattle.dump_stmts.specs.Sequences.{sequence_stmt, value_stmt, owned_stmt}
use Rattle.dump_stmts.specs.Keys.{constraint_stmt, index_stmt}
use Rattle.dump_stmts.specs.Stmts.{stmt_of, defn_of}
use Rattle.dump_stmts.specs.Drops.{drop_of}
use Rattle.dump_grants.specs.Stmts.{grant_stmts}
use Rattle.dump_toc.specs.Owners.{owner_of}
use Rattle.dump_toc.specs.Tags.{tag_of, desc_of}
use Rattle.dump_toc.specs.Drafts.{object_draft}
use Rattle.dump_toc.specs.Comments.{remarks_of}
use Rattle.dump_toc.specs.Rights.{rights_draft}
use Rattle.dump_toc.specs.Numbers.{first_ids, entries_from}
use Rattle.dump_toc.specs.Session.{session_entries}
use Rattle.dump_toc.specs.Toc.{taken_at, granted_at, toc_of, counted, toc}
use Rattle.toc_laws.proofs.laws.serial_meets_the_example.Goals as goal

pub returns : goal.returns
unfolding is_utf8 chars encode is_blank is_digit begins_word in_word is_sign marks_escapes in_line next_is run_end quote_end escape_end comment_end fraction_end number_end begins_line closed begun in_utf8 piece_at next_within next_token_of tokens_within tokens_of inside undoubled name_of literal_of is_keyword_of spelling lexemes expression_references view_references objects_of key_ends relation_ends type_ends type_links class_links column_links default_links sequence_links view_links keys_of constraint_links index_links depend_links boundary_links holder_links other_links edges_between graph_of is_word is_sign_lexemes name_in name_value scan ends_run nest_step nest_done expression default_text type_step type_done type_long is_type_word is_number type_of type_part all_tokens type_named default_said is_default named_index index_text index_said sequence_type sequence_kind view_text view_body needed_next found_from reaches on_cycle is_free last_free without filled order_of off first_on_cycle next_on_path rest_of_path told_cycle first_cmp id_cmp placed in_order first_places id_places stands_at renumbered breaks_if breaks made_at made_once made_by taker moved_arcs places_of bound_arcs without_body made_of cut final_places depends_of sorted told_places loop_of due_if due digits is_reserved begins_bare in_bare is_bare doubled quoted written_name written_literal path listed usual_min usual_max bound clauses_text stands_alone space_before is_all with_commas right_list rights_text grant_text revoke_text attributes_text member_text connect_text type_text check_text column_text domain_text by_syntax role_name placed_row by_number select_fault type_stmt table_stmt default_stmt column_list copy_line select_lines select_of view_stmt dummy_stmt rule_stmt rule_drop_stmt sequence_stmt value_stmt owned_stmt constraint_stmt index_stmt stmt_of defn_of drop_of grant_stmts owner_of tag_of desc_of object_draft remarks_of rights_draft first_ids entries_from session_entries taken_at granted_at toc_of counted toc
returns c = record { listed = refl; defined = refl }
