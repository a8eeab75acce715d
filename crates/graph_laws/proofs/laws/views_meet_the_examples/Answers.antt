use Rattle.std.proofs.Common.{refl}
use Rattle.std.specs.Str.{is_utf8, chars}
use Rattle.std.proofs.Math.Utf8.{encode}
use Rattle.sql_lex.specs.Bytes.{is_blank, is_digit, begins_word, in_word, is_sign, marks_escapes, in_line, next_is}
use Rattle.sql_lex.specs.Ends.{run_end, quote_end, escape_end, comment_end, fraction_end, number_end}
use Rattle.sql_lex.specs.Pieces.{begins_line, closed, begun, in_utf8, piece_at}
use Rattle.sql_lex.specs.Next.{next_within, next_token_of, tokens_within, tokens_of}
use Rattle.sql_lex.specs.Meaning.{inside, undoubled, name_of, literal_of, is_keyword_of, spelling}
use Rattle.cat_model.specs.Lexemes.{lexemes}
use Rattle.cat_model.specs.References.{expression_references, view_references}
use Rattle.ddl_scripts.specs.Lexemes.{is_sign as sign_of}
use Rattle.ddl_scripts.specs.Parts.{scan}
use Rattle.ddl_scripts.specs.Expressions.{ends_run, nest_step, nest_done, expression}
use Rattle.row_texts.specs.Tokens.{all_tokens}
use Rattle.row_texts.specs.ViewTexts.{view_text, view_body}
use Rattle.obj_graph.specs.Objects.{objects_of}
use Rattle.obj_graph.specs.Links.{key_ends, relation_ends, type_ends}
use Rattle.obj_graph.specs.TypeLinks.{type_links}
use Rattle.obj_graph.specs.RelationLinks.{class_links, column_links, default_links, sequence_links, view_links}
use Rattle.obj_graph.specs.ConstraintLinks.{keys_of, constraint_links, index_links}
use Rattle.obj_graph.specs.DependLinks.{depend_links}
use Rattle.obj_graph.specs.BoundaryLinks.{boundary_links}
use Rattle.obj_graph.specs.Graphs.{holder_links, other_links, edges_between, graph_of}
use Rattle.graph_laws.proofs.laws.views_meet_the_examples.Goals as goal

pub returns-clause-ring : goal.returns-clause-ring
unfolding is_utf8 chars encode is_blank is_digit begins_word in_word is_sign marks_escapes in_line next_is run_end quote_end escape_end comment_end fraction_end number_end begins_line closed begun in_utf8 piece_at next_within next_token_of tokens_within tokens_of inside undoubled name_of literal_of is_keyword_of spelling lexemes expression_references view_references sign_of scan ends_run nest_step nest_done expression all_tokens view_text view_body objects_of key_ends relation_ends type_ends type_links class_links column_links default_links sequence_links view_links keys_of constraint_links index_links depend_links boundary_links holder_links other_links edges_between graph_of
returns-clause-ring c = record {
  objects = refl;
  edges = refl;
}

pub returns-clause-grouped : goal.returns-clause-grouped
unfolding is_utf8 chars encode is_blank is_digit begins_word in_word is_sign marks_escapes in_line next_is run_end quote_end escape_end comment_end fraction_end number_end begins_line closed begun in_utf8 piece_at next_within next_token_of tokens_within tokens_of inside undoubled name_of literal_of is_keyword_of spelling lexemes expression_references view_references sign_of scan ends_run nest_step nest_done expression all_tokens view_text view_body objects_of key_ends relation_ends type_ends type_links class_links column_links default_links sequence_links view_links keys_of constraint_links index_links depend_links boundary_links holder_links other_links edges_between graph_of
returns-clause-grouped c = record {
  objects = refl;
  edges = refl;
}
