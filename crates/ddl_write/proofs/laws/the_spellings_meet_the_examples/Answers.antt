use Rattle.std.proofs.Common.{refl}
use Rattle.std.proofs.Math.Utf8.{encode}
use Rattle.std.specs.{Str.is_utf8, Str.chars, Fmt.digits}
use Rattle.sql_lex.specs.{Bytes.is_blank, Bytes.is_digit, Bytes.begins_word, Bytes.in_word, Bytes.is_sign, Bytes.marks_escapes, Bytes.in_line, Bytes.next_is, Ends.run_end, Ends.quote_end, Ends.escape_end, Ends.comment_end, Ends.fraction_end, Ends.number_end, Pieces.begins_line, Pieces.closed, Pieces.begun, Pieces.in_utf8, Pieces.piece_at, Next.next_within, Next.next_token_of, Reserved.is_reserved, Written.begins_bare, Written.in_bare, Written.is_bare, Written.doubled, Written.quoted, Written.written_name, Written.written_literal}
use Rattle.ddl_spelling.specs.{Paths.path, Paths.listed, Sequences.usual_min, Sequences.usual_max, Sequences.bound, Sequences.clauses_text, Views.stands_alone, Views.space_before, RightsText.is_all, RightsText.with_commas, RightsText.right_list, RightsText.rights_text, RightsText.grant_text, RightsText.revoke_text, Roles.attributes_text, Roles.member_text, Roles.connect_text, Tables.type_text, Tables.check_text, Tables.column_text, Tables.domain_text}
use Rattle.ddl_grammar.specs.{LeafParts.leaf_has, LeafParts.leaf_text, Syntax.has, Syntax.pieces, Grammar.command, Grammar.created, Grammar.create_enum, Grammar.create_domain, Grammar.create_table, Grammar.create_database, Grammar.created_relation, Grammar.altered, Grammar.altered_domain, Grammar.altered_table, Grammar.own_change, Grammar.table_change, Grammar.altered_sequence, Grammar.selected, Grammar.set_value, Grammar.setting, Grammar.copy_from, Grammar.commented_object, Grammar.path_remarked, Grammar.remark_end, Grammar.index_body, Grammar.constraint_body, Grammar.new_owner, Respelling.in_words, Respelling.spelling}
use Rattle.ddl_write.proofs.laws.the_spellings_meet_the_examples.Goals as goal

pub returns : goal.returns
unfolding is_utf8 chars encode digits is_blank is_digit begins_word in_word is_sign marks_escapes in_line next_is run_end quote_end escape_end comment_end fraction_end number_end begins_line closed begun in_utf8 piece_at next_within next_token_of is_reserved begins_bare in_bare is_bare doubled quoted written_name written_literal path listed usual_min usual_max bound clauses_text stands_alone space_before is_all with_commas right_list rights_text grant_text revoke_text attributes_text member_text connect_text type_text check_text column_text domain_text in_words spelling has pieces leaf_has leaf_text command created create_enum create_domain create_table create_database created_relation altered altered_domain altered_table own_change table_change altered_sequence selected set_value setting copy_from commented_object path_remarked remark_end index_body constraint_body new_owner
returns c = record { rising = refl; falling = refl; owned_by = refl; value = refl; view = refl; dummy = refl; default = refl; primary = refl; unique = refl; foreign = refl; check = refl; index = refl; copy = refl; copy_all = refl; grant = refl; revoke = refl; comment = refl; no_comment = refl; role = refl; changes = refl; member = refl; plain_member = refl; database = refl; connect = refl; enum = refl; no_labels = refl; domain = refl; plain_domain = refl; table = refl; no_columns = refl; only_checks = refl }
