-- What the proofs of this crate start from.
pub use Rattle.ddl_part_laws.proofs.Common.{◌≡◌, false, List, ◌++◌, Ok, Err, refl, sym, ap, ◌∙◌, append_assoc, arith, Lexeme, starts, Part, Reading, ◌>>=◌, Lawful, Avoids, a_word, ℕ, ◌+◌, ◌<◌, [], ◌∷◌, length, drop, Option, Some, seen_at, IsTooLong, shortened, name, cases_Bool, Bool, true, cond, ◌||◌, None, codes, inl, inr, or_right, or_cases, Rights, table_rights, sequence_rights, schema_rights, Many, no_more, many, Begins, Apart, comma, words_apart, mark, seen, ◌▸◌, ◌◂◌, not, ◌&&◌, bytes_eq, str_to_ascii_lowercase, bytes_eq-Decides, TokenKind, Word, QuotedName, Encoding, Utf8, number_first, literal, is_word_kind, Stop, stop, ReadError, Fails, a_literal, and_parts, not-true, str_eq_ignore_ascii_case, or_parts, or_left, QName, Literal, ◌==◌, listing, ◌-◌, length-append, length-drop, take, subst, append-nil, source, choose_at, gives, Like, Halted, Memory, err_from_is_err_and, ColumnDef, CheckDef}
unfoldable pub use Rattle.ddl_part_laws.proofs.Common.{is_keyword_of, is_word, is_sign, is_utf8, chars, encode, name_of, name_value, name_in, is_name, is_literal, is_number, next_is, literal_of, undoubled, inside, literal_value, text_in, path_value, default_text, default_and_null, ends_run, type_goes_on, type_part, path_in}
pub use Rattle.ddl_part_laws.proofs.{Told.Tells, Told.lawful, Told.told_on, Telling.starts_none, Told.told, Told.told_stopped, Simple.one_laws, Steps.avoids_never, Steps.avoids_begun, Steps.starts_more, Shorter.sign_agrees, Telling.sign_no_word, Simple.seen_laws, Sequence.lead_begins, Repeated.AreApart, Repeated.many_laws, Leads.name_laws, Leads.qualified_laws, Leads.word_laws, Leads.sign_laws, Leads.word_no_sign, Shorter.word_like, Simple.seen_avoids, Tables.one_of_avoids, Telling.free, Telling.signs_apart, Composing.Headed, Composing.lawful_seen, Composing.lawful_word, Composing.lawful_ended, Composing.lawful_then, Composing.lawful_next, Composing.headed_word, Composing.headed_sign, Composing.headed_seen, Composing.one_sign, Composing.lawful_choose, Composing.lawful_either, Composing.lawful_unless, Composing.avoids_either, Composing.grammar, Shorter.word_agrees, Shorter.name_shortens, Simple.Shortens, Composing.headed_next, Simple.mark_laws, Sequence.lead_laws, Repeated.from_read, Repeated.from_stop, Repeated.from_none, Steps.starts_neither, Steps.starts_apart, Steps.starts-append, Simple.wider_laws, Shorter.is_far, Composing.one_word, Composing.lawful_maybe, Composing.avoids_maybe, Composing.lawful_sign, Composing.one_literal, Leads.literal_laws, Telling.sign_kind_by, Steps.Agrees, Shorter.name_agrees, Shorter.literal_agrees, Shorter.guarded_shortens, Shorter.refused_shortens, Simple.one_begins, Choice.choose_begins, Listing.listing_apart, Leads.name_begins, Leads.literal_begins, Leads.choose_avoids, RunLaws.expression_laws, RunLaws.expression_ends_bracket, RunLaws.default_text_laws, RunLaws.default_and_null_laws, RunLaws.type_laws, Telling.stop_no_type, Telling.sign_no_type, Telling.word_is_name, Telling.begins_more, Composing.lawful_optional, Composing.avoids_headed, Steps.passes_like, Told.Fits, Told.left_of, Told.long_of, Items.items_from, Items.fewer, Items.none_more, Items.no_item, Items.one_more, Items.AreLeft, Items.all_left}
pub use Rattle.ddl_grammar.specs.{Depending.◌thenby◌, Grants.first, Values.by_first, declared.rights.Right.Right, declared.rights.Right.TheVariants.Select, declared.rights.Right.TheVariants.Usage, declared.rights.Right.TheVariants.Create, declared.rights.Kind.Kind, declared.rights.Kind.TheVariants.Tables, declared.rights.Kind.TheVariants.Sequences, declared.rights.Kind.TheVariants.Schemas, declared.rights.Kind.TheVariants.Types, declared.rights.Wanted.Wanted, RightsGrammar.with_right, RightsGrammar.within, RightsGrammar.kind_rights, RightsGrammar.wanted, RightsGrammar.joining, RightsGrammar.right_behind, RightsGrammar.more_rights, RightsGrammar.all_of, RightsGrammar.kind_has, RightsGrammar.having, RightsGrammar.kind_with, RightsGrammar.object, Memberships.truth, Memberships.member_of, RightsGrammar.grantee_of, Grants.First, Grants.named_by, Grants.behind_first, Choices.any_word, Databases.word_first, Databases.own_options, Databases.furthering, Databases.utf8, Choices.clause, Choices.said, Choices.flag, Choices.◌before◌, Databases.goes_on, declared.tables.TableElement.TheVariants.Column, declared.tables.TableElement.TheVariants.Check, declared.tables.Spot.TheVariants.Opening, declared.tables.Spot.TheVariants.BehindColumn, declared.tables.Spot.TheVariants.BehindCheck, TableGrammar.more_attributes, TableGrammar.not_null, TableGrammar.checking, TableGrammar.column_name, TableGrammar.column_of, TableGrammar.element_begins, TableGrammar.element_at, TableGrammar.elements, TableGrammar.more_elements, declared.sequences.Clauses.Clauses, SequenceGrammar.clausing, SequenceGrammar.with_clause, SequenceGrammar.with_clauses, SequenceGrammar.no_clauses, Columns.more_names}
unfoldable pub use Rattle.ddl_grammar.specs.{RightsGrammar.right_first, RightsGrammar.wanted_first, RightsGrammar.some_kind_has, RightsGrammar.goes_with, RightsGrammar.rights_from, RightsGrammar.kind_first, RightsGrammar.on_object, RightsGrammar.rights_and_object, Memberships.truth_first, Memberships.set_behind, Memberships.inherit_and_set, Memberships.others_behind, Memberships.options, Memberships.with_options, Memberships.granted_by, Memberships.member, Memberships.membership, Grants.grant_option, Grants.to_grantee, Grants.from_grantee, Grants.grant_rights, Grants.revoke_rights, Grants.granted, Grants.revoked, Databases.is_bare, Databases.is_option, Databases.is_value, Databases.further, Databases.furthers, Databases.utf8_value, Databases.encoded, Databases.maybe_encoded, TableGrammar.null_first, TableGrammar.default_first, TableGrammar.attributes, TableGrammar.typed, TableGrammar.column_name_value, TableGrammar.column, TableGrammar.element, TableGrammar.last_element, SequenceGrammar.clause_behind, SequenceGrammar.begins_clause}
