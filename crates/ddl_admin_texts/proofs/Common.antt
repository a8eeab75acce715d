-- What the proofs of this crate start from.
pub use Rattle.ddl_forms.proofs.Common.{◌≡◌, ℕ, Bool, true, false, List, [], ◌∷◌, ◌++◌, map, refl, sym, ap, ◌∙◌, codes, arith, flat_map, or_right, and_parts, Rights, Granted, no_rights, has_rights, Option, Some, None, Ok, inl, inr, str_to_ascii_lowercase, IsUtf8-from_is_utf8, Encoding, Utf8, Lexeme, Part, joined, flag_text, limit_text, given_literal, remark_text, ◌||◌, not, cond, ◌&&◌, append_assoc, append-nil, subst, not-true, Word, IsName, Stmt, comma, ◌then◌, ◌▸◌, name, only_if, is_all, granted_words, granted_name, grantee_text}
unfoldable pub use Rattle.ddl_forms.proofs.Common.{is_utf8, chars, encode, literal_value, is_keyword_of, name_of, written_kind, written_name, is_word, name_value, name_in, with_commas, right_list, rights_text}
pub use Rattle.ddl_forms.proofs.{Behind.Words, Behind.Safe, Numbers.number_as, Tokens.Gap, Tokens.none, Tokens.space, Written.Written, Written.given_or, Written.or_given, Written.literal_said, Written.equals_as, Written.word_as, Written.mark_as, Written.meets, Written.name_as, Written.literal_as, Written.path_as, Written.then_as, Written.lead_as, Written.word_then, Written.end_as, Written.seen_as, Written.fit_as, Written.like_as, Written.shown_as, Written.pieces_as, Written.after_as, Written.wider_as, Written.choose_as, Written.heard_as, Written.nothing_as, Written.OptionFit, Written.maybe_as, Written.many_as, Behind.Behind, Behind.Anything, Behind.End, Behind.admits, Behind.covers, Behind.through, Behind.looser, Putting.put_as, Putting.joined-append, Tokens.name_token, Tokens.value_name, Written.Says, Written.word_said, Written.name_said, Written.comma_as, Written.ending, Written.is_as, Written.also_as, Written.AllFit, Written.items_pieces}
unfoldable pub use Rattle.ddl_forms.proofs.Written.{is_key, is_bare_word}
pub use Rattle.ddl_grammar.specs.{declared.rights.Right.Right, declared.rights.Right.TheVariants.Select, declared.rights.Right.TheVariants.Usage, declared.rights.Right.TheVariants.Insert, declared.rights.Right.TheVariants.References, declared.rights.Right.TheVariants.Delete, declared.rights.Right.TheVariants.Trigger, declared.rights.Right.TheVariants.Truncate, declared.rights.Right.TheVariants.Update, declared.rights.Right.TheVariants.Create, declared.rights.Kind.Kind, RightsGrammar.has, RightsGrammar.with_right, RightsGrammar.within, RightsGrammar.kind_rights, RightsGrammar.all_of, Roles.changes_by, Databases.utf8_in, Writable.IsGivenText, Writable.IsLimit, Writable.AreChanges, RightsGrammar.only, RightsGrammar.wanted, RightsGrammar.joining, RightsGrammar.right_behind, RightsGrammar.more_rights, RightsGrammar.kind_has, RightsGrammar.having, RightsGrammar.kind_with, RightsGrammar.rights_on, RightsGrammar.object, RightsGrammar.grantee, LeafParts.IsGranted, LeafParts.IsRevoked, Memberships.member_of, Grants.first, Grants.behind_first}
unfoldable pub use Rattle.ddl_grammar.specs.{RightsGrammar.some_kind_has, RightsGrammar.goes_with, Comments.remark, Roles.later_flags, Roles.role_flags, Roles.role_settings, Roles.role_changes, Databases.furthers, Databases.utf8_value, Databases.encoded, Databases.maybe_encoded, RightsGrammar.right_first, RightsGrammar.wanted_first, RightsGrammar.rights_from, RightsGrammar.on_object, RightsGrammar.rights_and_object, RightsGrammar.grantee_of, Memberships.truth_first, Memberships.set_behind, Memberships.inherit_and_set, Memberships.others_behind, Memberships.options, Memberships.with_options, Memberships.granted_by, Memberships.member, Memberships.membership, Grants.grant_option, Grants.to_grantee, Grants.from_grantee, Grants.grant_rights, Grants.revoke_rights, Grants.granted, Grants.revoked}
unfoldable pub use Rattle.ddl_grammar.proofs.Common.{attributes_text, grant_text, revoke_text, member_text, written_literal, quoted, doubled}
pub use Rattle.ddl_forms.specs.Roles.{encoding_text}
