-- What the proofs of this crate start from.
pub use Rattle.ddl_parts.proofs.Common.{◌≡◌, Bool, true, false, ◌||◌, List, [], ◌∷◌, ◌++◌, refl, arith, Lexeme, starts, never, Part, IsTooLong, shortened, Like, Apart, Begins, Avoids, Ok, Err, sym, ap, subst, ◌∙◌, inl, append_assoc, Stop, Reading, ◌>>=◌, Named, Example, Lawful, Result, append-nil, one, one_at, first_by, seen, seen_at, nothing, wider, passes, mark, ℕ, not, cond, ◌&&◌, length, Some, inr, bytes_eq, codes, nat_lt, str_eq_ignore_ascii_case, str_to_ascii_lowercase, and_parts, not-true, bytes_eq-Decides, TokenKind, Word, QuotedName, short_word, is_number_kind, ◌then◌, then_at, ◌▸◌, ◌◂◌, choose, choose_at, zero, suc, ◌<◌, ◌≤◌, length-append, Items, Many, no_more, one_more, many, ◌-◌, length-drop, drop, GivesPart, Fails, Option, None, Machine, run, ends, scan_step, runs_of, eq-eqb, name, literal, qualified, is_ok, ◌==◌, not-false, Number, source, Nest, nested, typing, if_name, is_long_by, Branch, branch, one_of, or_parts, comma, item_begins, item_of, listing, listed, optional, list_any, is_sign_kind, is_name_kind, is_literal_kind, is_word_kind, stop_words, ◌+◌, ◌^◌, pos, option_and_then, lt-ltb, digits_of, is_some, whole_path, LexFault, QName, lexemes, cases_Bool, or_right, or_cases, Rights, table_rights, sequence_rights, schema_rights, Encoding, Utf8, number_first, stop, or_left, Literal, take, err_from_is_err_and, ColumnDef, CheckDef}
unfoldable pub use Rattle.ddl_parts.proofs.Common.{is_utf8, chars, encode, name_of, literal_of, is_keyword_of, undoubled, inside, is_word, is_sign, name_in, name_value, is_name, text_in, literal_value, is_literal, path_value, many_at, scan, next_is, nest_step, nest_done, ends_run, expression, default_text, default_and_null, without_not_null, type_step, type_done, type_long, type_goes_on, is_type_word, is_number, type_part, type_of, is_digit, path_in, collected}
pub use Rattle.ddl_parts.specs.{declared.fault.ReadError.ReadError, declared.runs.Bracket.Bracket, declared.runs.Spot.Spot, declared.runs.Spot.TheVariants.First, declared.runs.Spot.TheVariants.Inside, declared.types.TypeSpot.TypeSpot, declared.types.TypeSpot.TheVariants.Begin, declared.types.TypeSpot.TheVariants.FirstWord, declared.types.TypeSpot.TheVariants.Schema, declared.types.TypeSpot.TheVariants.Dotted, declared.types.TypeSpot.TheVariants.Path, declared.types.TypeSpot.TheVariants.Words, declared.types.TypeSpot.TheVariants.Opened, declared.types.TypeSpot.TheVariants.Counted, declared.types.TypeSpot.TheVariants.Further, declared.types.TypeSpot.TheVariants.Behind, declared.types.TypeSpot.TheVariants.Array, declared.types.TypeSpot.TheVariants.Ended, declared.fault.ReadError.TheVariants.Halted, declared.fault.ReadError.TheVariants.Memory}
pub use Rattle.ddl_parts.proofs.Basics.{a_word, words_apart, a_literal, gives}
