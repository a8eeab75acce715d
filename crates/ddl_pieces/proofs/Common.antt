-- What the proofs of this crate start from.
pub use Rattle.ddl_parts.proofs.Common.{◌≡◌, ◌∙◌, ap, sym, ℕ, zero, suc, ◌+◌, ◌<◌, ◌≤◌, true, List, [], ◌∷◌, length, drop, get_or, arith, leb-true, ltb-true, eqb-true, and_parts, Lexeme, lexeme_of, lexemes, ◌-◌, false, ◌++◌, Option, Some, None, Result, Ok, Err, refl, append_assoc, append-nil, and_from, lt-ltb, Token, LexFault, is_sign_kind, Collected, preceded, collected_by, take, subst, slice_range, list_all, IsUtf8, IsUtf8-append, list_all-append, IsUtf8-nil, IsUtf8-from_is_utf8, spelled, source, Bool, drop_all, length-drop, length-map, Reading, ◌>>=◌, Machine, ends, scan_step, GivesRun, ended, ◌&&◌, codes, drop-take, starts, are_not_null, option_and_then, ok_or, TypeName, Runs, run, one_at, seen_at, Fails, typing, if_name, reverse, nested, err_from_is_err_and, ◌^◌, digit_value, digits_value, AllDigits, ParsesUnsigned, without_leading_plus, IsAscii-from_digits, IsUtf8-from_ascii}
unfoldable pub use Rattle.ddl_parts.proofs.Common.{are_joined, are_joined_from, next_token_of, are_sound, collected_within, collected, spelling, is_sound, scan, is_word, is_sign, name_value, type_step, type_of, type_part, type_long, is_digit}
pub use Rattle.ddl_parts.specs.{declared.pieces.Piece.Piece, declared.types.TypeSpot.TypeSpot, declared.types.TypeSpot.TheVariants.Begin, declared.types.TypeSpot.TheVariants.Path, declared.fault.ReadError.ReadError}
pub use Rattle.ddl_parts.proofs.Basics.{a_literal}
