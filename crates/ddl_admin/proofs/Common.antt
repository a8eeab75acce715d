-- What the proofs of this crate start from.
pub use Rattle.ddl_grammar.specs.{declared.rights.Right.Right, RightsGrammar.with_right, RightsGrammar.more_rights, RightsGrammar.all_of}
unfoldable pub use Rattle.ddl_grammar.specs.{RightsGrammar.rights_from, Databases.is_option, Databases.furthers}
pub use Rattle.ddl_grammar_laws.proofs.Common.{◌≡◌, List, [], ◌∷◌, ◌++◌, drop, Ok, refl, sym, ap, ◌∙◌, err_from_is_err_and, Rights, Lexeme, comma, seen_at, many, Fails, ReadError, Halted, Memory, all_left, none_more, no_item, one_more, fewer, ◌-◌, length, AreLeft, items_from, true, false, starts}
