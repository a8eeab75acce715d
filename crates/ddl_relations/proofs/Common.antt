-- What the proofs of this crate start from.
pub use Rattle.cat_model.specs.declared.stmt.Stmt.{Stmt}
pub use Rattle.ddl_grammar.specs.{declared.alters.TableChange.TableChange, OnlyGrammar.table_and, Grammar.table_changed, ValueGrammar.GivesPath, ValueGrammar.literal_path, Columns.more_names, TableGrammar.checking, declared.tables.TableElement.TableElement, declared.tables.TableElement.TheVariants.Column, declared.tables.TableElement.TheVariants.Check, TableGrammar.elements, TableGrammar.columns_of, TableGrammar.checks_of, TableGrammar.parted, TableGrammar.more_elements, declared.tables.Spot.TheVariants.Opening}
unfoldable pub use Rattle.ddl_grammar.specs.{Syntax.part, Grammar.own_change, Grammar.table_change, Grammar.altered_table, SequenceGrammar.sequence_clauses, TableGrammar.table_elements}
pub use Rattle.ddl_grammar_laws.proofs.Common.{arith, ◌≡◌, ℕ, List, drop, Ok, Err, QName, Lexeme, literal, Fails, ReadError, err_from_is_err_and, none_more, no_item, one_more, fewer, ◌-◌, length, AreLeft, items_from, refl, ◌∙◌, sym, false, listing, ◌++◌, ◌∷◌, [], ap, seen_at, many, Halted, Memory, ColumnDef, CheckDef, subst}
unfoldable pub use Rattle.ddl_grammar_laws.proofs.Common.{path_in, path_value, is_literal}
