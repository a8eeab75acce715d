-- The text of a statement as it is appended, piece by piece: what unfolds with it computes it for each kind.
use Rattle.std.specs.Prelude.{ℕ, List, [], ◌∷◌, ◌++◌, codes}
use Rattle.cat_model.specs.declared.stmt.Stmt.{Stmt}
use Rattle.cat_model.specs.declared.grant.Owned.TheVariants as owned
use Rattle.cat_model.specs.declared.grant.Commented.TheVariants as commented
use Rattle.cat_model.specs.declared.stmt.Stmt.TheVariants as stmt
use Rattle.ddl_spelling.specs.{Paths.joined, RowsText.last_line, Tables.domain_text, Sequences.clauses_text, Roles.attributes_text, RightsText.grant_text, RightsText.revoke_text, Roles.member_text, Roles.connect_text}
use Rattle.ddl_grammar.specs.{LeafParts.leaf_has, LeafParts.leaf_text, Syntax.has, Syntax.pieces, Grammar.command, Grammar.created, Grammar.create_enum, Grammar.create_domain, Grammar.create_table, Grammar.create_database, Grammar.created_relation, Grammar.index_body, Grammar.altered, Grammar.altered_domain, Grammar.altered_table, Grammar.own_change, Grammar.table_change, Grammar.constraint_body, Grammar.altered_sequence, Grammar.new_owner, Grammar.selected, Grammar.set_value, Grammar.setting, Grammar.copy_from, Grammar.commented_object, Grammar.path_remarked, Grammar.remark_end}

-- tokens and a line feed
abbrev pub in_tokens : Stmt → List ℕ
in_tokens s = joined (pieces [] command s ++ (codes "\n" ∷ []))

unfoldable pub said : Stmt → List ℕ
unfolding has pieces leaf_has leaf_text command created create_enum create_domain create_table create_database created_relation index_body altered altered_domain altered_table own_change table_change constraint_body altered_sequence new_owner selected set_value setting copy_from commented_object path_remarked remark_end domain_text clauses_text attributes_text grant_text revoke_text member_text connect_text
said (stmt.CopyRows q columns rows) = joined (pieces [] command (stmt.CopyRows q columns []) ++ (codes "\n" ∷ rows ∷ last_line ∷ []))
said (stmt.Connect name) = connect_text name
said (stmt.OwnerTo (owned.Schema n) role) = in_tokens (stmt.OwnerTo (owned.Schema n) role)
said (stmt.Comment (commented.Schema n) text) = in_tokens (stmt.Comment (commented.Schema n) text)
said s = in_tokens s
