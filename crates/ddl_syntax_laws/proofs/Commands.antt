-- The grammar of statements has the laws of a part: what is read is spelled so, what is spelled so is read, and where
-- reading stops nothing goes on.
use Rattle.ddl_part_laws.proofs.Common.{◌≡◌, true, None, Some, refl, is_sign, Lawful}
use Rattle.ddl_part_laws.proofs.{Simple.seen_avoids, Composing.headed_seen, Composing.one_sign, Composing.lawful_seen, Composing.lawful_choose}
use Rattle.ddl_grammar.specs.{Syntax.part, Grammar.index_body, Grammar.created_relation, Grammar.create_enum, Grammar.create_domain, Grammar.create_table, Grammar.create_database, Grammar.created, Grammar.new_owner, Grammar.constraint_body, Grammar.own_change, Grammar.table_change, Grammar.altered_table, Grammar.altered_domain, Grammar.altered_sequence, Grammar.altered, Grammar.set_value, Grammar.selected, Grammar.remark_end, Grammar.path_remarked, Grammar.commented_object, Grammar.setting, Grammar.copy_from, Grammar.command, Grammar.statement}
use Rattle.ddl_syntax_laws.proofs.{LeafReading.is_word_kind, LeafReading.words_no_sign, LeafReading.leaf_ends, Lawfully.ends, Lawfully.begins, Lawfully.told, Lawfully.known}

-- ---- statements

pub command_told : told command ≡ true
unfolding told ends begins leaf_ends index_body created_relation create_enum create_domain create_table create_database created new_owner constraint_body own_change table_change altered_table altered_domain altered_sequence altered set_value selected remark_end path_remarked commented_object setting copy_from command
command_told = refl

pub statement_laws : Lawful statement
unfolding statement begins command
statement_laws =
    let is = known command command_told in
    lawful_choose (headed_seen (λ x. None) (one_sign 59)) (lawful_seen Some is.laws) (seen_avoids (is_sign 59) Some (part command) (is.avoids is_word_kind (is_sign 59) (words_no_sign 59) refl))

-- ---- the definitions of a constraint and of an index

pub constraint_body_laws : Lawful (part constraint_body)
unfolding told ends begins leaf_ends constraint_body
constraint_body_laws = (known constraint_body refl).laws

pub index_body_laws : Lawful (part index_body)
unfolding told ends begins leaf_ends index_body
index_body_laws = (known index_body refl).laws
