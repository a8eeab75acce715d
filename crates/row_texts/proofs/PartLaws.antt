-- The texts of indexes, of sequences' types and of views have the laws of a part.
use Rattle.std.proofs.Common.{Bool, true, false, refl, codes, [], ◌∷◌}
use Rattle.cat_model.specs.declared.object.QName.{QName}
use Rattle.cat_model.specs.declared.constraint.SequenceKind.TheVariants.{SmallInt, Integer, BigInt}
use Rattle.cat_model.specs.Values.{Bytes}
use Rattle.ddl_part_laws.specs.Expressions.{expression}
use Rattle.ddl_part_laws.specs.Laws.{Lawful, Begins}
use Rattle.ddl_part_laws.specs.Leaves.{name, qualified}
use Rattle.ddl_part_laws.specs.Lexemes.{is_word, never}
use Rattle.ddl_part_laws.specs.Parts.{Part, choose, ◌then◌, ◌▸◌}
use Rattle.ddl_part_laws.proofs.Steps.{avoids_never}
use Rattle.ddl_part_laws.proofs.Simple.{nothing_laws, seen_laws, seen_begins}
use Rattle.ddl_part_laws.proofs.Sequence.{then_laws, lead_begins}
use Rattle.ddl_part_laws.proofs.Choice.{choose_apart}
use Rattle.ddl_part_laws.proofs.Shorter.{word_agrees}
use Rattle.ddl_part_laws.proofs.{Leads.name_laws, Leads.qualified_laws, Leads.word_laws, Leads.ended_laws, Basics.words_apart}
use Rattle.ddl_part_laws.proofs.RunLaws.{expression_laws, expression_ends}
use Rattle.ddl_part_laws.proofs.Tables.{one_of_laws}
use Rattle.row_texts.specs.IndexTexts.{Named, named_index, index_of, index_part, index_text}
use Rattle.row_texts.specs.SequenceTypes.{type_word, sequence_type}
use Rattle.row_texts.specs.ViewTexts.{view_text}

pub view_text_laws : Lawful view_text
unfolding view_text
view_text_laws = ended_laws 59 expression expression_laws expression_ends

pub sequence_type_laws : Lawful sequence_type
unfolding sequence_type
sequence_type_laws =
    one_of_laws (type_word (codes "smallint") SmallInt) (type_word (codes "integer") Integer ∷ type_word (codes "bigint") BigInt ∷ []) refl
    (nothing_laws never SmallInt, (nothing_laws never Integer, nothing_laws never BigInt))

-- ---- indexes

abbrev method_end : Part (Bytes × Bytes)
method_end = name then expression

abbrev path_end : Part (QName × (Bytes × Bytes))
path_end = qualified then (is_word (codes "using") ▸ method_end)

abbrev name_end : Part Named
name_end = name then (is_word (codes "on") ▸ path_end)

named_index_laws : Lawful named_index
unfolding named_index
named_index_laws =
    word_laws (codes "index") refl name_end
    (then_laws name (is_word (codes "on") ▸ path_end) name_laws
    (word_laws (codes "on") refl path_end
    (then_laws qualified (is_word (codes "using") ▸ method_end) qualified_laws
    (word_laws (codes "using") refl method_end (then_laws name expression name_laws expression_laws (avoids_never expression)))
    (avoids_never (is_word (codes "using") ▸ method_end))))
    (avoids_never (is_word (codes "on") ▸ path_end)))

named_index_begins : Begins (is_word (codes "index")) named_index
unfolding named_index
named_index_begins = lead_begins (is_word (codes "index")) name_end

index_part_laws : (unique : Bool) → Lawful (index_part unique)
index_part_laws unique = seen_laws (index_of unique) named_index named_index_laws

pub index_text_laws : Lawful index_text
unfolding index_text
index_text_laws =
    let behind_unique = is_word (codes "unique") ▸ index_part true in
    word_laws (codes "create") refl (choose (is_word (codes "unique")) behind_unique (index_part false))
    (choose_apart (is_word (codes "unique")) (is_word (codes "index")) (word_agrees (codes "unique") refl) behind_unique (index_part false)
    (word_laws (codes "unique") refl (index_part true) (index_part_laws true))
    (index_part_laws false)
    (lead_begins (is_word (codes "unique")) (index_part true))
    (seen_begins (is_word (codes "index")) (index_of false) named_index named_index_begins)
    (words_apart (codes "index") (codes "unique") refl))
