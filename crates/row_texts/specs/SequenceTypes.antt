-- The type that the text of a sequence's type names: smallint, integer or bigint, in any letter case.
-- No other type is one of a sequence.
use Rattle.std.specs.Prelude.{[], ◌∷◌, Option, codes}
use Rattle.cat_model.specs.declared.constraint.SequenceKind.{SequenceKind}
use Rattle.cat_model.specs.declared.constraint.SequenceKind.TheVariants.{SmallInt, Integer, BigInt}
use Rattle.cat_model.specs.Values.{Bytes}
use Rattle.ddl_part_laws.specs.Lexemes.{never}
use Rattle.ddl_part_laws.specs.Parts.{Part, Branch, one_of, nothing}
use Rattle.row_texts.specs.Texts.{whole}

-- a word that stands for a type
abbrev pub type_word : Bytes → SequenceKind → Branch SequenceKind
type_word key kind = record { key = key; part = nothing never kind }

-- the type of a sequence
unfoldable pub sequence_type : Part SequenceKind
sequence_type = one_of (type_word (codes "smallint") SmallInt) (type_word (codes "integer") Integer ∷ type_word (codes "bigint") BigInt ∷ [])

-- the type that a text names
unfoldable pub sequence_kind : Bytes → Option SequenceKind
sequence_kind text = whole sequence_type text
