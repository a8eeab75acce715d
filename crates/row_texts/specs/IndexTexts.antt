-- What the text of an index says. It is the statement that makes the index, without its semicolon, as PostgreSQL writes
-- it: CREATE INDEX, or CREATE UNIQUE INDEX, a name ON a path USING a method, and the rest from a bracket on.
use Rattle.std.specs.Prelude.{Bool, true, false, ◌==◌, [], ◌∷◌, Option, Some, None, if◌then◌else◌, codes}
use Rattle.std.specs.Option.{option_and_then}
use Rattle.cat_model.specs.declared.object.QName.{QName}
use Rattle.cat_model.specs.Values.{Bytes}
use Rattle.ddl_part_laws.specs.Expressions.{expression}
use Rattle.ddl_part_laws.specs.Leaves.{name, qualified}
use Rattle.ddl_part_laws.specs.Lexemes.{is_word}
use Rattle.ddl_part_laws.specs.Parts.{Part, seen, choose, ◌then◌, ◌▸◌}
use Rattle.row_texts.specs.declared.index_text.IndexText.{IndexText}
use Rattle.row_texts.specs.Texts.{whole}

-- its name, its table's path, its method, and the rest
abbrev pub Named : Type 0
Named = Bytes × (QName × (Bytes × Bytes))

-- INDEX name ON path USING method rest
unfoldable pub named_index : Part Named
named_index = is_word (codes "index") ▸ (name then (is_word (codes "on") ▸ (qualified then (is_word (codes "using") ▸ (name then expression)))))

abbrev pub index_of : Bool → Named → IndexText
index_of unique x = record { unique = unique; name = x.0; table = x.1.0; method = x.1.1.0; rest = x.1.1.1 }

-- the same as an index, which is unique or not
abbrev pub index_part : Bool → Part IndexText
index_part unique = seen (index_of unique) named_index

-- CREATE UNIQUE INDEX .., or CREATE INDEX ..
unfoldable pub index_text : Part IndexText
index_text = is_word (codes "create") ▸ choose (is_word (codes "unique")) (is_word (codes "unique") ▸ index_part true) (index_part false)

-- the text begins with an opening bracket
abbrev pub is_bracketed : Bytes → Bool
is_bracketed [] = false
is_bracketed (b ∷ bs) = b == 40

abbrev pub if_bracketed : IndexText → Option IndexText
if_bracketed said = if is_bracketed said.rest then Some said else None

-- what the text of an index says
unfoldable pub index_said : Bytes → Option IndexText
index_said text = option_and_then if_bracketed (whole index_text text)
