-- The type that the text of a column or of a domain's base names.
-- It is spelled by words, of which numbers in brackets may follow one, or by a qualified name.
use Rattle.std.specs.Prelude.{Option}
use Rattle.cat_model.specs.declared.type_name.TypeName.{TypeName}
use Rattle.cat_model.specs.Values.{Bytes}
use Rattle.ddl_part_laws.specs.Types.{type_part}
use Rattle.row_texts.specs.Texts.{whole}

unfoldable pub type_named : Bytes → Option TypeName
type_named text = whole type_part text
