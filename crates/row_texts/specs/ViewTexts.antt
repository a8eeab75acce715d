-- The body that the text of a view holds: an expression with one semicolon behind it.
-- The body is kept from its first token to its last, without the semicolon.
use Rattle.std.specs.Prelude.{Option}
use Rattle.cat_model.specs.Values.{Bytes}
use Rattle.ddl_part_laws.specs.Expressions.{expression}
use Rattle.ddl_part_laws.specs.Lexemes.{is_sign}
use Rattle.ddl_part_laws.specs.Parts.{Part, ◌◂◌}
use Rattle.row_texts.specs.Texts.{whole}

unfoldable pub view_text : Part Bytes
view_text = expression ◂ is_sign 59

-- the body in the text of a view
unfoldable pub view_body : Bytes → Option Bytes
view_body text = whole view_text text
