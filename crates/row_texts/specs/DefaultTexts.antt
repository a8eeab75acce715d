-- What the text of a default says, of a column or of a domain: one expression, kept from its first token to its last.
-- Outside brackets it has no comma, no DEFAULT, no CONSTRAINT and no NOT NULL.
use Rattle.std.specs.Prelude.{Bool, Option, is_some}
use Rattle.cat_model.specs.Values.{Bytes}
use Rattle.ddl_part_laws.specs.Expressions.{default_text}
use Rattle.row_texts.specs.Texts.{whole}

unfoldable pub default_said : Bytes → Option Bytes
default_said text = whole default_text text

-- whether a text is a default
unfoldable pub is_default : Bytes → Bool
is_default text = is_some (default_said text)
