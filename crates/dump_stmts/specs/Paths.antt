-- The path by which an object is found, and statements as texts.
use Rattle.std.specs.Prelude.{Bool, [], Option, Some, None, codes}
use Rattle.std.specs.Str.{bytes_eq}
use Rattle.cat_model.specs.declared.object.QName.{QName}
use Rattle.cat_model.specs.declared.stmt.Stmt.{Stmt}
use Rattle.cat_model.specs.Values.{Bytes}
use Rattle.ddl_write.specs.Respelling.{spelling}
use Rattle.graph_parts.specs.declared.object.Obj.{Obj}

abbrev pub joined : Option Bytes → Option Bytes → Option QName
joined (Some schema) (Some name) = Some (record { schema = schema; name = name })
joined schema name = None

-- its own path, or that of the relation whose names it carries; a schema has none
abbrev pub path_of : Obj → Option QName
path_of o = joined o.schema o.name

-- the one spelling of a statement; nothing where there is no statement
abbrev pub written : Option Stmt → Bytes
written None = []
written (Some s) = spelling s

-- each database has the schema public from the start
abbrev pub is_public : Bytes → Bool
is_public name = bytes_eq name (codes "public")
