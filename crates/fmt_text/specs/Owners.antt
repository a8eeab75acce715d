-- The owner statement of an entry: ALTER .. OWNER TO, which gives the object of an entry to its owner.
-- Entries of six kinds have one, where the entry tells an owner and its names can be names.
use Rattle.std.specs.Prelude.{ℕ, Bool, List, [], ◌++◌, Option, Some, None, option_and_then, if◌then◌else◌, codes}
use Rattle.std.specs.Option.{option_map}
use Rattle.std.specs.Str.{bytes_eq}
use Rattle.copy_text.specs.Texts.{is_name}
use Rattle.cat_model.specs.declared.object.QName.{QName}
use Rattle.cat_model.specs.declared.grant.Owned.{Owned}
use Rattle.cat_model.specs.declared.grant.Owned.TheVariants as owned
use Rattle.cat_model.specs.declared.stmt.Stmt.TheVariants as stmt
use Rattle.ddl_write.specs.Respelling.{spelling}
use Rattle.toc_entry.specs.declared.entry.Entry.{Entry}
use Rattle.fmt_text.specs.declared.owner.OwnedKind.{OwnedKind}
use Rattle.fmt_text.specs.declared.owner.OwnedKind.TheVariants as kinds

-- ---- which statement

-- the kinds of entries whose objects have an owner
unfoldable pub kind_of : List ℕ → Option OwnedKind
kind_of desc =
    if bytes_eq desc (codes "SCHEMA") then Some kinds.Schema
    else (if bytes_eq desc (codes "TYPE") then Some kinds.Type
    else (if bytes_eq desc (codes "DOMAIN") then Some kinds.Domain
    else (if bytes_eq desc (codes "TABLE") then Some kinds.Table
    else (if bytes_eq desc (codes "SEQUENCE") then Some kinds.Sequence
    else (if bytes_eq desc (codes "VIEW") then Some kinds.View
    else None)))))

-- a text that is a name
unfoldable pub name_in : List ℕ → Option (List ℕ)
name_in text = if is_name text then Some text else None

abbrev pub joined : Option (List ℕ) → Option (List ℕ) → Option QName
joined (Some schema) (Some name) = Some (record { schema = schema; name = name })
joined schema name = None

-- the path of an object in a schema
unfoldable pub path_of : Entry → Option QName
path_of e = joined (option_and_then name_in e.namespace) (name_in e.tag)

-- the object of an entry of this kind
abbrev pub object_of : Entry → Option OwnedKind → Option Owned
object_of e None = None
object_of e (Some kinds.Schema) = option_map owned.Schema (name_in e.tag)
object_of e (Some kinds.Type) = option_map owned.Type (path_of e)
object_of e (Some kinds.Domain) = option_map owned.Domain (path_of e)
object_of e (Some kinds.Table) = option_map owned.Table (path_of e)
object_of e (Some kinds.Sequence) = option_map owned.Sequence (path_of e)
object_of e (Some kinds.View) = option_map owned.View (path_of e)

-- the object that an entry gives an owner
unfoldable pub owned_object : Entry → Option Owned
owned_object e = object_of e (kind_of e.desc)

-- ---- its text

abbrev pub given : Option Owned → Option (List ℕ) → List ℕ
given (Some object) (Some role) = spelling (stmt.OwnerTo object role) ++ codes "\n"
given object role = []

-- the owner statement of an entry and an empty line, in a script with owners
unfoldable pub owner_part : Bool → Entry → List ℕ
owner_part owners e = if owners then given (owned_object e) (option_and_then name_in e.owner) else []
