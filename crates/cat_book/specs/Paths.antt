-- Paths of types and relations: an object's name, and the name of its schema.
use Rattle.std.specs.Prelude.{ℕ, Bool, ◌&&◌, List, Option, option_map, filter_map}
use Rattle.std.specs.List.{find}
use Rattle.std.specs.Option.{option_and_then}
use Rattle.std.specs.declared.cmp.Ordering.{Ordering}
use Rattle.std.specs.Ordering.{ordering_then}
use Rattle.cat_rows.specs.declared.catalogue.Catalogue.{Catalogue}
use Rattle.cat_rows.specs.declared.schemas.NamespaceRow.{NamespaceRow}
use Rattle.cat_rows.specs.declared.types.TypeRow.{TypeRow}
use Rattle.cat_rows.specs.declared.relations.ClassRow.{ClassRow}
use Rattle.cat_model.specs.declared.object.QName.{QName}
use Rattle.cat_model.specs.Lexemes.{same_text}
use Rattle.cat_model.specs.Values.{Bytes, bytes_cmp}
use Rattle.cat_names.specs.Kinds.{class_of}
use Rattle.cat_names.specs.Lookups.{same_oid, has_key}
use Rattle.cat_book.specs.Chains.{type_of}

-- the first schema of an oid
abbrev pub schema_of : List NamespaceRow → ℕ → Option NamespaceRow
schema_of schemas oid = find (λ s. same_oid oid s.oid) schemas

-- the path of a name in the schema of an oid; none where no schema has the oid
abbrev pub path_in : List NamespaceRow → ℕ → Bytes → Option QName
path_in schemas oid name = option_map (λ s. record { schema = s.nspname; name = name }) (schema_of schemas oid)

abbrev pub type_path : List NamespaceRow → TypeRow → Option QName
type_path schemas row = path_in schemas row.typnamespace row.typname

abbrev pub class_path : List NamespaceRow → ClassRow → Option QName
class_path schemas row = path_in schemas row.relnamespace row.relname

-- the path of the first relation of an oid, and of the first type
abbrev pub class_path_of : Catalogue → ℕ → Option QName
class_path_of cat oid = option_and_then (class_path cat.pg_namespace) (class_of cat.pg_class oid)

abbrev pub path_of : Catalogue → ℕ → Option QName
path_of cat oid = option_and_then (type_path cat.pg_namespace) (type_of cat.pg_type oid)

abbrev pub path_cmp : QName → QName → Ordering
path_cmp a b = ordering_then (bytes_cmp a.schema b.schema) (bytes_cmp a.name b.name)

abbrev pub same_path : QName → QName → Bool
same_path a b = same_text a.schema b.schema && same_text a.name b.name

-- the paths of the types, and those of the relations of any kind
abbrev pub type_paths : Catalogue → List QName
type_paths cat = filter_map (type_path cat.pg_namespace) cat.pg_type

abbrev pub class_paths : Catalogue → List QName
class_paths cat = filter_map (class_path cat.pg_namespace) cat.pg_class

-- whether one of these paths is the given one
abbrev pub has_path : List QName → QName → Bool
has_path = has_key path_cmp
