-- What the rows of pg_type, pg_enum and the checks of domains stand for by names.
use Rattle.std.specs.Prelude.{ℕ, List, [], ◌∷◌, filter_map, Option, Some, None, if◌then◌else◌}
use Rattle.std.specs.List.{filter}
use Rattle.std.specs.Option.{option_map, option_and_then}
use Rattle.std.specs.FinMap.{from_entries}
use Rattle.cat_rows.specs.declared.catalogue.Catalogue.{Catalogue}
use Rattle.cat_rows.specs.declared.constraints.ConstraintRow.{ConstraintRow}
use Rattle.cat_rows.specs.declared.types.TypeRow.{TypeRow}
use Rattle.cat_model.specs.declared.object.QName.{QName}
use Rattle.cat_model.specs.declared.object.Object.TheVariants as object
use Rattle.cat_model.specs.declared.key.Key.TheVariants as key
use Rattle.cat_model.specs.declared.stmt.Stmt.{Stmt}
use Rattle.cat_model.specs.declared.stmt.Stmt.TheVariants as stmt
use Rattle.cat_model.specs.declared.type_name.TypeName.{TypeName}
use Rattle.cat_model.specs.declared.value.Value.TheVariants as value
use Rattle.cat_model.specs.declared.value.Value.{Value}
use Rattle.cat_model.specs.declared.value.Resolved.{Resolved}
use Rattle.cat_model.specs.declared.value.Domain.{Domain}
use Rattle.cat_model.specs.Values.{Bytes}
use Rattle.cat_names.specs.declared.rights.GrantKind.TheVariants as on
use Rattle.cat_names.specs.Grants.{grants_of}
use Rattle.cat_names.specs.Lookups.{same_oid, role_name}
use Rattle.cat_names.specs.Naming.{Entry, under}
use Rattle.cat_book.specs.Chains.{is_domain_letter}
use Rattle.cat_book.specs.Paths.{type_path}
use Rattle.row_texts.specs.DefaultTexts.{default_said}
use Rattle.row_texts.specs.TypeTexts.{type_named}
use Rattle.constraint_table.specs.Said.{statement_said}
use Rattle.cat_lookups.specs.Ends.{labels_of, resolved}

-- what stands under a path; nothing where an oid leads to no row
abbrev pub under_path : Option QName → (QName → List Entry) → List Entry
under_path None entries = []
under_path (Some path) entries = entries path

-- ---- domains

-- a type as a text names it, with what it is at the end of its chain
abbrev pub typed : Catalogue → ℕ → Bytes → Option (TypeName × Resolved)
typed cat oid text = option_and_then (λ name. option_map (λ end. (name, end)) (resolved cat oid text)) (type_named text)

-- the text between the brackets of a check
abbrev pub check_said : Stmt → Option Bytes
check_said (stmt.AddCheck q name text) = Some text
check_said _ = None

abbrev pub check_of : ConstraintRow → Option (Bytes × Bytes)
check_of row = option_map (λ text. (row.conname, text)) (option_and_then check_said (statement_said row.condef))

-- the checks of a domain, by name
abbrev pub checks_of : Catalogue → ℕ → List (Bytes × Bytes)
checks_of cat oid = filter_map check_of (filter (λ c. same_oid oid c.contypid) cat.pg_constraint)

abbrev pub domain_of : Catalogue → TypeRow → TypeName × Resolved → Domain
domain_of cat row base = record {
  base = base.0;
  resolved = base.1;
  not_null = row.typnotnull;
  «default» = option_and_then default_said row.typdefault;
  checks = from_entries (checks_of cat row.oid);
}

-- ---- the rows

-- an enum's labels, or a domain
abbrev pub type_value : Catalogue → TypeRow → Option Value
type_value cat row =
    if is_domain_letter row.typtype
    then option_map (λ base. value.Domain (domain_of cat row base)) (typed cat row.typbasetype row.basetext)
    else Some (value.Enum (labels_of cat row.oid))

abbrev pub with_value : Option Value → (Value → List Entry) → List Entry
with_value None entries = []
with_value (Some v) entries = entries v

-- the owner and the grants of a type of this path
abbrev pub type_rights : TypeRow → QName → Bytes → List Entry
type_rights row path owner =
    (key.Owner (object.Type path), value.Owner owner)
    ∷ (key.Acl (object.Type path), value.Grants (grants_of on.Type owner row.typacl))
    ∷ []

-- a type of this path and owner, with its owner and its grants
abbrev pub owned_type : Catalogue → TypeRow → QName → Bytes → List Entry
owned_type cat row path owner = with_value (type_value cat row) (λ v. (key.UserType path, v) ∷ type_rights row path owner)

abbrev pub type_entries : Catalogue → TypeRow → List Entry
type_entries cat row =
    under_path (type_path cat.pg_namespace row) (λ path.
    under (role_name cat.pg_authid row.typowner) (owned_type cat row path))
