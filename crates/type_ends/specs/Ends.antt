-- What a type is at the end of its chain of domains, and the labels of enums.
use Rattle.std.specs.Prelude.{ℕ, zero, suc, false, ◌||◌, List, length, map, Option, Some, None, if◌then◌else◌}
use Rattle.std.specs.List.{filter}
use Rattle.std.specs.Option.{option_map, option_and_then}
use Rattle.cat_rows.specs.declared.catalogue.Catalogue.{Catalogue}
use Rattle.cat_rows.specs.declared.types.TypeRow.{TypeRow}
use Rattle.cat_model.specs.declared.object.QName.{QName}
use Rattle.cat_model.specs.declared.type_name.TypeName.TheVariants.{Path}
use Rattle.cat_model.specs.TypeEffects.{as_it_is}
use Rattle.cat_model.specs.declared.value.Resolved.{Resolved}
use Rattle.cat_model.specs.Values.{Bytes}
use Rattle.cat_names.specs.Lookups.{same_oid, is_no_oid}
use Rattle.cat_book.specs.Chains.{type_of, is_domain_letter}
use Rattle.cat_book.specs.Paths.{type_path}
use Rattle.row_texts.specs.TypeTexts.{type_named}
use Rattle.oid_groups.specs.Orders.{by_number}

-- ---- enums

-- the labels of an enum, in the order of their positions
abbrev pub labels_of : Catalogue → ℕ → List Bytes
labels_of cat oid = map (λ e. e.enumlabel) (by_number (λ e. e.enumpos) (filter (λ e. same_oid oid e.enumtypid) cat.pg_enum))

-- ---- what a type is at the end of its chain

abbrev pub enum_resolved : QName → List Bytes → Resolved
enum_resolved path labels = record { type_name = Path path; labels = Some labels; not_null = false }

-- a domain takes no null where it says so, or where its base takes none
abbrev pub over : TypeRow → Resolved → Resolved
over row base = record base { not_null = base.not_null || row.typnotnull }

-- A type by its text and its oid, with at most n domains in its chain: one without a row is what it is, an enum has its
-- labels, and a domain is what its base is.
unfoldable pub resolved_within : ℕ → Catalogue → ℕ → Bytes → Option Resolved
resolved_within zero cat oid text = None
resolved_within (suc n) cat oid text =
    if is_no_oid oid then option_map as_it_is (type_named text)
    else option_and_then (λ row.
    if is_domain_letter row.typtype
    then option_map (over row) (resolved_within n cat row.typbasetype row.basetext)
    else option_map (λ path. enum_resolved path (labels_of cat row.oid)) (type_path cat.pg_namespace row))
    (type_of cat.pg_type oid)

-- a chain that ends has no more domains than there are types
abbrev pub resolved : Catalogue → ℕ → Bytes → Option Resolved
resolved cat oid text = resolved_within (suc (length cat.pg_type)) cat oid text
