-- The single steps of the chains, and what stands at their ends.
use Rattle.std.specs.Prelude.{ℕ, Bool, false, ◌==◌, ◌&&◌, List, map, Option, Some, None, option_map, unwrap_or, if◌then◌else◌}
use Rattle.std.specs.List.{enumerate_from}
use Rattle.cat_rows.specs.declared.catalogue.Catalogue.{Catalogue}
use Rattle.cat_rows.specs.declared.types.TypeRow.{TypeRow}
use Rattle.cat_model.specs.declared.object.QName.{QName}
use Rattle.cat_model.specs.declared.type_name.TypeName.{TypeName}
use Rattle.cat_model.specs.declared.type_name.TypeName.TheVariants.{Path}
use Rattle.cat_model.specs.Values.{Bytes}
use Rattle.cat_names.specs.Lookups.{place_of, is_no_oid}
use Rattle.cat_book.specs.Chains.{is_domain_letter, has_base}
use Rattle.cat_book.specs.Paths.{type_path}
use Rattle.row_texts.specs.TypeTexts.{type_named}
use Rattle.cat_book.specs.Leads.{type_oids}
use Rattle.type_ends.specs.declared.ends.Base.{Base}
use Rattle.type_ends.specs.declared.jumps.Jump.{Jump}
use Rattle.type_ends.specs.Ends.{labels_of}

-- ---- steps

-- the place of the type that a domain is over, among types of these oids
abbrev pub base_among : List ℕ → TypeRow → Option ℕ
base_among oids row = if has_base row then place_of row.typbasetype oids else None

-- the step of the type at a place: to its base, or nowhere
unfoldable pub step_of : List ℕ → ℕ → TypeRow → Jump
step_of oids place row = record {
  place = unwrap_or (base_among oids row) place;
  not_null = is_domain_letter row.typtype && row.typnotnull;
}

-- the steps of all types, which have these oids
abbrev pub steps_among : List ℕ → List TypeRow → List Jump
steps_among oids types = map (λ e. step_of oids e.0 e.1) (enumerate_from 0 types)

abbrev pub steps_of : List TypeRow → List Jump
steps_of types = steps_among (type_oids types) types

-- ---- ends

abbrev pub enum_base : QName → List Bytes → Base
enum_base path labels = record { type_name = Path path; labels = Some labels }

abbrev pub other_base : TypeName → Base
other_base name = record { type_name = name; labels = None }

-- What a chain that ends with a type has at its end: the enum, or what a domain is over that is over no type of pg_type.
-- A domain over a type ends no chain, unless that type isn't there.
abbrev pub base_at_end : Catalogue → TypeRow → Option Base
base_at_end cat row =
    if is_domain_letter row.typtype
    then if is_no_oid row.typbasetype then option_map other_base (type_named row.basetext) else None
    else option_map (λ path. enum_base path (labels_of cat row.oid)) (type_path cat.pg_namespace row)

-- whether a place is this one
abbrev pub is_place : ℕ → Option ℕ → Bool
is_place place None = false
is_place place (Some other) = other == place

-- Chains lead to types by their oids, so to the first of each oid; further types of an oid are at no end.
unfoldable pub base_at_place : Catalogue → ℕ → TypeRow → Option Base
base_at_place cat place row = if is_place place (place_of row.oid (type_oids cat.pg_type)) then base_at_end cat row else None

-- what stands at the ends, by the places of the types
abbrev pub bases_of : Catalogue → List (Option Base)
bases_of cat = map (λ e. base_at_place cat e.0 e.1) (enumerate_from 0 cat.pg_type)
