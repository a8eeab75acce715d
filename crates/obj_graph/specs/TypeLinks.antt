-- What a type depends on: its schema; a domain also the type that it is over, and what its default and its checks refer to.
use Rattle.std.specs.Prelude.{List, [], ◌∷◌, Option, Some, None, if◌then◌else◌}
use Rattle.cat_rows.specs.declared.catalogue.Catalogue.{Catalogue}
use Rattle.cat_rows.specs.declared.types.TypeRow.{TypeRow}
use Rattle.cat_model.specs.References.{expression_references}
use Rattle.cat_model.specs.Values.{Bytes}
use Rattle.cat_book.specs.Chains.{is_domain_letter}
use Rattle.obj_graph.specs.Ids.{schema_id, type_id}
use Rattle.obj_graph.specs.declared.link.Link.{Link}
use Rattle.obj_graph.specs.Links.{link, reference_links}

-- what the default of a domain, if it has one, refers to
abbrev pub domain_default_links : Catalogue → TypeRow → Option Bytes → List Link
domain_default_links cat row None = []
domain_default_links cat row (Some text) = reference_links cat (link (type_id row.oid)) (expression_references text)

-- a base of 0 is no type, nor is any object's oid 0
abbrev pub domain_links : Catalogue → TypeRow → List Link
domain_links cat row =
    if is_domain_letter row.typtype
    then link (type_id row.oid) (type_id row.typbasetype) ∷ domain_default_links cat row row.typdefault
    else []

unfoldable pub type_links : Catalogue → TypeRow → List Link
type_links cat row = link (type_id row.oid) (schema_id row.typnamespace) ∷ domain_links cat row
