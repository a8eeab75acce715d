-- The conditions of pg_type.
use Rattle.std.specs.Prelude.{ℕ, Bool, true, not, ◌||◌, ◌&&◌, ◌==◌, Option, Some, None, if◌then◌else◌}
use Rattle.cat_rows.specs.declared.catalogue.Catalogue.{Catalogue}
use Rattle.cat_rows.specs.declared.types.TypeRow.{TypeRow}
use Rattle.cat_model.specs.declared.object.QName.{QName}
use Rattle.cat_model.specs.declared.words.What.{What}
use Rattle.cat_model.specs.declared.words.What.TheVariants as what
use Rattle.cat_model.specs.Values.{Bytes}
use Rattle.cat_names.specs.declared.rights.GrantKind.TheVariants as on
use Rattle.cat_names.specs.Lookups.{has_oid, is_role, role_name, schema_oids}
use Rattle.cat_names.specs.Findings.{left_out_first}
use Rattle.cat_names.specs.Rights.{is_bad_acl, is_by_other, other_left_out}
use Rattle.cat_book.specs.Chains.{is_domain_letter, chain_ends}
use Rattle.cat_book.specs.Leads.{is_base_there}
use Rattle.cat_book.specs.Paths.{type_path}
use Rattle.cat_book.specs.Rules.{Rules, named_in}
use Rattle.text_tables.specs.Agreeing.{is_type_named, is_met_default}

-- the schema, the owner and the base are there
abbrev pub is_there : Catalogue → TypeRow → Bool
is_there cat row = has_oid (schema_oids cat.pg_namespace) row.typnamespace && (is_role cat.pg_authid row.typowner && is_base_there cat.pg_type row.typbasetype)

-- a default, if there is one, is an expression whose references are met
abbrev pub is_good_default : Catalogue → Option QName → Option Bytes → Bool
is_good_default cat own None = true
is_good_default cat own (Some text) = is_met_default cat own text

-- a domain names its base, the chain of its bases ends, and its default is good
abbrev pub is_good_domain : Catalogue → TypeRow → Bool
is_good_domain cat row =
    is_type_named cat row.typbasetype row.basetext
    && (chain_ends cat.pg_type row
    && is_good_default cat (type_path cat.pg_namespace row) row.typdefault)

-- a bad list of rights, or a bad domain
abbrev pub is_bad_type : Catalogue → TypeRow → Bool
is_bad_type cat row = is_bad_acl on.Type cat.pg_authid row.typacl || (is_domain_letter row.typtype && not (is_good_domain cat row))

-- types are enums and domains
abbrev pub kind_left_out : ℕ → Option What
kind_left_out letter = if letter == 101 || is_domain_letter letter then None else Some (what.TypeKind letter)

-- the first of what is left out
abbrev pub type_left_out : Catalogue → TypeRow → Option What
type_left_out cat row =
    left_out_first (kind_left_out row.typtype) (other_left_out (is_by_other (role_name cat.pg_authid row.typowner) row.typacl))

-- oids are distinct, names within a schema; what a type leads to is there; its rights are those of types, and domains are
-- good
abbrev pub type_rules : Rules Catalogue TypeRow
type_rules = record {
  keys = λ row. named_in row.oid row.typnamespace row.typname;
  unmet = λ cat row. record { dangles = not (is_there cat row); is_bad = is_bad_type cat row; left_out = type_left_out cat row };
  needed = λ cat. true;
}
