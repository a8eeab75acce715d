-- The oids that the rows of an opening give, to what each row is of, and the numbers that its columns have.
use Rattle.std.specs.Prelude.{ℕ, zero, suc, ℤ, pos, negsuc, ◌==◌, List, [], ◌∷◌, Option, Some, None, if◌then◌else◌}
use Rattle.std.specs.FinMap.{insert}
use Rattle.std.specs.Option.{option_map, option_and_then}
use Rattle.cat_rows.specs.declared.catalogue.Catalogue.{Catalogue}
use Rattle.cat_rows.specs.declared.constraints.ConstraintRow.{ConstraintRow}
use Rattle.cat_rows.specs.declared.notes.DependRow.{DependRow}
use Rattle.cat_rows.specs.declared.relations.AttrdefRow.{AttrdefRow}
use Rattle.cat_rows.specs.declared.relations.AttributeRow.{AttributeRow}
use Rattle.cat_rows.specs.declared.relations.ClassRow.{ClassRow}
use Rattle.cat_rows.specs.declared.relations.RewriteRow.{RewriteRow}
use Rattle.cat_rows.specs.declared.roles.AuthidRow.{AuthidRow}
use Rattle.cat_rows.specs.declared.roles.AuthMembersRow.{AuthMembersRow}
use Rattle.cat_rows.specs.declared.roles.DatabaseRow.{DatabaseRow}
use Rattle.cat_rows.specs.declared.schemas.NamespaceRow.{NamespaceRow}
use Rattle.cat_rows.specs.declared.types.EnumRow.{EnumRow}
use Rattle.cat_rows.specs.declared.types.TypeRow.{TypeRow}
use Rattle.cat_model.specs.declared.object.QName.{QName}
use Rattle.cat_model.specs.declared.key.Key.TheVariants as key
use Rattle.cat_model.specs.Values.{Bytes}
use Rattle.cat_names.specs.Lookups.{role_name}
use Rattle.cat_book.specs.Paths.{class_path, class_path_of, type_path, path_of}
use Rattle.cat_lookups.specs.Found.{column_name}
use Rattle.column_numbers.specs.Numbers.{NumbersOf}
use Rattle.object_ids.specs.Slots.{Slot, object, check, label}
use Rattle.object_ids.specs.Ids.{IdsOf, none, with_id, avoiding}

-- ---- what a row is of, where it leads to something

abbrev pub of_role : AuthidRow → Option Slot
of_role r = Some (object (key.Role r.rolname))

abbrev pub of_database : DatabaseRow → Option Slot
of_database r = Some (object (key.Database r.datname))

abbrev pub of_schema : NamespaceRow → Option Slot
of_schema r = Some (object (key.Schema r.nspname))

abbrev pub member_slot : Option Bytes → Option Bytes → Option Bytes → Option Slot
member_slot (Some role) (Some member) (Some grantor) = Some (object (key.Member role member grantor))
member_slot _ _ _ = None

abbrev pub of_member : Catalogue → AuthMembersRow → Option Slot
of_member cat r = member_slot (role_name cat.pg_authid r.roleid) (role_name cat.pg_authid r.member) (role_name cat.pg_authid r.grantor)

abbrev pub of_type : Catalogue → TypeRow → Option Slot
of_type cat r = option_map (λ q. object (key.UserType q)) (type_path cat.pg_namespace r)

-- places are counted from 1
abbrev pub place_slot : QName → ℤ → Option Slot
place_slot q (pos zero) = None
place_slot q (pos (suc n)) = Some (label q n)
place_slot q (negsuc n) = None

abbrev pub of_label : Catalogue → EnumRow → Option Slot
of_label cat r = option_and_then (λ q. place_slot q r.enumpos) (path_of cat r.enumtypid)

abbrev pub of_relation : Catalogue → ClassRow → Option Slot
of_relation cat r = option_map (λ q. object (key.Rel q)) (class_path cat.pg_namespace r)

abbrev pub default_slot : Option QName → Option Bytes → Option Slot
default_slot (Some q) (Some column) = Some (object (key.Default q column))
default_slot _ _ = None

abbrev pub of_default : Catalogue → AttrdefRow → Option Slot
of_default cat r = default_slot (class_path_of cat r.adrelid) (column_name cat r.adrelid r.adnum)

-- of a domain where it is of no table
abbrev pub of_constraint : Catalogue → ConstraintRow → Option Slot
of_constraint cat r =
    if r.conrelid == 0
    then option_map (λ q. check q r.conname) (path_of cat r.contypid)
    else option_map (λ q. object (key.Con q r.conname)) (class_path_of cat r.conrelid)

abbrev pub of_body : Catalogue → RewriteRow → Option Slot
of_body cat r = option_map (λ q. object (key.Body q)) (class_path_of cat r.ev_class)

-- ---- oids of rows

-- a row's oid is in use, and is given to what the row is of
abbrev pub given : IdsOf → ℕ → Option Slot → IdsOf
given ids oid None = avoiding ids oid
given ids oid (Some s) = with_id (avoiding ids oid) s oid

abbrev pub all_given : {R : Type 0} → (R → ℕ) → (R → Option Slot) → IdsOf → List R → IdsOf
all_given oid of ids [] = ids
all_given oid of ids (r ∷ rows) = all_given oid of (given ids (oid r) (of r)) rows

abbrev pub depends_avoided : IdsOf → List DependRow → IdsOf
depends_avoided ids [] = ids
depends_avoided ids (r ∷ rows) = depends_avoided (avoiding (avoiding ids r.objid) r.refobjid) rows

-- of the cluster's tables, those of types and relations, and those of their parts
abbrev pub cluster_given : Catalogue → IdsOf → IdsOf
cluster_given cat ids =
    all_given (λ (r : NamespaceRow). r.oid) of_schema
    (all_given (λ (r : DatabaseRow). r.oid) of_database
    (all_given (λ (r : AuthMembersRow). r.oid) (of_member cat)
    (all_given (λ (r : AuthidRow). r.oid) of_role ids cat.pg_authid)
    cat.pg_auth_members)
    cat.pg_database)
    cat.pg_namespace

abbrev pub objects_given : Catalogue → IdsOf → IdsOf
objects_given cat ids =
    all_given (λ (r : ClassRow). r.oid) (of_relation cat)
    (all_given (λ (r : EnumRow). r.oid) (of_label cat)
    (all_given (λ (r : TypeRow). r.oid) (of_type cat) ids cat.pg_type)
    cat.pg_enum)
    cat.pg_class

abbrev pub parts_given : Catalogue → IdsOf → IdsOf
parts_given cat ids =
    all_given (λ (r : RewriteRow). r.oid) (of_body cat)
    (all_given (λ (r : ConstraintRow). r.oid) (of_constraint cat)
    (all_given (λ (r : AttrdefRow). r.oid) (of_default cat) ids cat.pg_attrdef)
    cat.pg_constraint)
    cat.pg_rewrite

-- the oids of an opening: each row's, and those that dependencies name are in use
abbrev pub opening_ids : Catalogue → IdsOf
opening_ids cat = depends_avoided (parts_given cat (objects_given cat (cluster_given cat none))) cat.pg_depend

-- ---- numbers of columns

abbrev pub numbered : NumbersOf → AttributeRow → Option QName → NumbersOf
numbered numbers r None = numbers
numbered numbers r (Some q) = insert numbers (key.Default q r.attname) r.attnum

abbrev pub opening_numbers : Catalogue → NumbersOf → List AttributeRow → NumbersOf
opening_numbers cat numbers [] = numbers
opening_numbers cat numbers (r ∷ rows) = opening_numbers cat (numbered numbers r (class_path_of cat r.attrelid)) rows
