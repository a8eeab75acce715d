-- The catalogue whose tables have given rows of cells: each row of a table's struct, out of its cells.
use Rattle.std.specs.Prelude.{List, [], ◌∷◌, filter_map, Option, Some, None}
use Rattle.cat_rows.specs.declared.cell.Cell.{Cell}
use Rattle.cat_rows.specs.declared.cell.Cell.TheVariants.{Oid, Int, Bool, Name, Text, NullText, Letter, Acl}
use Rattle.cat_rows.specs.declared.catalogue.Catalogue.{Catalogue}
use Rattle.cat_rows.specs.declared.roles.AuthidRow.{AuthidRow}
use Rattle.cat_rows.specs.declared.roles.AuthMembersRow.{AuthMembersRow}
use Rattle.cat_rows.specs.declared.roles.DatabaseRow.{DatabaseRow}
use Rattle.cat_rows.specs.declared.schemas.NamespaceRow.{NamespaceRow}
use Rattle.cat_rows.specs.declared.types.TypeRow.{TypeRow}
use Rattle.cat_rows.specs.declared.types.EnumRow.{EnumRow}
use Rattle.cat_rows.specs.declared.relations.ClassRow.{ClassRow}
use Rattle.cat_rows.specs.declared.relations.AttributeRow.{AttributeRow}
use Rattle.cat_rows.specs.declared.relations.AttrdefRow.{AttrdefRow}
use Rattle.cat_rows.specs.declared.constraints.ConstraintRow.{ConstraintRow}
use Rattle.cat_rows.specs.declared.relations.IndexRow.{IndexRow}
use Rattle.cat_rows.specs.declared.sequences.SequenceRow.{SequenceRow}
use Rattle.cat_rows.specs.declared.relations.RewriteRow.{RewriteRow}
use Rattle.cat_rows.specs.declared.notes.DescriptionRow.{DescriptionRow}
use Rattle.cat_rows.specs.declared.notes.DependRow.{DependRow}
use Rattle.cat_rows.specs.Catalogues.{no_rows}

abbrev pub authid_of : List Cell → Option AuthidRow
authid_of (Oid oid ∷ Name name ∷ Bool super ∷ Bool inherit ∷ Bool create_role ∷ Bool create_db ∷ Bool login ∷ Bool replication ∷ Bool bypass_rls ∷ Int limit ∷ NullText password ∷ NullText until ∷ []) =
    Some (record { oid = oid; rolname = name; rolsuper = super; rolinherit = inherit; rolcreaterole = create_role; rolcreatedb = create_db; rolcanlogin = login; rolreplication = replication; rolbypassrls = bypass_rls; rolconnlimit = limit; rolpassword = password; rolvaliduntil = until })
authid_of _ = None

abbrev pub member_of : List Cell → Option AuthMembersRow
member_of (Oid oid ∷ Oid role ∷ Oid member ∷ Oid grantor ∷ Bool admin ∷ Bool inherit ∷ Bool may_set ∷ []) =
    Some (record { oid = oid; roleid = role; member = member; grantor = grantor; admin_option = admin; inherit_option = inherit; set_option = may_set })
member_of _ = None

abbrev pub database_of : List Cell → Option DatabaseRow
database_of (Oid oid ∷ Name name ∷ Oid owner ∷ Text encoding ∷ Bool current ∷ []) =
    Some (record { oid = oid; datname = name; datdba = owner; encoding = encoding; datcurrent = current })
database_of _ = None

abbrev pub schema_of : List Cell → Option NamespaceRow
schema_of (Oid oid ∷ Name name ∷ Oid owner ∷ Acl acl ∷ []) = Some (record { oid = oid; nspname = name; nspowner = owner; nspacl = acl })
schema_of _ = None

abbrev pub type_of : List Cell → Option TypeRow
type_of (Oid oid ∷ Name name ∷ Oid schema ∷ Oid owner ∷ Letter kind ∷ Bool not_null ∷ Oid base ∷ Text base_text ∷ NullText expression ∷ Acl acl ∷ []) =
    Some (record { oid = oid; typname = name; typnamespace = schema; typowner = owner; typtype = kind; typnotnull = not_null; typbasetype = base; basetext = base_text; typdefault = expression; typacl = acl })
type_of _ = None

abbrev pub label_of : List Cell → Option EnumRow
label_of (Oid oid ∷ Oid type ∷ Int position ∷ Text label ∷ []) = Some (record { oid = oid; enumtypid = type; enumpos = position; enumlabel = label })
label_of _ = None

abbrev pub relation_of : List Cell → Option ClassRow
relation_of (Oid oid ∷ Name name ∷ Oid schema ∷ Letter kind ∷ Oid owner ∷ Letter persistence ∷ Acl acl ∷ []) =
    Some (record { oid = oid; relname = name; relnamespace = schema; relkind = kind; relowner = owner; relpersistence = persistence; relacl = acl })
relation_of _ = None

abbrev pub column_of : List Cell → Option AttributeRow
column_of (Oid relation ∷ Int number ∷ Name name ∷ Oid type ∷ Text type_text ∷ Bool not_null ∷ []) =
    Some (record { attrelid = relation; attnum = number; attname = name; atttypid = type; typtext = type_text; attnotnull = not_null })
column_of _ = None

abbrev pub default_of : List Cell → Option AttrdefRow
default_of (Oid oid ∷ Oid relation ∷ Int number ∷ Text expression ∷ []) = Some (record { oid = oid; adrelid = relation; adnum = number; adexpr = expression })
default_of _ = None

abbrev pub constraint_of : List Cell → Option ConstraintRow
constraint_of (Oid oid ∷ Name name ∷ Letter kind ∷ Oid table ∷ Oid domain ∷ Oid index ∷ Oid parent ∷ Text definition ∷ []) =
    Some (record { oid = oid; conname = name; contype = kind; conrelid = table; contypid = domain; conindid = index; confrelid = parent; condef = definition })
constraint_of _ = None

abbrev pub index_of : List Cell → Option IndexRow
index_of (Oid index ∷ Oid table ∷ Bool unique ∷ Text definition ∷ []) = Some (record { indexrelid = index; indrelid = table; indisunique = unique; indexdef = definition })
index_of _ = None

abbrev pub sequence_of : List Cell → Option SequenceRow
sequence_of (Oid relation ∷ Text type ∷ Int start ∷ Int increment ∷ Int most ∷ Int least ∷ Int cache ∷ Bool cycle ∷ Int last ∷ Bool called ∷ Oid owner ∷ Int column ∷ []) =
    Some (record { seqrelid = relation; seqtype = type; seqstart = start; seqincrement = increment; seqmax = most; seqmin = least; seqcache = cache; seqcycle = cycle; last_value = last; is_called = called; ownrel = owner; owncol = column })
sequence_of _ = None

abbrev pub body_of : List Cell → Option RewriteRow
body_of (Oid oid ∷ Oid view ∷ Text definition ∷ []) = Some (record { oid = oid; ev_class = view; viewdef = definition })
body_of _ = None

abbrev pub comment_of : List Cell → Option DescriptionRow
comment_of (Oid object ∷ Oid class ∷ Int column ∷ Text text ∷ []) = Some (record { objoid = object; classoid = class; objsubid = column; description = text })
comment_of _ = None

abbrev pub dependency_of : List Cell → Option DependRow
dependency_of (Oid class ∷ Oid object ∷ Int column ∷ Oid other_class ∷ Oid other ∷ Int other_column ∷ Letter kind ∷ []) =
    Some (record { classid = class; objid = object; objsubid = column; refclassid = other_class; refobjid = other; refobjsubid = other_column; deptype = kind })
dependency_of _ = None

-- the rows of each table, in the order of the tables
abbrev pub Tables : Type 0
Tables = List (List (List Cell))

-- the catalogue that has these rows
unfoldable pub catalogue_with : Tables → Catalogue
catalogue_with (roles ∷ members ∷ databases ∷ schemas ∷ types ∷ labels ∷ relations ∷ columns ∷ defaults ∷ constraints ∷ indexes ∷ sequences ∷ bodies ∷ comments ∷ dependencies ∷ []) = record {
  pg_authid = filter_map authid_of roles;
  pg_auth_members = filter_map member_of members;
  pg_database = filter_map database_of databases;
  pg_namespace = filter_map schema_of schemas;
  pg_type = filter_map type_of types;
  pg_enum = filter_map label_of labels;
  pg_class = filter_map relation_of relations;
  pg_attribute = filter_map column_of columns;
  pg_attrdef = filter_map default_of defaults;
  pg_constraint = filter_map constraint_of constraints;
  pg_index = filter_map index_of indexes;
  pg_sequence = filter_map sequence_of sequences;
  pg_rewrite = filter_map body_of bodies;
  pg_description = filter_map comment_of comments;
  pg_depend = filter_map dependency_of dependencies;
}
catalogue_with _ = no_rows
