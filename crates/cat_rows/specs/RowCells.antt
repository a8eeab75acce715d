-- The rows of the system tables as lists of cells, in the order of their columns.
use Rattle.std.specs.Prelude.{List, [], ◌∷◌}
use Rattle.cat_rows.specs.declared.cell.Cell.{Cell}
use Rattle.cat_rows.specs.declared.cell.Cell.TheVariants.{Oid, Int, Bool, Name, Text, NullText, Letter, Acl}
use Rattle.cat_rows.specs.declared.roles.AuthidRow.{AuthidRow}
use Rattle.cat_rows.specs.declared.roles.AuthMembersRow.{AuthMembersRow}
use Rattle.cat_rows.specs.declared.roles.DatabaseRow.{DatabaseRow}
use Rattle.cat_rows.specs.declared.schemas.NamespaceRow.{NamespaceRow}
use Rattle.cat_rows.specs.declared.types.TypeRow.{TypeRow}
use Rattle.cat_rows.specs.declared.types.EnumRow.{EnumRow}
use Rattle.cat_rows.specs.declared.relations.ClassRow.{ClassRow}
use Rattle.cat_rows.specs.declared.relations.AttributeRow.{AttributeRow}
use Rattle.cat_rows.specs.declared.relations.AttrdefRow.{AttrdefRow}
use Rattle.cat_rows.specs.declared.constraints.ConstraintRow.{ConstraintRow}
use Rattle.cat_rows.specs.declared.relations.IndexRow.{IndexRow}
use Rattle.cat_rows.specs.declared.sequences.SequenceRow.{SequenceRow}
use Rattle.cat_rows.specs.declared.relations.RewriteRow.{RewriteRow}
use Rattle.cat_rows.specs.declared.notes.DescriptionRow.{DescriptionRow}
use Rattle.cat_rows.specs.declared.notes.DependRow.{DependRow}

abbrev pub authid_cells : AuthidRow → List Cell
authid_cells row =
    Oid row.oid ∷ Name row.rolname ∷ Bool row.rolsuper ∷ Bool row.rolinherit ∷ Bool row.rolcreaterole ∷ Bool row.rolcreatedb ∷ Bool row.rolcanlogin ∷ Bool row.rolreplication ∷ Bool row.rolbypassrls ∷ Int row.rolconnlimit ∷ NullText row.rolpassword ∷ NullText row.rolvaliduntil ∷ []

abbrev pub auth_members_cells : AuthMembersRow → List Cell
auth_members_cells row =
    Oid row.oid ∷ Oid row.roleid ∷ Oid row.member ∷ Oid row.grantor ∷ Bool row.admin_option ∷ Bool row.inherit_option ∷ Bool row.set_option ∷ []

abbrev pub database_cells : DatabaseRow → List Cell
database_cells row =
    Oid row.oid ∷ Name row.datname ∷ Oid row.datdba ∷ Text row.encoding ∷ Bool row.datcurrent ∷ []

abbrev pub namespace_cells : NamespaceRow → List Cell
namespace_cells row =
    Oid row.oid ∷ Name row.nspname ∷ Oid row.nspowner ∷ Acl row.nspacl ∷ []

abbrev pub type_cells : TypeRow → List Cell
type_cells row =
    Oid row.oid ∷ Name row.typname ∷ Oid row.typnamespace ∷ Oid row.typowner ∷ Letter row.typtype ∷ Bool row.typnotnull ∷ Oid row.typbasetype ∷ Text row.basetext ∷ NullText row.typdefault ∷ Acl row.typacl ∷ []

abbrev pub enum_cells : EnumRow → List Cell
enum_cells row =
    Oid row.oid ∷ Oid row.enumtypid ∷ Int row.enumpos ∷ Text row.enumlabel ∷ []

abbrev pub class_cells : ClassRow → List Cell
class_cells row =
    Oid row.oid ∷ Name row.relname ∷ Oid row.relnamespace ∷ Letter row.relkind ∷ Oid row.relowner ∷ Letter row.relpersistence ∷ Acl row.relacl ∷ []

abbrev pub attribute_cells : AttributeRow → List Cell
attribute_cells row =
    Oid row.attrelid ∷ Int row.attnum ∷ Name row.attname ∷ Oid row.atttypid ∷ Text row.typtext ∷ Bool row.attnotnull ∷ []

abbrev pub attrdef_cells : AttrdefRow → List Cell
attrdef_cells row =
    Oid row.oid ∷ Oid row.adrelid ∷ Int row.adnum ∷ Text row.adexpr ∷ []

abbrev pub constraint_cells : ConstraintRow → List Cell
constraint_cells row =
    Oid row.oid ∷ Name row.conname ∷ Letter row.contype ∷ Oid row.conrelid ∷ Oid row.contypid ∷ Oid row.conindid ∷ Oid row.confrelid ∷ Text row.condef ∷ []

abbrev pub index_cells : IndexRow → List Cell
index_cells row =
    Oid row.indexrelid ∷ Oid row.indrelid ∷ Bool row.indisunique ∷ Text row.indexdef ∷ []

abbrev pub sequence_cells : SequenceRow → List Cell
sequence_cells row =
    Oid row.seqrelid ∷ Text row.seqtype ∷ Int row.seqstart ∷ Int row.seqincrement ∷ Int row.seqmax ∷ Int row.seqmin ∷ Int row.seqcache ∷ Bool row.seqcycle ∷ Int row.last_value ∷ Bool row.is_called ∷ Oid row.ownrel ∷ Int row.owncol ∷ []

abbrev pub rewrite_cells : RewriteRow → List Cell
rewrite_cells row =
    Oid row.oid ∷ Oid row.ev_class ∷ Text row.viewdef ∷ []

abbrev pub description_cells : DescriptionRow → List Cell
description_cells row =
    Oid row.objoid ∷ Oid row.classoid ∷ Int row.objsubid ∷ Text row.description ∷ []

abbrev pub depend_cells : DependRow → List Cell
depend_cells row =
    Oid row.classid ∷ Oid row.objid ∷ Int row.objsubid ∷ Oid row.refclassid ∷ Oid row.refobjid ∷ Int row.refobjsubid ∷ Letter row.deptype ∷ []
