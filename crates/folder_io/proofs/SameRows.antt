-- Catalogues with the same rows, as lists of cells, are the same: each row is found again from its cells.
use Rattle.std.proofs.Common.{◌≡◌, List, [], ◌∷◌, map, get_or, refl, ap}
use Rattle.cat_rows.specs.declared.cell.Cell.{Cell}
use Rattle.cat_rows.specs.declared.cell.Cell.TheVariants as cell
use Rattle.cat_rows.specs.declared.catalogue.Catalogue.{Catalogue}
use Rattle.cat_rows.specs.declared.roles.AuthidRow.{AuthidRow}
use Rattle.cat_rows.specs.declared.roles.AuthMembersRow.{AuthMembersRow}
use Rattle.cat_rows.specs.declared.roles.DatabaseRow.{DatabaseRow}
use Rattle.cat_rows.specs.declared.schemas.NamespaceRow.{NamespaceRow}
use Rattle.cat_rows.specs.declared.types.TypeRow.{TypeRow}
use Rattle.cat_rows.specs.declared.types.EnumRow.{EnumRow}
use Rattle.cat_rows.specs.declared.relations.ClassRow.{ClassRow}
use Rattle.cat_rows.specs.declared.relations.AttributeRow.{AttributeRow}
use Rattle.cat_rows.specs.declared.relations.AttrdefRow.{AttrdefRow}
use Rattle.cat_rows.specs.declared.constraints.ConstraintRow.{ConstraintRow}
use Rattle.cat_rows.specs.declared.relations.IndexRow.{IndexRow}
use Rattle.cat_rows.specs.declared.sequences.SequenceRow.{SequenceRow}
use Rattle.cat_rows.specs.declared.relations.RewriteRow.{RewriteRow}
use Rattle.cat_rows.specs.declared.notes.DescriptionRow.{DescriptionRow}
use Rattle.cat_rows.specs.declared.notes.DependRow.{DependRow}
use Rattle.cat_rows.specs.RowCells.{authid_cells, auth_members_cells, database_cells, namespace_cells, type_cells, enum_cells, class_cells, attribute_cells, attrdef_cells, constraint_cells, index_cells, sequence_cells, rewrite_cells, description_cells, depend_cells}
use Rattle.folder_io.specs.Folders.{catalogue_rows}

-- ---- the row of these cells

row_of_authid : AuthidRow → List Cell → AuthidRow
row_of_authid row (cell.Oid oid ∷ cell.Name rolname ∷ cell.Bool rolsuper ∷ cell.Bool rolinherit ∷ cell.Bool rolcreaterole ∷ cell.Bool rolcreatedb ∷ cell.Bool rolcanlogin ∷ cell.Bool rolreplication ∷ cell.Bool rolbypassrls ∷ cell.Int rolconnlimit ∷ cell.NullText rolpassword ∷ cell.NullText rolvaliduntil ∷ []) = record { oid = oid; rolname = rolname; rolsuper = rolsuper; rolinherit = rolinherit; rolcreaterole = rolcreaterole; rolcreatedb = rolcreatedb; rolcanlogin = rolcanlogin; rolreplication = rolreplication; rolbypassrls = rolbypassrls; rolconnlimit = rolconnlimit; rolpassword = rolpassword; rolvaliduntil = rolvaliduntil }
row_of_authid row cells = row

row_of_auth_members : AuthMembersRow → List Cell → AuthMembersRow
row_of_auth_members row (cell.Oid oid ∷ cell.Oid roleid ∷ cell.Oid member ∷ cell.Oid grantor ∷ cell.Bool admin_option ∷ cell.Bool inherit_option ∷ cell.Bool set_option ∷ []) = record { oid = oid; roleid = roleid; member = member; grantor = grantor; admin_option = admin_option; inherit_option = inherit_option; set_option = set_option }
row_of_auth_members row cells = row

row_of_database : DatabaseRow → List Cell → DatabaseRow
row_of_database row (cell.Oid oid ∷ cell.Name datname ∷ cell.Oid datdba ∷ cell.Text encoding ∷ cell.Bool datcurrent ∷ []) = record { oid = oid; datname = datname; datdba = datdba; encoding = encoding; datcurrent = datcurrent }
row_of_database row cells = row

row_of_namespace : NamespaceRow → List Cell → NamespaceRow
row_of_namespace row (cell.Oid oid ∷ cell.Name nspname ∷ cell.Oid nspowner ∷ cell.Acl nspacl ∷ []) = record { oid = oid; nspname = nspname; nspowner = nspowner; nspacl = nspacl }
row_of_namespace row cells = row

row_of_type : TypeRow → List Cell → TypeRow
row_of_type row (cell.Oid oid ∷ cell.Name typname ∷ cell.Oid typnamespace ∷ cell.Oid typowner ∷ cell.Letter typtype ∷ cell.Bool typnotnull ∷ cell.Oid typbasetype ∷ cell.Text basetext ∷ cell.NullText typdefault ∷ cell.Acl typacl ∷ []) = record { oid = oid; typname = typname; typnamespace = typnamespace; typowner = typowner; typtype = typtype; typnotnull = typnotnull; typbasetype = typbasetype; basetext = basetext; typdefault = typdefault; typacl = typacl }
row_of_type row cells = row

row_of_enum : EnumRow → List Cell → EnumRow
row_of_enum row (cell.Oid oid ∷ cell.Oid enumtypid ∷ cell.Int enumpos ∷ cell.Text enumlabel ∷ []) = record { oid = oid; enumtypid = enumtypid; enumpos = enumpos; enumlabel = enumlabel }
row_of_enum row cells = row

row_of_class : ClassRow → List Cell → ClassRow
row_of_class row (cell.Oid oid ∷ cell.Name relname ∷ cell.Oid relnamespace ∷ cell.Letter relkind ∷ cell.Oid relowner ∷ cell.Letter relpersistence ∷ cell.Acl relacl ∷ []) = record { oid = oid; relname = relname; relnamespace = relnamespace; relkind = relkind; relowner = relowner; relpersistence = relpersistence; relacl = relacl }
row_of_class row cells = row

row_of_attribute : AttributeRow → List Cell → AttributeRow
row_of_attribute row (cell.Oid attrelid ∷ cell.Int attnum ∷ cell.Name attname ∷ cell.Oid atttypid ∷ cell.Text typtext ∷ cell.Bool attnotnull ∷ []) = record { attrelid = attrelid; attnum = attnum; attname = attname; atttypid = atttypid; typtext = typtext; attnotnull = attnotnull }
row_of_attribute row cells = row

row_of_attrdef : AttrdefRow → List Cell → AttrdefRow
row_of_attrdef row (cell.Oid oid ∷ cell.Oid adrelid ∷ cell.Int adnum ∷ cell.Text adexpr ∷ []) = record { oid = oid; adrelid = adrelid; adnum = adnum; adexpr = adexpr }
row_of_attrdef row cells = row

row_of_constraint : ConstraintRow → List Cell → ConstraintRow
row_of_constraint row (cell.Oid oid ∷ cell.Name conname ∷ cell.Letter contype ∷ cell.Oid conrelid ∷ cell.Oid contypid ∷ cell.Oid conindid ∷ cell.Oid confrelid ∷ cell.Text condef ∷ []) = record { oid = oid; conname = conname; contype = contype; conrelid = conrelid; contypid = contypid; conindid = conindid; confrelid = confrelid; condef = condef }
row_of_constraint row cells = row

row_of_index : IndexRow → List Cell → IndexRow
row_of_index row (cell.Oid indexrelid ∷ cell.Oid indrelid ∷ cell.Bool indisunique ∷ cell.Text indexdef ∷ []) = record { indexrelid = indexrelid; indrelid = indrelid; indisunique = indisunique; indexdef = indexdef }
row_of_index row cells = row

row_of_sequence : SequenceRow → List Cell → SequenceRow
row_of_sequence row (cell.Oid seqrelid ∷ cell.Text seqtype ∷ cell.Int seqstart ∷ cell.Int seqincrement ∷ cell.Int seqmax ∷ cell.Int seqmin ∷ cell.Int seqcache ∷ cell.Bool seqcycle ∷ cell.Int last_value ∷ cell.Bool is_called ∷ cell.Oid ownrel ∷ cell.Int owncol ∷ []) = record { seqrelid = seqrelid; seqtype = seqtype; seqstart = seqstart; seqincrement = seqincrement; seqmax = seqmax; seqmin = seqmin; seqcache = seqcache; seqcycle = seqcycle; last_value = last_value; is_called = is_called; ownrel = ownrel; owncol = owncol }
row_of_sequence row cells = row

row_of_rewrite : RewriteRow → List Cell → RewriteRow
row_of_rewrite row (cell.Oid oid ∷ cell.Oid ev_class ∷ cell.Text viewdef ∷ []) = record { oid = oid; ev_class = ev_class; viewdef = viewdef }
row_of_rewrite row cells = row

row_of_description : DescriptionRow → List Cell → DescriptionRow
row_of_description row (cell.Oid objoid ∷ cell.Oid classoid ∷ cell.Int objsubid ∷ cell.Text description ∷ []) = record { objoid = objoid; classoid = classoid; objsubid = objsubid; description = description }
row_of_description row cells = row

row_of_depend : DependRow → List Cell → DependRow
row_of_depend row (cell.Oid classid ∷ cell.Oid objid ∷ cell.Int objsubid ∷ cell.Oid refclassid ∷ cell.Oid refobjid ∷ cell.Int refobjsubid ∷ cell.Letter deptype ∷ []) = record { classid = classid; objid = objid; objsubid = objsubid; refclassid = refclassid; refobjid = refobjid; refobjsubid = refobjsubid; deptype = deptype }
row_of_depend row cells = row

-- ---- tables

same_rows : {R : Type 0} (cells : R → List Cell) → ((a b : R) → cells a ≡ cells b → a ≡ b) → (xs ys : List R) → map cells xs ≡ map cells ys → xs ≡ ys
same_rows cells same [] [] e = refl
same_rows cells same [] (y ∷ ys) e = absurd cc
same_rows cells same (x ∷ xs) [] e = absurd cc
same_rows {R} cells same (x ∷ xs) (y ∷ ys) e = both (same x y cc) (same_rows cells same xs ys cc)
  where
    both : {x y : R} {xs ys : List R} → x ≡ y → xs ≡ ys → x ∷ xs ≡ y ∷ ys
    both p q = cc

-- the catalogue of these tables
abbrev of_tables : List AuthidRow → List AuthMembersRow → List DatabaseRow → List NamespaceRow → List TypeRow → List EnumRow → List ClassRow → List AttributeRow → List AttrdefRow → List ConstraintRow → List IndexRow → List SequenceRow → List RewriteRow → List DescriptionRow → List DependRow → Catalogue
of_tables pg_authid pg_auth_members pg_database pg_namespace pg_type pg_enum pg_class pg_attribute pg_attrdef pg_constraint pg_index pg_sequence pg_rewrite pg_description pg_depend =
    record { pg_authid = pg_authid; pg_auth_members = pg_auth_members; pg_database = pg_database; pg_namespace = pg_namespace; pg_type = pg_type; pg_enum = pg_enum; pg_class = pg_class; pg_attribute = pg_attribute; pg_attrdef = pg_attrdef; pg_constraint = pg_constraint; pg_index = pg_index; pg_sequence = pg_sequence; pg_rewrite = pg_rewrite; pg_description = pg_description; pg_depend = pg_depend }

pub same_catalogue : (a b : Catalogue) → catalogue_rows a ≡ catalogue_rows b → a ≡ b
unfolding row_of_authid row_of_auth_members row_of_database row_of_namespace row_of_type row_of_enum row_of_class row_of_attribute row_of_attrdef row_of_constraint row_of_index row_of_sequence row_of_rewrite row_of_description row_of_depend
same_catalogue a b e =
    let authid : a.pg_authid ≡ b.pg_authid = same_rows authid_cells (λ x y. ap (row_of_authid x)) a.pg_authid b.pg_authid (ap (λ tables. get_or tables 0 []) e) in
    let auth_members : a.pg_auth_members ≡ b.pg_auth_members = same_rows auth_members_cells (λ x y. ap (row_of_auth_members x)) a.pg_auth_members b.pg_auth_members (ap (λ tables. get_or tables 1 []) e) in
    let database : a.pg_database ≡ b.pg_database = same_rows database_cells (λ x y. ap (row_of_database x)) a.pg_database b.pg_database (ap (λ tables. get_or tables 2 []) e) in
    let namespace : a.pg_namespace ≡ b.pg_namespace = same_rows namespace_cells (λ x y. ap (row_of_namespace x)) a.pg_namespace b.pg_namespace (ap (λ tables. get_or tables 3 []) e) in
    let type : a.pg_type ≡ b.pg_type = same_rows type_cells (λ x y. ap (row_of_type x)) a.pg_type b.pg_type (ap (λ tables. get_or tables 4 []) e) in
    let enum : a.pg_enum ≡ b.pg_enum = same_rows enum_cells (λ x y. ap (row_of_enum x)) a.pg_enum b.pg_enum (ap (λ tables. get_or tables 5 []) e) in
    let class : a.pg_class ≡ b.pg_class = same_rows class_cells (λ x y. ap (row_of_class x)) a.pg_class b.pg_class (ap (λ tables. get_or tables 6 []) e) in
    let attribute : a.pg_attribute ≡ b.pg_attribute = same_rows attribute_cells (λ x y. ap (row_of_attribute x)) a.pg_attribute b.pg_attribute (ap (λ tables. get_or tables 7 []) e) in
    let attrdef : a.pg_attrdef ≡ b.pg_attrdef = same_rows attrdef_cells (λ x y. ap (row_of_attrdef x)) a.pg_attrdef b.pg_attrdef (ap (λ tables. get_or tables 8 []) e) in
    let constraint : a.pg_constraint ≡ b.pg_constraint = same_rows constraint_cells (λ x y. ap (row_of_constraint x)) a.pg_constraint b.pg_constraint (ap (λ tables. get_or tables 9 []) e) in
    let index : a.pg_index ≡ b.pg_index = same_rows index_cells (λ x y. ap (row_of_index x)) a.pg_index b.pg_index (ap (λ tables. get_or tables 10 []) e) in
    let sequence : a.pg_sequence ≡ b.pg_sequence = same_rows sequence_cells (λ x y. ap (row_of_sequence x)) a.pg_sequence b.pg_sequence (ap (λ tables. get_or tables 11 []) e) in
    let rewrite : a.pg_rewrite ≡ b.pg_rewrite = same_rows rewrite_cells (λ x y. ap (row_of_rewrite x)) a.pg_rewrite b.pg_rewrite (ap (λ tables. get_or tables 12 []) e) in
    let description : a.pg_description ≡ b.pg_description = same_rows description_cells (λ x y. ap (row_of_description x)) a.pg_description b.pg_description (ap (λ tables. get_or tables 13 []) e) in
    let depend : a.pg_depend ≡ b.pg_depend = same_rows depend_cells (λ x y. ap (row_of_depend x)) a.pg_depend b.pg_depend (ap (λ tables. get_or tables 14 []) e) in
    let is : of_tables a.pg_authid a.pg_auth_members a.pg_database a.pg_namespace a.pg_type a.pg_enum a.pg_class a.pg_attribute a.pg_attrdef a.pg_constraint a.pg_index a.pg_sequence a.pg_rewrite a.pg_description a.pg_depend ≡ of_tables b.pg_authid b.pg_auth_members b.pg_database b.pg_namespace b.pg_type b.pg_enum b.pg_class b.pg_attribute b.pg_attrdef b.pg_constraint b.pg_index b.pg_sequence b.pg_rewrite b.pg_description b.pg_depend = cc in
    is
