-- Two small catalogues: that of an empty cluster, and one with rows in each table; and the rows that they are made of.
use Rattle.std.specs.Prelude.{ℕ, ℤ, pos, negsuc, Bool, true, false, List, [], ◌∷◌, ◌++◌, Option, Some, None, codes}
use Rattle.acl_text.specs.declared.list.AclItem.{AclItem}
use Rattle.acl_text.specs.declared.rights.Privilege.{Privilege}
use Rattle.cat_rows.specs.declared.table.SysTable.{SysTable}
use Rattle.cat_rows.specs.declared.catalogue.Catalogue.{Catalogue}
use Rattle.cat_rows.specs.declared.roles.AuthidRow.{AuthidRow}
use Rattle.cat_rows.specs.declared.roles.AuthMembersRow.{AuthMembersRow}
use Rattle.cat_rows.specs.declared.roles.DatabaseRow.{DatabaseRow}
use Rattle.cat_rows.specs.declared.schemas.NamespaceRow.{NamespaceRow}
use Rattle.cat_rows.specs.declared.types.TypeRow.{TypeRow}
use Rattle.cat_rows.specs.declared.types.EnumRow.{EnumRow}
use Rattle.cat_rows.specs.declared.relations.ClassRow.{ClassRow}
use Rattle.cat_rows.specs.declared.relations.AttributeRow.{AttributeRow}
use Rattle.cat_rows.specs.declared.relations.AttrdefRow.{AttrdefRow}
use Rattle.cat_rows.specs.declared.relations.IndexRow.{IndexRow}
use Rattle.cat_rows.specs.declared.relations.RewriteRow.{RewriteRow}
use Rattle.cat_rows.specs.declared.constraints.ConstraintRow.{ConstraintRow}
use Rattle.cat_rows.specs.declared.sequences.SequenceRow.{SequenceRow}
use Rattle.cat_rows.specs.declared.notes.DescriptionRow.{DescriptionRow}
use Rattle.cat_rows.specs.declared.notes.DependRow.{DependRow}
use Rattle.cat_rows.specs.Catalogues.{no_rows}
use Rattle.cat_model.specs.Values.{Bytes}
use Rattle.cat_names.specs.declared.fault.CatFault.{CatFault}
use Rattle.cat_names.specs.declared.fault.FaultKind.{FaultKind}
use Rattle.cat_names.specs.declared.fault.LineFault.{LineFault}

-- ---- faults

-- a fault of a table's line, and one of a catalogue
abbrev pub at : ℕ → FaultKind → Option LineFault
at line kind = Some (record { line = line; kind = kind })

abbrev pub fault : SysTable → ℕ → FaultKind → Option CatFault
fault table line kind = Some (record { table = table; line = line; kind = kind })

-- ---- the cluster

abbrev pub role : ℕ → Bytes → AuthidRow
role oid name = record { oid = oid; rolname = name; rolsuper = true; rolinherit = true; rolcreaterole = true; rolcreatedb = true; rolcanlogin = true; rolreplication = true; rolbypassrls = true; rolconnlimit = negsuc 0; rolpassword = None; rolvaliduntil = None }

abbrev pub member : ℕ → ℕ → ℕ → ℕ → AuthMembersRow
member oid role of grantor = record { oid = oid; roleid = role; member = of; grantor = grantor; admin_option = false; inherit_option = true; set_option = true }

abbrev pub database : ℕ → Bytes → ℕ → Bytes → Bool → DatabaseRow
database oid name owner encoding current = record { oid = oid; datname = name; datdba = owner; encoding = encoding; datcurrent = current }

abbrev pub schema : ℕ → Bytes → NamespaceRow
schema oid name = record { oid = oid; nspname = name; nspowner = 10; nspacl = None }

-- one right to a role, or to all, by a role
abbrev pub grant : Option Bytes → Privilege → Bytes → AclItem
grant grantee privilege grantor = record { grantee = grantee; rights = record { privilege = privilege; grant_option = false } ∷ []; grantor = grantor }

abbrev pub postgres : AuthidRow
postgres = role 10 (codes "postgres")

abbrev pub bob : AuthidRow
bob = role 16400 (codes "bob")

abbrev pub main : DatabaseRow
main = database 5 (codes "postgres") 10 (codes "UTF8") true

abbrev pub public : NamespaceRow
public = schema 2200 (codes "public")

-- the role, the database and the schema of a new cluster
abbrev pub empty_cluster : Catalogue
empty_cluster = record no_rows { pg_authid = postgres ∷ []; pg_database = main ∷ []; pg_namespace = public ∷ [] }

-- ---- types

abbrev pub type : ℕ → Bytes → ℕ → ℕ → Bytes → Option Bytes → TypeRow
type oid name letter base text default = record { oid = oid; typname = name; typnamespace = 2200; typowner = 10; typtype = letter; typnotnull = false; typbasetype = base; basetext = text; typdefault = default; typacl = None }

abbrev pub enum : ℕ → Bytes → TypeRow
enum oid name = type oid name 101 0 [] None

abbrev pub domain : ℕ → Bytes → ℕ → Bytes → TypeRow
domain oid name base text = type oid name 100 base text None

-- the enum public.e
abbrev pub e : TypeRow
e = enum 20000 (codes "e")

-- the domain public.d over a type without a row
abbrev pub over : Bytes → TypeRow
over text = domain 20001 (codes "d") 0 text

-- public.d over integer with a default
abbrev pub with_default : Bytes → TypeRow
with_default text = type 20001 (codes "d") 100 0 (codes "integer") (Some text)

abbrev pub label : ℕ → ℕ → ℕ → Bytes → EnumRow
label oid type at text = record { oid = oid; enumtypid = type; enumpos = pos at; enumlabel = text }

-- ---- relations

abbrev pub relation : ℕ → Bytes → ℕ → ClassRow
relation oid name letter = record { oid = oid; relname = name; relnamespace = 2200; relkind = letter; relowner = 10; relpersistence = 112; relacl = None }

-- the tables public.t and public.u, the view public.v and the sequence public.s
abbrev pub t : ClassRow
t = relation 16500 (codes "t") 114

abbrev pub u : ClassRow
u = relation 16501 (codes "u") 114

abbrev pub v : ClassRow
v = relation 16502 (codes "v") 118

abbrev pub s : ClassRow
s = relation 16503 (codes "s") 83

-- the indexes of two keys of public.t, another of its indexes, and a unique one of public.u
abbrev pub k : ClassRow
k = relation 16504 (codes "k") 105

abbrev pub l : ClassRow
l = relation 16505 (codes "l") 105

abbrev pub i : ClassRow
i = relation 16506 (codes "i") 105

abbrev pub j : ClassRow
j = relation 16507 (codes "j") 105

abbrev pub relations : List ClassRow
relations = t ∷ u ∷ v ∷ s ∷ k ∷ l ∷ i ∷ j ∷ []

-- ---- columns

abbrev pub column : ℕ → ℤ → Bytes → ℕ → Bytes → AttributeRow
column relation number name type text = record { attrelid = relation; attnum = number; attname = name; atttypid = type; typtext = text; attnotnull = false }

-- the columns a and b of both tables, and the column a of the view
abbrev pub a : AttributeRow
a = column 16500 (pos 1) (codes "a") 0 (codes "integer")

abbrev pub columns : List AttributeRow
columns =
    a ∷ column 16500 (pos 2) (codes "b") 20000 (codes "public.e")
    ∷ record a { attrelid = 16501 } ∷ column 16501 (pos 2) (codes "b") 20001 (codes "public.d")
    ∷ record a { attrelid = 16502 } ∷ []

abbrev pub default : ℕ → ℕ → ℤ → Bytes → AttrdefRow
default oid relation number text = record { oid = oid; adrelid = relation; adnum = number; adexpr = text }

-- a default of the column a of public.t
abbrev pub of_a : Bytes → AttrdefRow
of_a text = default 30000 16500 (pos 1) text

-- ---- constraints

-- a constraint of public.t without an index or a parent
abbrev pub constraint : Bytes → ℕ → Bytes → ConstraintRow
constraint name letter text = record { oid = 16600; conname = name; contype = letter; conrelid = 16500; contypid = 0; conindid = 0; confrelid = 0; condef = text }

-- a check of public.t, and one of public.d
abbrev pub check : Bytes → ConstraintRow
check text = constraint (codes "c") 99 text

abbrev pub of_domain : Bytes → ConstraintRow
of_domain text = record (check text) { oid = 16603; conrelid = 0; contypid = 20001 }

-- a primary key of public.t with the index public.k, and a unique constraint with public.l
abbrev pub primary : Bytes → ConstraintRow
primary text = record (constraint (codes "k") 112 text) { oid = 16601; conindid = 16504 }

abbrev pub unique : Bytes → ConstraintRow
unique text = record (constraint (codes "l") 117 text) { oid = 16602; conindid = 16505 }

-- a foreign key of public.t to public.u
abbrev pub foreign : Bytes → ConstraintRow
foreign text = record (constraint (codes "f") 102 text) { oid = 16604; confrelid = 16501 }

abbrev pub primary_key : ConstraintRow
primary_key = primary (codes "PRIMARY KEY (a)")

abbrev pub is_positive : ConstraintRow
is_positive = check (codes "CHECK ((a > 0))")

-- the primary key, a check, and the others
abbrev pub with_check : ConstraintRow → List ConstraintRow
with_check row =
    primary_key ∷ row ∷ unique (codes "UNIQUE (b, a)") ∷ of_domain (codes "CHECK ((VALUE > 0))")
    ∷ foreign (codes "FOREIGN KEY (a, b) REFERENCES public.u(a, b) ON DELETE CASCADE") ∷ []

-- ---- indexes, sequences and views

-- the index public.i of public.t
abbrev pub index : Bytes → IndexRow
index text = record { indexrelid = 16506; indrelid = 16500; indisunique = false; indexdef = text }

abbrev pub on_a_and_b : IndexRow
on_a_and_b = index (codes "CREATE INDEX i ON public.t USING btree (a, lower(b))")

-- the unique index public.j of public.u
abbrev pub key_of_u : IndexRow
key_of_u = record { indexrelid = 16507; indrelid = 16501; indisunique = true; indexdef = codes "CREATE UNIQUE INDEX j ON public.u USING btree (b, a)" }

-- the sequence public.s of this type, from 1 to 100, that stands at 5
abbrev pub sequence : Bytes → SequenceRow
sequence type = record { seqrelid = 16503; seqtype = type; seqstart = pos 1; seqincrement = pos 1; seqmax = pos 100; seqmin = pos 1; seqcache = pos 1; seqcycle = false; last_value = pos 5; is_called = true; ownrel = 0; owncol = pos 0 }

-- the text of the view public.v
abbrev pub view : Bytes → RewriteRow
view text = record { oid = 16700; ev_class = 16502; viewdef = text }

abbrev pub all_of_t : RewriteRow
all_of_t = view (codes " SELECT a FROM public.t;")

-- ---- comments and dependencies

abbrev pub comment : ℕ → ℕ → ℕ → DescriptionRow
comment class oid number = record { objoid = oid; classoid = class; objsubid = pos number; description = codes "x" }

abbrev pub depend : ℕ → ℕ → ℕ → ℕ → DependRow
depend of column on letter = record { classid = 1259; objid = of; objsubid = pos column; refclassid = 1259; refobjid = on; refobjsubid = pos 0; deptype = letter }

-- ---- a catalogue with rows in each table

abbrev pub small : Catalogue
small = record {
  pg_authid = postgres ∷ bob ∷ [];
  pg_auth_members = member 16401 10 16400 10 ∷ [];
  pg_database = main ∷ [];
  pg_namespace = public ∷ schema 16385 (codes "a") ∷ [];
  pg_type = e ∷ with_default (codes "1") ∷ [];
  pg_enum = label 20002 20000 1 (codes "new") ∷ label 20003 20000 2 (codes "paid") ∷ [];
  pg_class = relations;
  pg_attribute = columns;
  pg_attrdef = of_a (codes "nextval('public.s'::regclass)") ∷ [];
  pg_constraint = with_check is_positive;
  pg_index = on_a_and_b ∷ key_of_u ∷ [];
  pg_sequence = record (sequence (codes "bigint")) { ownrel = 16500; owncol = pos 1 } ∷ [];
  pg_rewrite = all_of_t ∷ [];
  pg_description = comment 2615 2200 0 ∷ comment 1259 16500 1 ∷ comment 2606 16601 0 ∷ [];
  pg_depend = depend 16503 0 16500 97 ∷ [];
}

-- the same with two indexes more, a.i and a.k
abbrev pub with_more : Catalogue
with_more = record small {
  pg_class = relations ++ record i { oid = 16508; relnamespace = 16385 } ∷ record k { oid = 16509; relnamespace = 16385 } ∷ [];
}
