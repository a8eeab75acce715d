-- Rows of small catalogues, and the catalogue of a new cluster.
use Rattle.std.specs.Prelude.{ℕ, ℤ, pos, negsuc, true, false, [], ◌∷◌, None, codes}
use Rattle.cat_rows.specs.declared.catalogue.Catalogue.{Catalogue}
use Rattle.cat_rows.specs.declared.roles.AuthidRow.{AuthidRow}
use Rattle.cat_rows.specs.declared.roles.DatabaseRow.{DatabaseRow}
use Rattle.cat_rows.specs.declared.schemas.NamespaceRow.{NamespaceRow}
use Rattle.cat_rows.specs.declared.types.TypeRow.{TypeRow}
use Rattle.cat_rows.specs.declared.relations.ClassRow.{ClassRow}
use Rattle.cat_rows.specs.declared.relations.AttributeRow.{AttributeRow}
use Rattle.cat_rows.specs.declared.relations.AttrdefRow.{AttrdefRow}
use Rattle.cat_rows.specs.declared.sequences.SequenceRow.{SequenceRow}
use Rattle.cat_rows.specs.Catalogues.{no_rows}
use Rattle.cat_model.specs.Values.{Bytes}

abbrev pub postgres : AuthidRow
postgres = record { oid = 10; rolname = codes "postgres"; rolsuper = true; rolinherit = true; rolcreaterole = true; rolcreatedb = true; rolcanlogin = true; rolreplication = true; rolbypassrls = true; rolconnlimit = negsuc 0; rolpassword = None; rolvaliduntil = None }

abbrev pub main : DatabaseRow
main = record { oid = 5; datname = codes "postgres"; datdba = 10; encoding = codes "UTF8"; datcurrent = true }

abbrev pub schema : ℕ → Bytes → NamespaceRow
schema oid name = record { oid = oid; nspname = name; nspowner = 10; nspacl = None }

abbrev pub public : NamespaceRow
public = schema 2200 (codes "public")

-- the role, the database and the schema of a new cluster
abbrev pub empty_cluster : Catalogue
empty_cluster = record no_rows { pg_authid = postgres ∷ []; pg_database = main ∷ []; pg_namespace = public ∷ [] }

-- ---- in the schema public

abbrev pub enum : ℕ → Bytes → TypeRow
enum oid name = record { oid = oid; typname = name; typnamespace = 2200; typowner = 10; typtype = 101; typnotnull = false; typbasetype = 0; basetext = []; typdefault = None; typacl = None }

-- a relation of this letter
abbrev pub relation : ℕ → Bytes → ℕ → ClassRow
relation oid name letter = record { oid = oid; relname = name; relnamespace = 2200; relkind = letter; relowner = 10; relpersistence = 112; relacl = None }

abbrev pub column : ℕ → ℤ → Bytes → ℕ → Bytes → AttributeRow
column relation number name type text = record { attrelid = relation; attnum = number; attname = name; atttypid = type; typtext = text; attnotnull = false }

abbrev pub default : ℕ → ℕ → ℤ → Bytes → AttrdefRow
default oid relation number text = record { oid = oid; adrelid = relation; adnum = number; adexpr = text }

-- a bigint sequence from 1 to 100 that the first column of a table owns
abbrev pub owned : ℕ → ℕ → SequenceRow
owned oid table = record { seqrelid = oid; seqtype = codes "bigint"; seqstart = pos 1; seqincrement = pos 1; seqmax = pos 100; seqmin = pos 1; seqcache = pos 1; seqcycle = false; last_value = pos 1; is_called = false; ownrel = table; owncol = pos 1 }
