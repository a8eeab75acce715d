-- Entries of the worked examples, and their parts in a script.
use Rattle.std.specs.Prelude.{ℕ, true, false, List, [], Option, Some, None, codes}
use Rattle.toc_entry.specs.declared.entry.Entry.{Entry}
use Rattle.toc_entry.specs.declared.entry.Extra.TheVariants.{Place}

-- an entry of this kind, tag, statements, schema and owner
abbrev pub entry_of : List ℕ → List ℕ → Option (List ℕ) → Option (List ℕ) → Option (List ℕ) → Entry
entry_of desc tag defn namespace owner = record {
  dump_id = 6;
  has_rows = false;
  tableoid = 0;
  oid = 0;
  tag = tag;
  desc = desc;
  section = 2;
  defn = defn;
  drop_stmt = Some [];
  copy_stmt = None;
  namespace = namespace;
  tablespace = Some [];
  tableam = None;
  owner = owner;
  depends = [];
  extra = Place 3 0;
}

abbrev pub schema : Entry
schema = entry_of (codes "SCHEMA") (codes "a") (Some (codes "CREATE SCHEMA a;\n")) None (Some (codes "postgres"))

-- with its owner and without
abbrev pub schema_owned : List ℕ
schema_owned = codes "--\n-- Name: a; Type: SCHEMA; Schema: -; Owner: postgres\n--\n\nCREATE SCHEMA a;\n\n\nALTER SCHEMA a OWNER TO postgres;\n\n"

abbrev pub schema_alone : List ℕ
schema_alone = codes "--\n-- Name: a; Type: SCHEMA; Schema: -; Owner: -\n--\n\nCREATE SCHEMA a;\n\n\n"

-- names that stand in quotes, and one that would leave its comment
abbrev pub table : Entry
table = entry_of (codes "TABLE") (codes "t\nx") (Some (codes "CREATE TABLE public.\"t\nx\" (\n);\n")) (Some (codes "public")) (Some (codes "A b"))

abbrev pub table_owned : List ℕ
table_owned = codes "--\n-- Name: t x; Type: TABLE; Schema: public; Owner: A b\n--\n\nCREATE TABLE public.\"t\nx\" (\n);\n\n\nALTER TABLE public.\"t\nx\" OWNER TO \"A b\";\n\n"

-- a kind that has no owner statement
abbrev pub owned_by : Entry
owned_by = entry_of (codes "SEQUENCE OWNED BY") (codes "s") (Some (codes "ALTER SEQUENCE public.s OWNED BY public.t.id;\n")) (Some (codes "public")) (Some (codes "postgres"))

abbrev pub owned_by_part : List ℕ
owned_by_part = codes "--\n-- Name: s; Type: SEQUENCE OWNED BY; Schema: public; Owner: postgres\n--\n\nALTER SEQUENCE public.s OWNED BY public.t.id;\n\n\n"

-- the rows of a table
abbrev pub table_data : Entry
table_data = record (entry_of (codes "TABLE DATA") (codes "t") (Some []) (Some (codes "public")) (Some (codes "postgres"))) { has_rows = true; copy_stmt = Some (codes "COPY public.t (a) FROM stdin;\n") }

abbrev pub table_rows : List ℕ
table_rows = codes "1\n\\.\n\n\n"

abbrev pub table_data_part : List ℕ
table_data_part = codes "--\n-- Data for Name: t; Type: TABLE DATA; Schema: public; Owner: postgres\n--\n\nCOPY public.t (a) FROM stdin;\n1\n\\.\n\n\n"

-- what sets up the session has no part of its own
abbrev pub encoding : Entry
encoding = entry_of (codes "ENCODING") (codes "ENCODING") (Some (codes "SET client_encoding = 'UTF8';\n")) None None
