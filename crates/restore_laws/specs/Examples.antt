-- The archive of the worked examples: the dump of a table with a serial column, and the dump of its schema alone.
use Rattle.std.specs.Prelude.{ℕ, true, pos, List, [], ◌∷◌, ◌++◌, Option, Some, None, codes}
use Rattle.toc_entry.specs.declared.entry.Entry.{Entry}
use Rattle.toc_layout.specs.Heads.{HeadFields}
use Rattle.fmt_custom.specs.Customs.{Custom}
use Rattle.entry_choices.specs.Examples.{entry_of}

-- an entry with this definition, that postgres owns
abbrev pub made_by : List ℕ → Entry → Entry
made_by defn e = record e { defn = Some defn; owner = Some (codes "postgres") }

abbrev pub public : Option (List ℕ)
public = Some (codes "public")

-- with these dump ids of the table and the sequence
abbrev pub front : List Entry
front =
    entry_of 1 (codes "ENCODING") (codes "ENCODING") 2 None [] ∷
    entry_of 2 (codes "STDSTRINGS") (codes "STDSTRINGS") 2 None [] ∷
    entry_of 3 (codes "SEARCHPATH") (codes "SEARCHPATH") 2 None [] ∷
    made_by (codes "CREATE DATABASE postgres WITH TEMPLATE = template0 ENCODING = 'UTF8';\n") (entry_of 4 (codes "DATABASE") (codes "postgres") 2 None []) ∷
    made_by (codes "-- *not* creating schema, since initdb creates it\n") (entry_of 5 (codes "SCHEMA") (codes "public") 2 None []) ∷
    made_by (codes "CREATE TABLE public.t (\n    id integer NOT NULL\n);\n") (entry_of 6 (codes "TABLE") (codes "t") 2 public (5 ∷ [])) ∷
    made_by (codes "CREATE SEQUENCE public.t_id_seq\n    START WITH 1\n    INCREMENT BY 1\n    NO MINVALUE\n    NO MAXVALUE\n    CACHE 1;\n") (entry_of 7 (codes "SEQUENCE") (codes "t_id_seq") 2 public (5 ∷ 6 ∷ [])) ∷
    made_by (codes "ALTER SEQUENCE public.t_id_seq OWNED BY public.t.id;\n") (entry_of 8 (codes "SEQUENCE OWNED BY") (codes "t_id_seq") 2 public (6 ∷ 7 ∷ [])) ∷
    made_by (codes "ALTER TABLE ONLY public.t ALTER COLUMN id SET DEFAULT nextval('public.t_id_seq'::regclass);\n") (entry_of 9 (codes "DEFAULT") (codes "t id") 2 public (6 ∷ 7 ∷ [])) ∷ []

abbrev pub rows : Entry
rows = record (made_by [] (entry_of 10 (codes "TABLE DATA") (codes "t") 3 public (6 ∷ []))) { has_rows = true; copy_stmt = Some (codes "COPY public.t (id) FROM stdin;\n") }

abbrev pub value : Entry
value = made_by (codes "SELECT pg_catalog.setval('public.t_id_seq', 1, false);\n") (entry_of 11 (codes "SEQUENCE SET") (codes "t_id_seq") 3 public (7 ∷ []))

abbrev pub head : HeadFields
head = record {
  major = 1;
  minor = 15;
  revision = 0;
  format = 1;
  compression = 0;
  moment = record { sec = pos 5; min = pos 59; hour = pos 23; mday = pos 31; mon = pos 11; year = pos 124; isdst = pos 0 };
  dbname = codes "postgres";
  server = codes "16.0";
  dumper = codes "16.0";
}

-- the rows come in two pieces
abbrev pub serial : Custom
serial = record {
  head = head;
  entries = front ++ rows ∷ value ∷ [];
  found = record { id = 10; start = 900; pieces = codes "1\n\\" ∷ codes ".\n\n\n" ∷ [] } ∷ [];
}

abbrev pub schema_serial : Custom
schema_serial = record { head = head; entries = front; found = [] }

abbrev pub data_script : List ℕ
data_script =
    codes "--\n-- PostgreSQL database dump\n--\n\n-- Dumped from database version 16.0\n-- Dumped by pg_dump version 16.0\n\n"
    ++ codes "SET statement_timeout = 0;\nSET lock_timeout = 0;\nSET idle_in_transaction_session_timeout = 0;\nSET client_encoding = 'UTF8';\nSET standard_conforming_strings = on;\n"
    ++ codes "SELECT pg_catalog.set_config('search_path', '', false);\nSET check_function_bodies = false;\nSET xmloption = content;\nSET client_min_messages = warning;\nSET row_security = off;\n\n"
    ++ codes "--\n-- Data for Name: t; Type: TABLE DATA; Schema: public; Owner: -\n--\n\nCOPY public.t (id) FROM stdin;\n1\n\\.\n\n\n"
    ++ codes "--\n-- Name: t_id_seq; Type: SEQUENCE SET; Schema: public; Owner: -\n--\n\nSELECT pg_catalog.setval('public.t_id_seq', 1, false);\n\n\n"
    ++ codes "--\n-- PostgreSQL database dump complete\n--\n\n"
