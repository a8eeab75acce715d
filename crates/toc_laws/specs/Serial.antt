-- Worked example: the table public.t, whose column takes its values from the sequence public.t_id_seq, which it owns. Its default
-- stands alone, since the sequence needs the table.
use Rattle.std.specs.Prelude.{◌≡◌, [], ◌∷◌, drop, Some, codes}
use Rattle.obj_graph.specs.Closed.{whole}
use Rattle.graph_laws.specs.Serial.{serial}
use Rattle.dump_toc.specs.Toc.{toc}
use Rattle.toc_laws.specs.Shown.{entries_in, line, lines, definitions}

pub record Serial : Type 0 where
  pub listed : lines (entries_in (toc serial whole)) ≡
      line 1 (codes "ENCODING") (codes "ENCODING") [] ∷ line 2 (codes "STDSTRINGS") (codes "STDSTRINGS") [] ∷ line 3 (codes "SEARCHPATH") (codes "SEARCHPATH") []
      ∷ line 4 (codes "DATABASE") (codes "postgres") []
      ∷ line 5 (codes "SCHEMA") (codes "public") []
      ∷ line 6 (codes "TABLE") (codes "t") (5 ∷ [])
      ∷ line 7 (codes "SEQUENCE") (codes "t_id_seq") (5 ∷ 6 ∷ [])
      ∷ line 8 (codes "SEQUENCE OWNED BY") (codes "t_id_seq") (6 ∷ 7 ∷ [])
      ∷ line 9 (codes "DEFAULT") (codes "t id") (6 ∷ 7 ∷ [])
      ∷ line 10 (codes "TABLE DATA") (codes "t") (6 ∷ [])
      ∷ line 11 (codes "SEQUENCE SET") (codes "t_id_seq") (7 ∷ []) ∷ []
  pub defined : definitions (drop 4 (entries_in (toc serial whole))) ≡
      Some (codes "-- *not* creating schema, since initdb creates it\n")
      ∷ Some (codes "CREATE TABLE public.t (\n    id integer NOT NULL\n);\n")
      ∷ Some (codes "CREATE SEQUENCE public.t_id_seq\n    START WITH 1\n    INCREMENT BY 1\n    NO MINVALUE\n    MAXVALUE 100\n    CACHE 1;\n")
      ∷ Some (codes "ALTER SEQUENCE public.t_id_seq OWNED BY public.t.id;\n")
      ∷ Some (codes "ALTER TABLE ONLY public.t ALTER COLUMN id SET DEFAULT nextval('public.t_id_seq'::regclass);\n")
      ∷ Some [] ∷ Some (codes "SELECT pg_catalog.setval('public.t_id_seq', 1, false);\n") ∷ []
