-- Worked examples: statements with their texts, as PostgreSQL's dumps have them.
use Rattle.std.specs.Prelude.{◌≡◌, ℕ, pos, negsuc, true, false, List, [], ◌∷◌, Some, None, codes}
use Rattle.cat_model.specs.{declared.object.QName.QName, declared.grant.Rights.Rights, declared.stmt.Stmt.Stmt}
use Rattle.cat_model.specs.declared.constraint.SequenceKind.TheVariants as sequences
use Rattle.cat_model.specs.declared.constraint.Encoding.TheVariants as encodings
use Rattle.cat_model.specs.declared.type_name.TypeName.TheVariants as types
use Rattle.cat_model.specs.declared.grant.Granted.TheVariants as on
use Rattle.cat_model.specs.declared.grant.Grantee.TheVariants as grantee
use Rattle.cat_model.specs.declared.grant.Commented.TheVariants as commented
use Rattle.cat_model.specs.declared.stmt.Stmt.TheVariants as stmt
use Rattle.ddl_grammar.specs.Respelling.{spelling}

abbrev pub public : List ℕ → QName
public name = record { schema = codes "public"; name = name }

abbrev pub no_rights : Rights
no_rights = record {
  select = false;
  usage = false;
  insert = false;
  references = false;
  delete = false;
  trigger = false;
  truncate = false;
  update = false;
  create = false;
}

-- the statement is written so
abbrev pub IsWritten : Stmt → List ℕ → Type 0
IsWritten s text = spelling s ≡ text

pub record WorkedExamples : Type 0 where
  pub rising : IsWritten (stmt.CreateSequence (public (codes "s")) sequences.Integer (pos 1) (pos 1) (pos 1) (pos 2147483647) (pos 1) false)
      (codes "CREATE SEQUENCE public.s\n    AS integer\n    START WITH 1\n    INCREMENT BY 1\n    NO MINVALUE\n    NO MAXVALUE\n    CACHE 1;\n")
  pub falling : IsWritten (stmt.CreateSequence (public (codes "s")) sequences.SmallInt (negsuc 0) (negsuc 0) (negsuc 99) (negsuc 0) (pos 20) true)
      (codes "CREATE SEQUENCE public.s\n    AS smallint\n    START WITH -1\n    INCREMENT BY -1\n    MINVALUE -100\n    NO MAXVALUE\n    CACHE 20\n    CYCLE;\n")
  pub owned_by : IsWritten (stmt.OwnedBy (public (codes "s")) (public (codes "t")) (codes "id")) (codes "ALTER SEQUENCE public.s OWNED BY public.t.id;\n")
  pub value : IsWritten (stmt.SetVal (public (codes "s")) (pos 7) true) (codes "SELECT pg_catalog.setval('public.s', 7, true);\n")
  pub view : IsWritten (stmt.CreateView (public (codes "v")) (codes "SELECT 1")) (codes "CREATE VIEW public.v AS\n SELECT 1;\n")
  -- a newline follows the first token of the body
  pub dummy : IsWritten (stmt.ReplaceView (public (codes "v")) (codes "SELECT\n    NULL::integer AS a")) (codes "CREATE OR REPLACE VIEW public.v AS\nSELECT\n    NULL::integer AS a;\n")
  pub default : IsWritten (stmt.SetDefault (public (codes "t")) (codes "id") (codes "now()")) (codes "ALTER TABLE ONLY public.t ALTER COLUMN id SET DEFAULT now();\n")
  pub primary : IsWritten (stmt.AddPrimary (public (codes "t")) (codes "t_pkey") (codes "a" ∷ codes "b" ∷ []) []) (codes "ALTER TABLE ONLY public.t\n    ADD CONSTRAINT t_pkey PRIMARY KEY (a, b);\n")
  pub unique : IsWritten (stmt.AddUnique (public (codes "t")) (codes "k") (codes "a" ∷ []) (codes "DEFERRABLE")) (codes "ALTER TABLE ONLY public.t\n    ADD CONSTRAINT k UNIQUE (a) DEFERRABLE;\n")
  pub foreign : IsWritten (stmt.AddForeign (public (codes "t")) (codes "f") (codes "a" ∷ []) (public (codes "p")) (codes "b" ∷ []) (codes "ON DELETE CASCADE")) (codes "ALTER TABLE ONLY public.t\n    ADD CONSTRAINT f FOREIGN KEY (a) REFERENCES public.p(b) ON DELETE CASCADE;\n")
  pub check : IsWritten (stmt.AddCheck (public (codes "t")) (codes "c") (codes "a > 0")) (codes "ALTER TABLE ONLY public.t\n    ADD CONSTRAINT c CHECK (a > 0);\n")
  pub index : IsWritten (stmt.CreateUniqueIndex (public (codes "t")) (codes "i") (codes "btree") (codes "(a)")) (codes "CREATE UNIQUE INDEX i ON public.t USING btree (a);\n")
  pub copy : IsWritten (stmt.CopyRows (public (codes "t")) (codes "a" ∷ codes "b" ∷ []) (codes "1\t2\n")) (codes "COPY public.t (a, b) FROM stdin;\n1\t2\n\\.\n")
  pub copy_all : IsWritten (stmt.CopyRows (public (codes "t")) [] []) (codes "COPY public.t FROM stdin;\n\\.\n")
  pub grant : IsWritten (stmt.Grant (on.Table (public (codes "t"))) (record no_rights { select = true; update = true }) grantee.Public true) (codes "GRANT SELECT,UPDATE ON TABLE public.t TO PUBLIC WITH GRANT OPTION;\n")
  pub revoke : IsWritten (stmt.Revoke (on.Schema (codes "a")) (record no_rights { usage = true; create = true }) (grantee.Role (codes "joe"))) (codes "REVOKE ALL ON SCHEMA a FROM joe;\n")
  pub comment : IsWritten (stmt.Comment (commented.Column (public (codes "t")) (codes "a")) (Some (codes "it's"))) (codes "COMMENT ON COLUMN public.t.a IS 'it''s';\n")
  pub no_comment : IsWritten (stmt.Comment (commented.Constraint (public (codes "t")) (codes "c")) None) (codes "COMMENT ON CONSTRAINT c ON public.t IS NULL;\n")
  pub role : IsWritten (stmt.CreateRole (codes "joe")) (codes "CREATE ROLE joe;\n")
  pub changes : IsWritten (stmt.AlterRole (codes "joe") (record { superuser = Some false; inherit = Some true; create_role = None; create_db = None; login = Some true; replication = None; bypass_rls = None; limit = Some (pos 5); password = None; valid_until = Some (codes "infinity") }))
      (codes "ALTER ROLE joe WITH NOSUPERUSER INHERIT LOGIN CONNECTION LIMIT 5 VALID UNTIL 'infinity';\n")
  pub member : IsWritten (stmt.GrantRole (codes "a") (codes "b") (Some (codes "c")) false (Some true) true) (codes "GRANT a TO b WITH ADMIN FALSE, INHERIT TRUE, SET TRUE GRANTED BY c;\n")
  pub plain_member : IsWritten (stmt.GrantRole (codes "a") (codes "b") None true None false) (codes "GRANT a TO b WITH ADMIN TRUE, SET FALSE;\n")
  pub database : IsWritten (stmt.CreateDatabase (codes "d") (Some encodings.Utf8)) (codes "CREATE DATABASE d WITH TEMPLATE = template0 ENCODING = 'UTF8';\n")
  pub connect : IsWritten (stmt.Connect (codes "d")) (codes "\\connect d\n")
  pub enum : IsWritten (stmt.CreateEnum (public (codes "e")) (codes "m" ∷ codes "it's" ∷ [])) (codes "CREATE TYPE public.e AS ENUM (\n    'm',\n    'it''s'\n);\n")
  pub no_labels : IsWritten (stmt.CreateEnum (public (codes "e")) []) (codes "CREATE TYPE public.e AS ENUM (\n);\n")
  pub domain : IsWritten (stmt.CreateDomain (public (codes "d")) (types.Words (codes "integer")) true (Some (codes "1")) (record { name = codes "c"; text = codes "VALUE > 0" } ∷ []))
      (codes "CREATE DOMAIN public.d AS integer NOT NULL DEFAULT 1\n\tCONSTRAINT c CHECK (VALUE > 0);\n")
  pub plain_domain : IsWritten (stmt.CreateDomain (public (codes "d")) (types.Path (public (codes "e"))) false None []) (codes "CREATE DOMAIN public.d AS public.e;\n")
  pub table : IsWritten (stmt.CreateTable (public (codes "t"))
      (record { name = codes "a"; type_name = types.Words (codes "integer"); default = Some (codes "1"); not_null = true }
      ∷ record { name = codes "b"; type_name = types.Path (public (codes "e")); default = None; not_null = false } ∷ [])
      (record { name = codes "c"; text = codes "a > 0" } ∷ []))
      (codes "CREATE TABLE public.t (\n    a integer DEFAULT 1 NOT NULL,\n    b public.e,\n    CONSTRAINT c CHECK (a > 0)\n);\n")
  pub no_columns : IsWritten (stmt.CreateTable (public (codes "t")) [] []) (codes "CREATE TABLE public.t (\n);\n")
  -- checks alone
  pub only_checks : IsWritten (stmt.CreateTable (public (codes "t")) [] (record { name = codes "c"; text = codes "true" } ∷ record { name = codes "d"; text = codes "1 > 0" } ∷ []))
      (codes "CREATE TABLE public.t (\n    CONSTRAINT c CHECK (true),\n    CONSTRAINT d CHECK (1 > 0)\n);\n")
