-- Worked examples: texts with their statements, or their first fault.
-- 34 is `"`, 39 is a single quote.
use Rattle.std.specs.Prelude.{◌≡◌, ℕ, negsuc, true, false, List, [], ◌∷◌, ◌++◌, Some, Ok, Err, codes}
use Rattle.sql_lex.specs.declared.fault.LexFault.TheVariants.{Unclosed}
use Rattle.cat_model.specs.{declared.object.QName.QName, declared.stmt.Stmt.Stmt}
use Rattle.cat_model.specs.declared.type_name.TypeName.TheVariants as type_name
use Rattle.cat_model.specs.declared.grant.Owned.TheVariants as owned
use Rattle.cat_model.specs.declared.stmt.Stmt.TheVariants as stmt
use Rattle.ddl_scripts.specs.{declared.located.Located.Located, declared.fault.DdlFault.TheVariants.Lex, declared.fault.DdlFault.TheVariants.Unknown, declared.fault.DdlFault.TheVariants.LongName, declared.fault.DdlFault.TheVariants.Incomplete, Reading.statements_of}

abbrev pub in_a : List ℕ → QName
in_a name = record { schema = codes "a"; name = name }

abbrev pub located : Stmt → ℕ → ℕ → Located
located s start end = record { stmt = s; start = start; end = end }

pub record WorkedExamples : Type 0 where
  pub schema : statements_of (codes "CREATE SCHEMA a;") ≡ Ok (located (stmt.CreateSchema (codes "a")) 0 16 ∷ [])
  -- create schema "a" ;
  pub variant : statements_of (codes "create schema " ++ (34 ∷ codes "a") ++ (34 ∷ codes " ;")) ≡ Ok (located (stmt.CreateSchema (codes "a")) 0 19 ∷ [])
  pub empty : statements_of (codes ";; --") ≡ Ok []
  pub owner : statements_of (codes "; ALTER TABLE a.t OWNER TO eve;") ≡ Ok (located (stmt.OwnerTo (owned.Table (record { schema = codes "a"; name = codes "t" })) (codes "eve")) 2 31 ∷ [])
  pub incomplete : statements_of (codes "CREATE SCHEMA") ≡ Err (Incomplete 13)
  pub unknown : statements_of (codes "CREATE FUNCTION f();") ≡ Err (Unknown 7)
  -- ALTER SCHEMA 'x
  pub unclosed : statements_of (codes "ALTER SCHEMA " ++ (39 ∷ codes "x")) ≡ Err (Lex (Unclosed 13))
  -- ALTER x 'y: the least place counts
  pub least : statements_of (codes "ALTER x " ++ (39 ∷ codes "y")) ≡ Err (Unknown 6)
  -- CREATE SCHEMA "";
  pub no_name : statements_of (codes "CREATE SCHEMA " ++ (34 ∷ 34 ∷ codes ";")) ≡ Err (Unknown 14)
  pub long_name : statements_of (codes "CREATE SCHEMA a123456789b123456789c123456789d123456789e123456789f123456789g123;") ≡ Err (LongName 14)
  pub setting : statements_of (codes "set a To (b,  c);") ≡ Ok (located (stmt.Set (codes "a") (codes "(b,  c)")) 0 17 ∷ [])
  -- a value has a token at least
  pub no_value : statements_of (codes "SET a = ;") ≡ Err (Unknown 8)
  -- a bracket is closed by its own
  pub other_bracket : statements_of (codes "SET a = (1];") ≡ Err (Unknown 10)
  pub check : statements_of (codes "ALTER DOMAIN a.d ADD CONSTRAINT c CHECK (VALUE > 0);") ≡ Ok (located (stmt.AddDomainCheck (record { schema = codes "a"; name = codes "d" }) (codes "c") (codes "VALUE > 0")) 0 52 ∷ [])
  pub labels : statements_of (codes "create type a.e as enum ('x', 'y');") ≡ Ok (located (stmt.CreateEnum (in_a (codes "e")) (codes "x" ∷ codes "y" ∷ [])) 0 35 ∷ [])
  -- no comma stands behind the last
  pub last_comma : statements_of (codes "CREATE TYPE a.e AS ENUM ('x', );") ≡ Err (Unknown 30)
  -- a default ends before NOT NULL, and a type may have several words, one with a bracket
  pub column : statements_of (codes "CREATE TABLE a.t (c character varying(9) DEFAULT 1 NOT NULL);")
      ≡ Ok (located (stmt.CreateTable (in_a (codes "t")) (record { name = codes "c"; type_name = type_name.Words (codes "character varying(9)"); default = Some (codes "1"); not_null = true } ∷ []) []) 0 61 ∷ [])
  -- in the other order, with the type's name as a path, and a check behind the column
  pub table : statements_of (codes "CREATE TABLE a.t (c a.e NOT NULL DEFAULT (1), CONSTRAINT k CHECK (c));")
      ≡ Ok (located (stmt.CreateTable (in_a (codes "t")) (record { name = codes "c"; type_name = type_name.Path (in_a (codes "e")); default = Some (codes "(1)"); not_null = true } ∷ []) (record { name = codes "k"; text = codes "c" } ∷ [])) 0 70 ∷ [])
  -- NULL goes on with no default
  pub null : statements_of (codes "CREATE TABLE a.t (c int NOT NULL DEFAULT 1 NOT NULL);") ≡ Err (Unknown 47)
  -- no column stands behind a check
  pub late_column : statements_of (codes "CREATE TABLE a.t (CONSTRAINT k CHECK (1), c int);") ≡ Err (Unknown 42)
  pub domain : statements_of (codes "CREATE DOMAIN a.d AS int DEFAULT 1 NOT NULL CONSTRAINT k CHECK (1);")
      ≡ Ok (located (stmt.CreateDomain (in_a (codes "d")) (type_name.Words (codes "int")) true (Some (codes "1")) (record { name = codes "k"; text = codes "1" } ∷ [])) 0 67 ∷ [])
  pub column_of_sequence : statements_of (codes "ALTER SEQUENCE a.s OWNED BY a.t.id;") ≡ Ok (located (stmt.OwnedBy (record { schema = codes "a"; name = codes "s" }) (record { schema = codes "a"; name = codes "t" }) (codes "id")) 0 35 ∷ [])
  -- a body runs from its first token to its last
  pub view : statements_of (codes "create view a.v as  SELECT 1 ;") ≡ Ok (located (stmt.CreateView (record { schema = codes "a"; name = codes "v" }) (codes "SELECT 1")) 0 30 ∷ [])
  pub replaced_view : statements_of (codes "CREATE OR REPLACE VIEW a.v AS x;") ≡ Ok (located (stmt.ReplaceView (record { schema = codes "a"; name = codes "v" }) (codes "x")) 0 32 ∷ [])
  pub index : statements_of (codes "CREATE INDEX i ON a.t USING btree (x) WHERE y;") ≡ Ok (located (stmt.CreateIndex (record { schema = codes "a"; name = codes "t" }) (codes "i") (codes "btree") (codes "(x) WHERE y")) 0 46 ∷ [])
  pub unique_index : statements_of (codes "CREATE UNIQUE INDEX i ON a.t USING hash (x);") ≡ Ok (located (stmt.CreateUniqueIndex (record { schema = codes "a"; name = codes "t" }) (codes "i") (codes "hash") (codes "(x)")) 0 44 ∷ [])
  -- a bracket follows the method
  pub no_bracket : statements_of (codes "CREATE INDEX i ON a.t USING btree x;") ≡ Err (Unknown 34)
  -- SELECT pg_catalog.setval('a.s', -5, FALSE);
  pub value : statements_of (codes "SELECT pg_catalog.setval(" ++ (39 ∷ codes "a.s") ++ (39 ∷ codes ", -5, FALSE);")) ≡ Ok (located (stmt.SetVal (in_a (codes "s")) (negsuc 4) false) 0 43 ∷ [])
  -- SELECT pg_catalog.setval('a.s t', 1, true);
  pub no_path : statements_of (codes "SELECT pg_catalog.setval(" ++ (39 ∷ codes "a.s t") ++ (39 ∷ codes ", 1, true);")) ≡ Err (Unknown 25)
  -- the same of a path with a name that is too long
  pub long_path : statements_of (codes "SELECT pg_catalog.setval(" ++ (39 ∷ codes "a.xxxxxxxxxxxxxxxxxxxxxxxxxxxxxxxxxxxxxxxxxxxxxxxxxxxxxxxxxxxxxxxx") ++ (39 ∷ codes ", 1, true);")) ≡ Err (LongName 25)
