-- What is known of some texts with COPY, and with lines that begin with a backslash.
use Rattle.std.specs.Prelude.{◌≡◌, [], ◌∷◌, Ok, Err, codes}
use Rattle.cat_model.specs.declared.stmt.Stmt.TheVariants as stmt
use Rattle.ddl_scripts.specs.{declared.fault.DdlFault.TheVariants.Unknown, declared.fault.DdlFault.TheVariants.LongName, declared.fault.DdlFault.TheVariants.Incomplete, Reading.statements_of}

pub record CopyExamples : Type 0 where
  pub rows : statements_of (codes "COPY a.b FROM stdin;\n1\t2\n\\.\n") ≡ Ok (record { stmt = stmt.CopyRows (record { schema = codes "a"; name = codes "b" }) [] (codes "1\t2\n"); start = 0; end = 28 } ∷ [])
  pub columns : statements_of (codes "copy a.b (x, \"Y\") from stdin ;\t\r\n\\.") ≡ Ok (record { stmt = stmt.CopyRows (record { schema = codes "a"; name = codes "b" }) (codes "x" ∷ codes "Y" ∷ []) []; start = 0; end = 35 } ∷ [])
  pub behind : statements_of (codes "COPY a.b FROM stdin;\n\\.\nCREATE SCHEMA c;") ≡ Ok (record { stmt = stmt.CopyRows (record { schema = codes "a"; name = codes "b" }) [] []; start = 0; end = 24 } ∷ record { stmt = stmt.CreateSchema (codes "c"); start = 24; end = 40 } ∷ [])
  pub cut_short : statements_of (codes "COPY a.b FROM stdin;\n1") ≡ Ok (record { stmt = stmt.CopyRows (record { schema = codes "a"; name = codes "b" }) [] (codes "1\n"); start = 0; end = 22 } ∷ [])
  pub no_rows : statements_of (codes "COPY a.b FROM stdin; ") ≡ Ok (record { stmt = stmt.CopyRows (record { schema = codes "a"; name = codes "b" }) [] []; start = 0; end = 21 } ∷ [])
  pub same_line : statements_of (codes "COPY a.b FROM stdin; SET x = 1;") ≡ Err (Unknown 21)
  pub no_bracket : statements_of (codes "COPY a.b () FROM stdin;\n") ≡ Err (Unknown 10)
  pub no_semicolon : statements_of (codes "COPY a.b FROM stdin") ≡ Err (Incomplete 19)
  pub connect : statements_of (codes "\\connect Shop\nCREATE SCHEMA c;") ≡ Ok (record { stmt = stmt.Connect (codes "shop"); start = 0; end = 13 } ∷ record { stmt = stmt.CreateSchema (codes "c"); start = 14; end = 30 } ∷ [])
  pub passed : statements_of (codes "\\restrict k1\n;\n\\unrestrict k1") ≡ Ok []
  pub unknown : statements_of (codes "\n\\encoding utf8\n") ≡ Err (Unknown 1)
  -- a name that is none, at its first byte
  pub empty_name : statements_of (codes "SET a = 1;\n\\connect \"\"") ≡ Err (Unknown 20)
  pub long_name : statements_of (codes "\\connect xxxxxxxxxxxxxxxxxxxxxxxxxxxxxxxxxxxxxxxxxxxxxxxxxxxxxxxxxxxxxxxx") ≡ Err (LongName 9)
  pub within : statements_of (codes "CREATE SCHEMA\n\\connect d\n") ≡ Err (Unknown 14)
