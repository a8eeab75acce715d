-- Worked examples: texts of CREATE SEQUENCE with their statements, or their first fault.
use Rattle.std.specs.Prelude.{◌≡◌, pos, negsuc, true, false, [], ◌∷◌, Ok, Err, codes}
use Rattle.cat_model.specs.{declared.object.QName.QName, declared.constraint.SequenceKind.TheVariants.SmallInt, declared.constraint.SequenceKind.TheVariants.Integer, declared.constraint.SequenceKind.TheVariants.BigInt}
use Rattle.cat_model.specs.declared.stmt.Stmt.TheVariants as stmt
use Rattle.ddl_scripts.specs.{declared.fault.DdlFault.TheVariants.Unknown, Reading.statements_of, Examples.located}

abbrev pub a_s : QName
a_s = record { schema = codes "a"; name = codes "s" }

pub record SequenceExamples : Type 0 where
  pub written : statements_of (codes "CREATE SEQUENCE a.s\n    START WITH 1\n    INCREMENT BY 1\n    NO MINVALUE\n    NO MAXVALUE\n    CACHE 1;") ≡ Ok (located (stmt.CreateSequence a_s BigInt (pos 1) (pos 1) (pos 1) (pos 9223372036854775807) (pos 1) false) 0 100 ∷ [])
  -- what is missing has its usual value
  pub bare : statements_of (codes "create sequence a.s;") ≡ Ok (located (stmt.CreateSequence a_s BigInt (pos 1) (pos 1) (pos 1) (pos 9223372036854775807) (pos 1) false) 0 20 ∷ [])
  -- clauses stand in any order, and a gap may follow the minus sign
  pub mixed : statements_of (codes "CREATE SEQUENCE a.s CYCLE CACHE 20 AS smallint NO MAXVALUE increment by - 2;") ≡ Ok (located (stmt.CreateSequence a_s SmallInt (negsuc 0) (negsuc 1) (negsuc 32767) (negsuc 0) (pos 20) true) 0 76 ∷ [])
  pub given : statements_of (codes "CREATE SEQUENCE a.s AS integer MAXVALUE 007 MINVALUE -9 START WITH -0;") ≡ Ok (located (stmt.CreateSequence a_s Integer (pos 0) (pos 1) (negsuc 8) (pos 7) (pos 1) false) 0 70 ∷ [])
  -- it starts at its least number
  pub limits : statements_of (codes "CREATE SEQUENCE a.s MINVALUE -9223372036854775808 MAXVALUE 9223372036854775807;") ≡ Ok (located (stmt.CreateSequence a_s BigInt (negsuc 9223372036854775807) (pos 1) (negsuc 9223372036854775807) (pos 9223372036854775807) (pos 1) false) 0 79 ∷ [])
  -- numbers have 64 bits
  pub large : statements_of (codes "CREATE SEQUENCE a.s CACHE 9223372036854775808;") ≡ Err (Unknown 26)
  pub small : statements_of (codes "CREATE SEQUENCE a.s CACHE -9223372036854775809;") ≡ Err (Unknown 27)
  pub fraction : statements_of (codes "CREATE SEQUENCE a.s CACHE 1.5;") ≡ Err (Unknown 26)
  -- each clause stands once; NO can go on with the other bound
  pub two_usual : statements_of (codes "CREATE SEQUENCE a.s NO MINVALUE NO MINVALUE;") ≡ Err (Unknown 35)
  pub two_bounds : statements_of (codes "CREATE SEQUENCE a.s NO MINVALUE MINVALUE 1;") ≡ Err (Unknown 32)
  pub third_no : statements_of (codes "CREATE SEQUENCE a.s NO MINVALUE MAXVALUE 1 NO;") ≡ Err (Unknown 43)
  pub two_types : statements_of (codes "CREATE SEQUENCE a.s AS smallint AS integer;") ≡ Err (Unknown 32)
  -- what is usual anyway has no words
  pub bigint : statements_of (codes "CREATE SEQUENCE a.s AS bigint;") ≡ Err (Unknown 23)
  pub no_cycle : statements_of (codes "CREATE SEQUENCE a.s NO CYCLE;") ≡ Err (Unknown 23)
  pub without_with : statements_of (codes "CREATE SEQUENCE a.s START 1;") ≡ Err (Unknown 26)
