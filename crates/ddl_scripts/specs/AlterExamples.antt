-- Worked examples: texts of ALTER TABLE with their statements, or their first fault.
use Rattle.std.specs.Prelude.{◌≡◌, [], ◌∷◌, Ok, Err, codes}
use Rattle.cat_model.specs.declared.grant.Owned.TheVariants as owned
use Rattle.cat_model.specs.declared.stmt.Stmt.TheVariants as stmt
use Rattle.ddl_scripts.specs.{declared.fault.DdlFault.TheVariants.Unknown, declared.fault.DdlFault.TheVariants.LongName, Reading.statements_of, Examples.located}

pub record AlterExamples : Type 0 where
  pub check : statements_of (codes "ALTER TABLE ONLY a.t ADD CONSTRAINT c CHECK (x > 0);") ≡ Ok (located (stmt.AddCheck (record { schema = codes "a"; name = codes "t" }) (codes "c") (codes "x > 0")) 0 52 ∷ [])
  -- ONLY may be left out
  pub bare : statements_of (codes "alter table a.t add constraint c check (x);") ≡ Ok (located (stmt.AddCheck (record { schema = codes "a"; name = codes "t" }) (codes "c") (codes "x")) 0 43 ∷ [])
  -- before a dot it is a schema, whether or not it stands before
  pub schema : statements_of (codes "ALTER TABLE only.t ADD CONSTRAINT c CHECK (x);") ≡ Ok (located (stmt.AddCheck (record { schema = codes "only"; name = codes "t" }) (codes "c") (codes "x")) 0 46 ∷ [])
  pub both : statements_of (codes "ALTER TABLE ONLY only.t ADD CONSTRAINT c CHECK (x);") ≡ Ok (located (stmt.AddCheck (record { schema = codes "only"; name = codes "t" }) (codes "c") (codes "x")) 0 51 ∷ [])
  pub owner : statements_of (codes "ALTER TABLE only.t OWNER TO eve;") ≡ Ok (located (stmt.OwnerTo (owned.Table (record { schema = codes "only"; name = codes "t" })) (codes "eve")) 0 32 ∷ [])
  -- an owner takes no ONLY
  pub only_owner : statements_of (codes "ALTER TABLE ONLY a.t OWNER TO eve;") ≡ Err (Unknown 21)
  pub default : statements_of (codes "ALTER TABLE ONLY a.t ALTER COLUMN b SET DEFAULT 1 + 2;") ≡ Ok (located (stmt.SetDefault (record { schema = codes "a"; name = codes "t" }) (codes "b") (codes "1 + 2")) 0 54 ∷ [])
  -- NOT NULL may not follow a default, nor a second one
  pub not_null : statements_of (codes "ALTER TABLE a.t ALTER COLUMN b SET DEFAULT 1 NOT NULL;") ≡ Err (Unknown 49)
  pub second : statements_of (codes "ALTER TABLE a.t ALTER COLUMN b SET DEFAULT 1 DEFAULT 2;") ≡ Err (Unknown 45)
  pub primary : statements_of (codes "ALTER TABLE ONLY a.t ADD CONSTRAINT c PRIMARY KEY (x, y);") ≡ Ok (located (stmt.AddPrimary (record { schema = codes "a"; name = codes "t" }) (codes "c") (codes "x" ∷ codes "y" ∷ []) []) 0 57 ∷ [])
  -- what follows is kept as it stands
  pub unique : statements_of (codes "ALTER TABLE a.t ADD CONSTRAINT c UNIQUE (x) DEFERRABLE  initially deferred ;") ≡ Ok (located (stmt.AddUnique (record { schema = codes "a"; name = codes "t" }) (codes "c") (codes "x" ∷ []) (codes "DEFERRABLE  initially deferred")) 0 76 ∷ [])
  -- a column at least, and INITIALLY takes DEFERRED
  pub no_column : statements_of (codes "ALTER TABLE a.t ADD CONSTRAINT c UNIQUE ();") ≡ Err (Unknown 41)
  pub undue : statements_of (codes "ALTER TABLE a.t ADD CONSTRAINT c UNIQUE (x) DEFERRABLE INITIALLY IMMEDIATE;") ≡ Err (Unknown 65)
  pub foreign : statements_of (codes "ALTER TABLE ONLY a.t ADD CONSTRAINT c FOREIGN KEY (x, y) REFERENCES b.u(z, w);") ≡ Ok (located (stmt.AddForeign (record { schema = codes "a"; name = codes "t" }) (codes "c") (codes "x" ∷ codes "y" ∷ []) (record { schema = codes "b"; name = codes "u" }) (codes "z" ∷ codes "w" ∷ []) []) 0 78 ∷ [])
  pub actions : statements_of (codes "ALTER TABLE a.t ADD CONSTRAINT c FOREIGN KEY (x) REFERENCES b.u(y) ON UPDATE CASCADE ON DELETE SET NULL (x) DEFERRABLE INITIALLY DEFERRED;") ≡ Ok (located (stmt.AddForeign (record { schema = codes "a"; name = codes "t" }) (codes "c") (codes "x" ∷ []) (record { schema = codes "b"; name = codes "u" }) (codes "y" ∷ []) (codes "ON UPDATE CASCADE ON DELETE SET NULL (x) DEFERRABLE INITIALLY DEFERRED")) 0 138 ∷ [])
  pub kept : statements_of (codes "ALTER TABLE a.t ADD CONSTRAINT c FOREIGN KEY (x) REFERENCES b.u(y) on update no action  on delete restrict ;") ≡ Ok (located (stmt.AddForeign (record { schema = codes "a"; name = codes "t" }) (codes "c") (codes "x" ∷ []) (record { schema = codes "b"; name = codes "u" }) (codes "y" ∷ []) (codes "on update no action  on delete restrict")) 0 108 ∷ [])
  -- ON UPDATE stands before ON DELETE, and each once
  pub late_update : statements_of (codes "ALTER TABLE a.t ADD CONSTRAINT c FOREIGN KEY (x) REFERENCES b.u(y) ON DELETE CASCADE ON UPDATE CASCADE;") ≡ Err (Unknown 85)
  pub second_update : statements_of (codes "ALTER TABLE a.t ADD CONSTRAINT c FOREIGN KEY (x) REFERENCES b.u(y) ON UPDATE CASCADE ON UPDATE CASCADE;") ≡ Err (Unknown 88)
  -- only what ON DELETE sets may be told by columns
  pub update_columns : statements_of (codes "ALTER TABLE a.t ADD CONSTRAINT c FOREIGN KEY (x) REFERENCES b.u(y) ON UPDATE SET NULL (x);") ≡ Err (Unknown 86)
  pub no_parents : statements_of (codes "ALTER TABLE a.t ADD CONSTRAINT c FOREIGN KEY (x) REFERENCES b.u;") ≡ Err (Unknown 63)
  pub no_columns : statements_of (codes "ALTER TABLE a.t ADD CONSTRAINT c FOREIGN KEY REFERENCES b.u(y);") ≡ Err (Unknown 45)
  -- a name in brackets may be too long too
  pub long_column : statements_of (codes "ALTER TABLE a.t ADD CONSTRAINT c FOREIGN KEY (x) REFERENCES b.u(y) ON DELETE SET NULL (xxxxxxxxxxxxxxxxxxxxxxxxxxxxxxxxxxxxxxxxxxxxxxxxxxxxxxxxxxxxxxxx);") ≡ Err (LongName 87)
