-- Worked examples: what entries say in a script.
use Rattle.std.specs.Prelude.{◌≡◌, true, false, List, ℕ, [], ◌∷◌, Some, None, codes}
use Rattle.cat_model.specs.declared.grant.Owned.TheVariants as owned
use Rattle.cat_model.specs.declared.object.QName.{QName}
use Rattle.cat_model.specs.declared.stmt.Stmt.TheVariants as stmt
use Rattle.fmt_text.specs.Examples.{schema, table, owned_by, table_data, table_rows, encoding}
use Rattle.script_laws.specs.Scripts.{entry_statements}

abbrev pub in_public : List ℕ → QName
in_public name = record { schema = codes "public"; name = name }

pub record Examples : Type 0 where
  pub schema_owned : entry_statements true schema None ≡ stmt.CreateSchema (codes "a") ∷ stmt.OwnerTo (owned.Schema (codes "a")) (codes "postgres") ∷ []
  pub schema_alone : entry_statements false schema None ≡ stmt.CreateSchema (codes "a") ∷ []
  -- names in quotes, one of them with a line feed
  pub table_owned : entry_statements true table None ≡ stmt.CreateTable (in_public (codes "t\nx")) [] [] ∷ stmt.OwnerTo (owned.Table (in_public (codes "t\nx"))) (codes "A b") ∷ []
  -- a kind that has no owner statement
  pub column : entry_statements true owned_by None ≡ stmt.OwnedBy (in_public (codes "s")) (in_public (codes "t")) (codes "id") ∷ []
  pub rows : entry_statements true table_data (Some table_rows) ≡ stmt.CopyRows (in_public (codes "t")) (codes "a" ∷ []) (codes "1\n") ∷ []
  pub setting : entry_statements true encoding None ≡ []
