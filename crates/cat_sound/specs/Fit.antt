-- Which statements leave a catalogue in order: those whose texts are good for their use, and that grant rights which
-- there are on the kind of object. What else a statement needs it asks for itself, or is refused.
use Rattle.std.specs.Prelude.{◌≡◌, true, false, List, None, Some}
use Rattle.std.specs.List.{AllByRecursion}
use Rattle.cat_model.specs.declared.stmt.Stmt.{Stmt}
use Rattle.cat_model.specs.declared.stmt.Stmt.TheVariants as stmt
use Rattle.cat_model.specs.declared.constraint.ConstraintKind.TheVariants as kinds
use Rattle.cat_model.specs.declared.table.ColumnDef.{ColumnDef}
use Rattle.cat_model.specs.declared.table.CheckDef.{CheckDef}
use Rattle.cat_sound.specs.Texts.{Texts}
use Rattle.cat_sound.specs.Rights.{is_within, rights_on}
use Rattle.cat_sound.specs.Itself.{IsDefault, check_of}

pub record IsFitColumn (texts : Texts) (c : ColumnDef) : Type 0 where
  pub named : texts.type c.type_name ≡ true
  pub expression : IsDefault texts c.default

abbrev pub AreFitColumns : Texts → List ColumnDef → Type 0
AreFitColumns texts columns = AllByRecursion (IsFitColumn texts) columns

abbrev pub AreFitChecks : Texts → List CheckDef → Type 0
AreFitChecks texts checks = AllByRecursion (λ c. texts.constraint (check_of c.text) ≡ true) checks

abbrev pub IsFit : Texts → Stmt → Type 0
IsFit texts (stmt.CreateDomain q base not_null default checks) = (texts.type base ≡ true) × IsDefault texts default × AreFitChecks texts checks
IsFit texts (stmt.AddDomainCheck q name text) = texts.constraint (check_of text) ≡ true
IsFit texts (stmt.CreateTable q columns checks) = AreFitColumns texts columns × AreFitChecks texts checks
IsFit texts (stmt.CreateView q body) = texts.body body ≡ true
IsFit texts (stmt.ReplaceView q body) = texts.body body ≡ true
IsFit texts (stmt.SetDefault q column text) = texts.expression text ≡ true
IsFit texts (stmt.AddPrimary q name columns rest) = texts.constraint (record { kind = kinds.Primary; columns = columns; parent = None; text = rest }) ≡ true
IsFit texts (stmt.AddUnique q name columns rest) = texts.constraint (record { kind = kinds.Unique; columns = columns; parent = None; text = rest }) ≡ true
IsFit texts (stmt.AddForeign q name columns parent parent_columns rest) = texts.constraint (record { kind = kinds.Foreign; columns = columns; parent = Some (parent, parent_columns); text = rest }) ≡ true
IsFit texts (stmt.AddCheck q name text) = texts.constraint (check_of text) ≡ true
IsFit texts (stmt.CreateIndex q name method rest) = texts.index q name (record { method = method; unique = false; text = rest }) ≡ true
IsFit texts (stmt.CreateUniqueIndex q name method rest) = texts.index q name (record { method = method; unique = true; text = rest }) ≡ true
IsFit texts (stmt.Grant what rights who option) = is_within rights (rights_on what) ≡ true
IsFit texts _ = Unit {0}
