-- Rows that meet their tables: the rows of each table are tried as COPY tries them, into the table as though it had none,
-- with all other tables as they are.
use Rattle.std.specs.Prelude.{◌≡◌, ℕ, List, [], ◌∷◌, Option, Some, None, option_map, Result, Ok, Err}
use Rattle.std.specs.FinMap.{get, insert}
use Rattle.cat_model.specs.declared.object.QName.{QName}
use Rattle.cat_model.specs.declared.cause.Cause.{Cause}
use Rattle.cat_model.specs.declared.key.Key.TheVariants as key
use Rattle.cat_model.specs.declared.value.Value.{Value}
use Rattle.cat_model.specs.declared.value.Value.TheVariants as value
use Rattle.cat_model.specs.Values.{Bytes, Row, Named}
use Rattle.cat_model.specs.CopyEffect.{copy_rows}
use Rattle.cat_model.specs.Trees.{outcome, seen}
use Rattle.cat_rows.specs.declared.catalogue.Catalogue.{Catalogue}
use Rattle.cat_names.specs.DataSets.{TextsByOid}
use Rattle.cat_book.specs.Paths.{class_path_of}
use Rattle.table_rows.specs.Tables.{table_oids}
use Rattle.table_rows.specs.Values.{text_of}
use Rattle.cat_naming.specs.Entries.{catalogue_named}
use Rattle.cat_naming.specs.Texts.{rows_by_oid}
use Rattle.cat_load.specs.declared.meeting.LoadFault.{LoadFault}
use Rattle.cat_load.specs.declared.meeting.LoadError.{LoadError}
use Rattle.cat_load.specs.declared.meeting.LoadError.TheVariants.{Fault, Memory}

-- rows that stand under a key
abbrev pub rows_there : Option Value → Option (List Row)
rows_there (Some (value.Rows rows)) = Some rows
rows_there _ = None

-- the catalogue, in which the table has these rows
unfoldable pub with_rows : Named → QName → List Row → Named
with_rows named q rows = insert named (key.Rows q) (value.Rows rows)

abbrev pub with_none : Named → QName → Option (List Row) → Named
with_none named q None = named
with_none named q (Some rows) = with_rows named q []

-- the catalogue, in which the table has no rows
abbrev pub emptied : Named → QName → Named
emptied named q = with_none named q (rows_there (get named (key.Rows q)))

abbrev pub cause_of : {A : Type 0} → Result A Cause → Option Cause
cause_of (Ok done) = None
cause_of (Err because) = Some because

-- why COPY refuses a text, if it does
unfoldable pub refusal_of : Named → QName → Bytes → Option Cause
refusal_of named q text = cause_of (outcome (copy_rows q [] text) (seen named))

abbrev pub listed : Option Cause → List Cause
listed None = []
listed (Some because) = because ∷ []

-- why a table can't have the rows of a text, if it can't
abbrev pub table_cause : Named → QName → Bytes → Option Cause
table_cause named q text = refusal_of (emptied named q) q text

abbrev pub fault_of : ℕ → Option Cause → Option LoadFault
fault_of table because = option_map (λ b. record { table = table; cause = b }) because

abbrev pub path_fault : Named → ℕ → Bytes → Option QName → Option LoadFault
path_fault named table text None = None
path_fault named table text (Some q) = fault_of table (table_cause named q text)

-- what is wrong with the rows of the table of an oid
abbrev pub fault_at : Named → Catalogue → TextsByOid → ℕ → Option LoadFault
fault_at named cat texts table = path_fault named table (text_of texts table) (class_path_of cat table)

abbrev pub or_later : Option LoadFault → Option LoadFault → Option LoadFault
or_later (Some fault) later = Some fault
or_later None later = later

-- the first of these tables whose text isn't rows that it can have
abbrev pub first_fault : Named → Catalogue → TextsByOid → List ℕ → Option LoadFault
first_fault named cat texts [] = None
first_fault named cat texts (table ∷ tables) = or_later (fault_at named cat texts table) (first_fault named cat texts tables)

-- the same of all tables, by rising oid
unfoldable pub rows_fault : Catalogue → TextsByOid → Option LoadFault
rows_fault cat texts = first_fault (catalogue_named cat (rows_by_oid texts)) cat texts (table_oids cat)

-- why there is no engine is the fault that is due, or want of memory
abbrev pub IsFault : LoadError → Option LoadFault → Type 0
IsFault (Fault fault) due = due ≡ Some fault
IsFault Memory due = Unit {0}
