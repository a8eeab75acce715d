-- The statements of an archive's entry, as a restore runs them: those that its definition reads as, then its owner
-- statement, then those that its COPY statement followed by its rows reads as.
use Rattle.std.specs.Prelude.{ℕ, Bool, true, false, List, [], ◌∷◌, ◌++◌, map, length, Option, Some, None, unwrap_or, option_and_then, Result, Ok, Err, if◌then◌else◌, codes}
use Rattle.std.specs.Str.{bytes_eq}
use Rattle.cat_model.specs.declared.grant.Owned.{Owned}
use Rattle.cat_model.specs.declared.stmt.Stmt.{Stmt}
use Rattle.cat_model.specs.declared.stmt.Stmt.TheVariants as stmt
use Rattle.ddl_read.specs.fault.DdlFault.{DdlFault}
use Rattle.ddl_read.specs.located.Located.{Located}
use Rattle.ddl_read.specs.Reading.{statements_of}
use Rattle.fmt_text.specs.Owners.{name_in, owned_object}
use Rattle.restore_plan.specs.declared.kind.Kind.{Kind}
use Rattle.restore_plan.specs.declared.kind.Kind.TheVariants as kind
use Rattle.restore_plan.specs.declared.step.Step.{Step}
use Rattle.toc_entry.specs.declared.entry.Entry.{Entry}

-- the kind of an entry by its desc
unfoldable pub kind_of : List ℕ → Kind
kind_of desc =
    if bytes_eq desc (codes "TABLE") then kind.Table
    else (if bytes_eq desc (codes "TABLE DATA") then kind.TableData
    else (if bytes_eq desc (codes "INDEX") then kind.Index
    else kind.Other))

-- a text that isn't there is the empty one
abbrev pub text_of : Option (List ℕ) → List ℕ
text_of text = unwrap_or text []

-- ---- the owner statement

abbrev pub given_to : Option Owned → Option (List ℕ) → Option Stmt
given_to (Some object) (Some role) = Some (stmt.OwnerTo object role)
given_to object role = None

-- the statement that gives an entry's object to its owner, where it has one and owners are restored
unfoldable pub owner_statement : Bool → Entry → Option Stmt
owner_statement owners e = if owners then given_to (owned_object e) (option_and_then name_in e.owner) else None

abbrev pub owner_step : Stmt → Step
owner_step s = record { statement = s; is_owner = true }

abbrev pub owner_steps : Option Stmt → List Step
owner_steps None = []
owner_steps (Some s) = owner_step s ∷ []

-- ---- statements that are read

abbrev pub step_of : Located → Step
step_of l = record { statement = l.stmt; is_owner = false }

abbrev pub as_steps : Result (List Located) DdlFault → Result (List Step) DdlFault
as_steps (Ok located) = Ok (map step_of located)
as_steps (Err fault) = Err fault

-- the statements of a text
unfoldable pub steps_in : List ℕ → Result (List Step) DdlFault
steps_in text = as_steps (statements_of text)

-- the COPY statement of an entry, and its rows behind it
abbrev pub rows_text : Entry → Option (List ℕ) → List ℕ
rows_text e rows = text_of e.copy_stmt ++ text_of rows

-- those of the rows, where there are any
unfoldable pub rows_steps : Entry → Option (List ℕ) → Result (List Step) DdlFault
rows_steps e rows = if e.has_rows then steps_in (rows_text e rows) else Ok []

-- ---- all of them

infixl 10 ◌>>=◌
abbrev pub ◌>>=◌ : {A B F : Type 0} → Result A F → (A → Result B F) → Result B F
(Ok x) >>= f = f x
(Err fault) >>= f = Err fault

-- the statements of an entry and its rows, with its owner statement or without; a definition that doesn't read comes
-- before rows that don't
unfoldable pub statements : Bool → Entry → Option (List ℕ) → Result (List Step) DdlFault
statements owners e rows =
    steps_in (text_of e.defn) >>= λ made. rows_steps e rows >>= λ put. Ok (made ++ owner_steps (owner_statement owners e) ++ put)

-- ---- how many there are

abbrev pub count_of : Result (List Step) DdlFault → ℕ
count_of (Ok steps) = length steps
count_of (Err fault) = 0

-- how many statements an entry's definition reads as
unfoldable pub definition_count : Entry → ℕ
definition_count e = count_of (steps_in (text_of e.defn))
