-- The statements of a script: those that prepare the session, and then those of each entry in order.
use Rattle.std.specs.Prelude.{◌≡◌, ℕ, Bool, false, List, [], ◌∷◌, ◌++◌, Option, Some, option_map, Result, Ok, Err, if◌then◌else◌, codes}
use Rattle.std.specs.Global.{Vec}
use Rattle.std.specs.List.{flat_map}
use Rattle.std.specs.Option.{ForSome, option_and_then}
use Rattle.std.specs.Str.{IsUtf8}
use Rattle.cat_model.specs.declared.grant.Owned.{Owned}
use Rattle.cat_model.specs.declared.stmt.Stmt.{Stmt}
use Rattle.cat_model.specs.declared.stmt.Stmt.TheVariants as stmt
use Rattle.ddl_laws.specs.fault.DdlFault.{DdlFault}
use Rattle.ddl_laws.specs.located.Located.{Located}
use Rattle.ddl_laws.specs.Reading.{statements_of}
use Rattle.ddl_laws.specs.Laying.{Lays}
use Rattle.ddl_laws.specs.Spellings.{said}
use Rattle.fmt_text.specs.Owners.{name_in, owned_object}
use Rattle.fmt_text.specs.Parts.{is_of_session, body}
use Rattle.toc_entry.specs.declared.entry.Entry.{Entry}

abbrev pub session_statements : List Stmt
session_statements =
    stmt.Set (codes "statement_timeout") (codes "0") ∷
    stmt.Set (codes "lock_timeout") (codes "0") ∷
    stmt.Set (codes "idle_in_transaction_session_timeout") (codes "0") ∷
    stmt.Set (codes "client_encoding") (codes "'UTF8'") ∷
    stmt.Set (codes "standard_conforming_strings") (codes "on") ∷
    stmt.SetConfig (codes "search_path") [] ∷
    stmt.Set (codes "check_function_bodies") (codes "false") ∷
    stmt.Set (codes "xmloption") (codes "content") ∷
    stmt.Set (codes "client_min_messages") (codes "warning") ∷
    stmt.Set (codes "row_security") (codes "off") ∷ []

-- ---- what a text says

abbrev pub found_in : Result (List Located) DdlFault → List Stmt
found_in (Ok found) = said found
found_in (Err fault) = []

-- the statements that a text reads as; none where it doesn't read
abbrev pub statements_in : List ℕ → List Stmt
statements_in text = found_in (statements_of text)

-- ---- an entry

abbrev pub given_to : Option Owned → Option (List ℕ) → List Stmt
given_to (Some object) (Some role) = stmt.OwnerTo object role ∷ []
given_to object role = []

-- what gives the object of an entry to its owner, in a script with owners
abbrev pub owner_statements : Bool → Entry → List Stmt
owner_statements owners e = if owners then given_to (owned_object e) (option_and_then name_in e.owner) else []

-- Its definition's or its rows', and then its owner's. What sets up the session stands in the script's head alone.
unfoldable pub entry_statements : Bool → Entry → Option (List ℕ) → List Stmt
entry_statements owners e rows =
    if is_of_session e.desc then [] else statements_in (body e rows) ++ owner_statements owners e

-- ---- a script

abbrev pub AllEntries : Type 0
AllEntries = List (Entry × Option (Vec ℕ))

abbrev pub rows_of : Entry × Option (Vec ℕ) → Option (List ℕ)
rows_of e = option_map (λ rows. rows.items) e.1

abbrev pub script_statements : Bool → AllEntries → List Stmt
script_statements owners entries = session_statements ++ flat_map (λ e. entry_statements owners e.0 (rows_of e)) entries

-- a script's texts can stand in comments, and what it says lies in it as it is written
pub record IsStated (e : Entry) (rows : Option (List ℕ)) : Type 0 where
  pub tag : IsUtf8 e.tag
  pub desc : IsUtf8 e.desc
  pub namespace : ForSome e.namespace IsUtf8
  pub owner : ForSome e.owner IsUtf8
  pub lays : is_of_session e.desc ≡ false → (statements : List Stmt) × Lays (body e rows) statements
