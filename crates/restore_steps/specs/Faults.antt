-- Which entries a restore takes, and what an entry is for it.
use Rattle.std.specs.Prelude.{◌≡◌, ℕ, ◌==◌, Bool, true, false, List, [], ◌∷◌, drop, Option, Some, None, Result, Ok, Err, ⊤, if◌then◌else◌, codes}
use Rattle.std.specs.Global.{Vec}
use Rattle.std.specs.List.{list_any}
use Rattle.std.specs.Option.{option_map}
use Rattle.std.specs.Str.{bytes_eq}
use Rattle.cat_model.specs.declared.words.What.{What}
use Rattle.cat_model.specs.declared.words.What.TheVariants as what
use Rattle.ddl_read.specs.fault.DdlFault.{DdlFault}
use Rattle.restore_plan.specs.declared.step.Step.{Step}
use Rattle.restore_plan.specs.declared.entry.Entry as planned
use Rattle.toc_entry.specs.declared.entry.Entry.{Entry}
use Rattle.restore_steps.specs.declared.fault.PlanFault.{PlanFault}
use Rattle.restore_steps.specs.declared.fault.PlanFault.TheVariants.{BadDefn, OutOfProfile}
use Rattle.restore_steps.specs.declared.fault.PlanError.{PlanError}
use Rattle.restore_steps.specs.declared.fault.PlanError.TheVariants as errors
use Rattle.restore_steps.specs.Statements.{kind_of, statements, ◌>>=◌}

-- ---- what is left out

-- the kinds of entries that a restore takes
abbrev pub taken_kinds : List (List ℕ)
taken_kinds =
    codes "ENCODING" ∷ codes "STDSTRINGS" ∷ codes "SEARCHPATH" ∷ codes "DATABASE"
    ∷ codes "SCHEMA" ∷ codes "TYPE" ∷ codes "DOMAIN" ∷ codes "TABLE" ∷ codes "VIEW" ∷ codes "SEQUENCE"
    ∷ codes "SEQUENCE OWNED BY" ∷ codes "DEFAULT" ∷ codes "TABLE DATA" ∷ codes "SEQUENCE SET"
    ∷ codes "CONSTRAINT" ∷ codes "FK CONSTRAINT" ∷ codes "INDEX" ∷ codes "RULE" ∷ codes "COMMENT" ∷ codes "ACL" ∷ []

abbrev pub is_taken : List ℕ → Bool
is_taken desc = list_any (λ kind. bytes_eq kind desc) taken_kinds

-- a tablespace other than the default one, which is the empty text
abbrev pub has_tablespace : Option (List ℕ) → Bool
has_tablespace None = false
has_tablespace (Some []) = false
has_tablespace (Some (c ∷ cs)) = true

-- what of an entry is left out: its kind, else its tablespace
unfoldable pub left_out : Entry → Option What
left_out e =
    if is_taken e.desc then (if has_tablespace e.tablespace then Some what.Tablespace else None)
    else Some (what.EntryKind e.desc)

-- ---- an entry

-- the section of what is restored behind the rows
abbrev pub is_post_data : ℕ → Bool
is_post_data section = section == 4

abbrev pub told : {A : Type 0} → ℕ → Result A DdlFault → Result A PlanFault
told id (Ok x) = Ok x
told id (Err fault) = Err (BadDefn id fault)

abbrev pub unless_left_out : {A : Type 0} → ℕ → Option What → A → Result A PlanFault
unless_left_out id None x = Ok x
unless_left_out id (Some it) x = Err (OutOfProfile id it)

abbrev pub entry_of : Entry → List Step → planned.Entry
entry_of e steps = record { id = e.dump_id; post_data = is_post_data e.section; kind = kind_of e.desc; listed = e.depends; steps = steps }

-- An entry and its rows as a restore sees them, with owners or without. That it is left out comes last.
unfoldable pub entry_due : Bool → Entry → Option (List ℕ) → Result planned.Entry PlanFault
entry_due owners e rows =
    told e.dump_id (statements owners e rows) >>= λ steps. unless_left_out e.dump_id (left_out e) (entry_of e steps)

-- ---- a list of entries

-- the rows of the first entry, which has none where no texts are left
abbrev pub first_text : List (Option (Vec ℕ)) → Option (List ℕ)
first_text [] = None
first_text (text ∷ texts) = option_map (λ rows. rows.items) text

-- entries with their rows, in order; the first fault counts
abbrev pub entries_due : Bool → List Entry → List (Option (Vec ℕ)) → Result (List planned.Entry) PlanFault
entries_due owners [] texts = Ok []
entries_due owners (e ∷ es) texts =
    entry_due owners e (first_text texts) >>= λ x. entries_due owners es (drop 1 texts) >>= λ xs. Ok (x ∷ xs)

-- ---- what the code answers

abbrev pub Fails : {B : Type 0} → PlanError → Result B PlanFault → Type 0
Fails errors.Memory due = ⊤
Fails (errors.Fault fault) due = due ≡ Err fault

-- what a call returned, seen by view, is what is due, unless memory ran out
abbrev pub Gives : {A B : Type 0} → (A → B) → Result A PlanError → Result B PlanFault → Type 0
Gives view (Ok x) due = due ≡ Ok (view x)
Gives view (Err error) due = Fails error due
