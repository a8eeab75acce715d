-- What an entry of an archive does, by what its texts read as.
use Rattle.std.proofs.Common.{◌≡◌, ℕ, Bool, true, false, List, [], ◌∷◌, ◌++◌, map, Option, Some, None, Result, Ok, codes, refl, sym, ap, ◌∙◌, append-nil}
use Rattle.std.specs.Prelude.{if◌then◌else◌, option_and_then}
use Rattle.std.proofs.lemmas.List.{map-append}
use Rattle.cat_model.specs.declared.grant.Owned.{Owned}
use Rattle.cat_model.specs.declared.stmt.Stmt.{Stmt}
use Rattle.cat_model.specs.Values.{Bytes}
use Rattle.ddl_laws.specs.Laying.{no_more}
use Rattle.ddl_laws.specs.Spellings.{said}
use Rattle.ddl_laws.specs.fault.DdlFault.{DdlFault}
use Rattle.ddl_laws.specs.located.Located.{Located}
use Rattle.ddl_laws.specs.Reading.{statements_of}
use Rattle.fmt_text.specs.Owners.{kind_of, name_in, object_of, owned_object}
use Rattle.fmt_text.specs.Parts.{is_of_session, is_table_data, text_or_none, body}
use Rattle.restore_plan.specs.declared.step.Step.{Step}
use Rattle.restore_steps.specs.Statements.{◌>>=◌, text_of, given_to, owner_statement, owner_steps, step_of, as_steps, steps_in, rows_text, rows_steps, statements}
use Rattle.script_laws.specs.Scripts.{found_in, statements_in, owner_statements, entry_statements}
use Rattle.script_laws.specs.Scripts as scripts
use Rattle.toc_entry.specs.declared.entry.Entry.{Entry}
use Rattle.toc_laws.proofs.Statements.{LaidLaw}
use Rattle.restorable_entries.specs.Planned.{plain_step, steps_of}

-- a text reads as statements
abbrev pub Reads : List ℕ → List Stmt → Type 0
Reads text ss = (found : List Located) × (statements_of text ≡ Ok found) × (said found ≡ ss)

plain_steps : (found : List Located) → map step_of found ≡ map plain_step (said found)
plain_steps [] = refl
plain_steps (l ∷ found) = ap (λ (steps : List Step). step_of l ∷ steps) (plain_steps found)

steps_read : (text : List ℕ) (ss : List Stmt) → Reads text ss → steps_in text ≡ Ok (map plain_step ss)
unfolding steps_in
steps_read text ss r = ap as_steps r.1 ∙ ap (λ (steps : List Step). Ok steps) (plain_steps r.0 ∙ ap (map plain_step) r.2)

is_said : (text : List ℕ) (ss : List Stmt) → Reads text ss → statements_in text ≡ ss
is_said text ss r = ap found_in r.1 ∙ r.2

-- what an entry does is what it says
abbrev pub Runs : Entry → Option Bytes → Type 0
Runs e rows = (owners : Bool) → statements owners e rows ≡ Ok (steps_of owners e rows)

pub made_runs : (e : Entry) (rows : Option Bytes) (ss : List Stmt) → e.has_rows ≡ false → is_table_data e.desc ≡ false → Reads (text_of e.defn) ss → Reads (text_of e.defn ++ codes "\n\n") ss → Runs e rows
unfolding statements rows_steps body
made_runs e rows ss none other defn behind owners =
    let owner = owner_steps (owner_statement owners e) in
    let says : statements_in (body e rows) ≡ ss =
    ap (λ (b : Bool). statements_in (if b then text_or_none e.copy_stmt ++ text_or_none rows else text_or_none e.defn ++ codes "\n\n")) other ∙ is_said (text_of e.defn ++ codes "\n\n") ss behind in
    ap (λ (r : Result (List Step) DdlFault). r >>= λ made. (if e.has_rows then steps_in (rows_text e rows) else Ok []) >>= λ put. Ok (made ++ owner ++ put)) (steps_read (text_of e.defn) ss defn)
    ∙ ap (λ (b : Bool). (if b then steps_in (rows_text e rows) else Ok []) >>= λ put. Ok (map plain_step ss ++ owner ++ put)) none
    ∙ ap (λ (steps : List Step). Ok steps) (append-nil (map plain_step ss ++ owner) ∙ ap (λ (xs : List Stmt). map plain_step xs ++ owner) (sym says))

none_given : (role : Option (List ℕ)) → given_to None role ≡ None
none_given None = refl
none_given (Some role) = refl

no_owner : (owners : Bool) (e : Entry) → kind_of e.desc ≡ None → owner_statement owners e ≡ None
unfolding owner_statement owned_object
no_owner false e none = refl
no_owner true e none = ap (λ k. given_to (object_of e k) (option_and_then name_in e.owner)) none ∙ none_given (option_and_then name_in e.owner)

pub rows_run : LaidLaw → (e : Entry) (rows : Option Bytes) (ss : List Stmt) → e.has_rows ≡ true → is_table_data e.desc ≡ true → text_of e.defn ≡ [] → kind_of e.desc ≡ None → Reads (rows_text e rows) ss → Runs e rows
unfolding statements rows_steps body
rows_run law e rows ss has copied empty none reads owners =
    let owner = owner_steps (owner_statement owners e) in
    let says : statements_in (body e rows) ≡ ss =
    ap (λ (b : Bool). statements_in (if b then text_or_none e.copy_stmt ++ text_or_none rows else text_or_none e.defn ++ codes "\n\n")) copied ∙ is_said (rows_text e rows) ss reads in
    ap (λ (r : Result (List Step) DdlFault). r >>= λ made. (if e.has_rows then steps_in (rows_text e rows) else Ok []) >>= λ put. Ok (made ++ owner ++ put)) (ap steps_in empty ∙ steps_read [] [] (law [] [] no_more))
    ∙ ap (λ (b : Bool). (if b then steps_in (rows_text e rows) else Ok []) >>= λ put. Ok (owner ++ put)) has
    ∙ ap (λ (r : Result (List Step) DdlFault). r >>= λ put. Ok (owner ++ put)) (steps_read (rows_text e rows) ss reads)
    ∙ ap (λ (o : Option Stmt). Ok (owner_steps o ++ map plain_step ss)) (no_owner owners e none)
    ∙ ap (λ (steps : List Step). Ok steps) (sym (append-nil (map plain_step ss)) ∙ ap (λ (xs : List Stmt). map plain_step xs ++ []) (sym says))
    ∙ ap (λ (o : Option Stmt). Ok (map plain_step (statements_in (body e rows)) ++ owner_steps o)) (sym (no_owner owners e none))

-- ---- what scripts say

abbrev statements_by : List Step → List Stmt
statements_by steps = map (λ (s : Step). s.statement) steps

plain_said : (ss : List Stmt) → statements_by (map plain_step ss) ≡ ss
plain_said [] = refl
plain_said (s ∷ ss) = ap (λ (xs : List Stmt). s ∷ xs) (plain_said ss)

given_said : (object : Option Owned) (role : Option (List ℕ)) → statements_by (owner_steps (given_to object role)) ≡ scripts.given_to object role
given_said None None = refl
given_said None (Some role) = refl
given_said (Some object) None = refl
given_said (Some object) (Some role) = refl

owner_said : (owners : Bool) (e : Entry) → statements_by (owner_steps (owner_statement owners e)) ≡ owner_statements owners e
unfolding owner_statement
owner_said false e = refl
owner_said true e = given_said (owned_object e) (option_and_then name_in e.owner)

pub scripts_say : (owners : Bool) (e : Entry) (rows : Option Bytes) → is_of_session e.desc ≡ false → statements_by (steps_of owners e rows) ≡ entry_statements owners e rows
unfolding entry_statements
scripts_say owners e rows other =
    let ss = statements_in (body e rows) in
    map-append (λ (s : Step). s.statement) (map plain_step ss) (owner_steps (owner_statement owners e))
    ∙ ap (λ (xs : List Stmt). xs ++ statements_by (owner_steps (owner_statement owners e))) (plain_said ss)
    ∙ ap (λ (xs : List Stmt). ss ++ xs) (owner_said owners e)
    ∙ ap (λ (b : Bool). if b then [] else ss ++ owner_statements owners e) (sym other)
