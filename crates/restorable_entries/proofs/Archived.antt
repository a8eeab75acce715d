-- The plan of entries of a dump that are read from an archive.
use Rattle.std.proofs.Common.{◌≡◌, ℕ, Bool, List, [], ◌∷◌, map, Option, None, Result, Ok, refl, sym, ap, subst, ◌∙◌}
use Rattle.std.specs.Global.{Vec}
use Rattle.std.specs.List.{AllByRecursion, slice_get}
use Rattle.cat_model.specs.declared.object.QName.{QName}
use Rattle.cat_model.specs.declared.words.What.{What}
use Rattle.cat_model.specs.Values.{Bytes}
use Rattle.cat_rows.specs.declared.catalogue.Catalogue.{Catalogue}
use Rattle.ddl_laws.specs.fault.DdlFault.{DdlFault}
use Rattle.dump_toc.specs.Toc.{toc_of, toc}
use Rattle.dump_script_laws.proofs.Lists.{got_has}
use Rattle.dump_script_laws.proofs.Orders.{is_dump, toc_is}
use Rattle.fmt_text.specs.Owners.{owned_object, path_of}
use Rattle.obj_graph.specs.declared.select.Select.{Select}
use Rattle.plan_entries.specs.Plans.{plan_due}
use Rattle.restore_plan.specs.declared.entry.Entry as planned
use Rattle.restore_plan.specs.declared.step.Step.{Step}
use Rattle.restore_plan.specs.Order.{plan_behind}
use Rattle.restore_steps.specs.declared.fault.PlanFault.{PlanFault}
use Rattle.restore_steps.specs.Faults.{left_out, told, unless_left_out, entry_of, entry_due, first_text, entries_due}
use Rattle.restore_steps.specs.Statements.{◌>>=◌, owner_statement, rows_steps, statements}
use Rattle.script_laws.specs.Scripts.{AllEntries, rows_of}
use Rattle.stmt_laws.specs.Named.{HoldsCells}
use Rattle.stmt_laws.proofs.Lists.{so_known}
use Rattle.toc_entry.specs.declared.entry.Entry.{Entry}
use Rattle.toc_laws.specs.Dumps.{HaveRows, entries_in}
use Rattle.toc_laws.proofs.Dumps.{Laws}
use Rattle.toc_laws.proofs.Statements.{LaidLaw}
use Rattle.well_formed.specs.Formed.{IsWellFormed}
use Rattle.restorable_entries.specs.Planned.{steps_of, planned_as, AreChosen, IsArchived, AreArchived, texts_in}
use Rattle.restorable_entries.proofs.Objects.{IsReady}
use Rattle.restorable_entries.proofs.Ready.{toc_ready}

-- ---- one entry

abbrev IsDue : Bool → Entry × Option (Vec ℕ) → Type 0
IsDue owners e = entry_due owners e.0 (rows_of e) ≡ Ok (planned_as owners e)

due : (owners : Bool) (e : Entry) (rows : Option Bytes) → left_out e ≡ None → statements owners e rows ≡ Ok (steps_of owners e rows) → entry_due owners e rows ≡ Ok (entry_of e (steps_of owners e rows))
unfolding entry_due
due owners e rows taken runs =
    ap (λ (r : Result (List Step) DdlFault). told e.dump_id r >>= λ steps. unless_left_out e.dump_id (left_out e) (entry_of e steps)) runs
    ∙ ap (λ (o : Option What). unless_left_out e.dump_id o (entry_of e (steps_of owners e rows))) taken

all_due : (owners : Bool) (es : List Entry) (entries : AllEntries) → AllByRecursion IsReady es → es ≡ entries_in entries → HaveRows entries → AllByRecursion (IsDue owners) entries
all_due owners es [] ready same rows = tt
all_due owners [] (e ∷ entries) ready same rows = absurd cc
all_due owners (x ∷ es) (e ∷ entries) ready same rows =
    let first : x ≡ e.0 = cc same in
    let more : es ≡ entries_in entries = cc same in
    let is = subst IsReady first ready.0 in
    (due owners e.0 (rows_of e) is.0 (is.1 (rows_of e) rows.0 owners), all_due owners es entries ready.1 more rows.1)

chosen_due : (owners : Bool) (entries chosen : AllEntries) → AllByRecursion (IsDue owners) entries → AreChosen entries chosen → AllByRecursion (IsDue owners) chosen
chosen_due owners entries [] all are = tt
chosen_due owners entries (c ∷ chosen) all are =
    (so_known (IsDue owners) (slice_get entries are.0.0) c (got_has (IsDue owners) entries all are.0.0) are.0.1, chosen_due owners entries chosen all are.1)

-- ---- read from an archive

elsewhere : (owners : Bool) (e : Entry × Option (Vec ℕ)) (a : Entry × Option (Vec ℕ)) → IsArchived e a → entry_due owners a.0 (rows_of a) ≡ entry_due owners e.0 (rows_of e)
unfolding entry_due statements left_out rows_steps owner_statement owned_object path_of
elsewhere owners e a is =
    ap (λ (x : Entry). entry_due owners x (rows_of a)) is.0
    ∙ ap (λ (o : Option (Vec ℕ)). entry_due owners e.0 (first_text (o ∷ []))) is.1

entries_are : (owners : Bool) (chosen archived : AllEntries) → AllByRecursion (IsDue owners) chosen → AreArchived chosen archived → entries_due owners (entries_in archived) (texts_in archived) ≡ Ok (map (planned_as owners) chosen)
entries_are owners [] [] all are = refl
entries_are owners [] (a ∷ archived) all are = absurd are
entries_are owners (c ∷ chosen) [] all are = absurd are
entries_are owners (c ∷ chosen) (a ∷ archived) all are =
    ap (λ (r : Result planned.Entry PlanFault). r >>= λ x. entries_due owners (entries_in archived) (texts_in archived) >>= λ xs. Ok (x ∷ xs)) (elsewhere owners c a are.0 ∙ all.0)
    ∙ ap (λ (r : Result (List planned.Entry) PlanFault). r >>= λ xs. Ok (planned_as owners c ∷ xs)) (entries_are owners chosen archived all.1 are.1)

pub planned_due : LaidLaw → Laws → (cat : Catalogue) (select : Select) (entries chosen archived : AllEntries) (owners : Bool) (parents : List (QName × QName))
    → HoldsCells cat → IsWellFormed cat → toc cat select ≡ Ok (entries_in entries) → HaveRows entries → AreChosen entries chosen → AreArchived chosen archived
    → plan_due parents owners (entries_in archived) (texts_in archived) ≡ Ok (record { entries = entries_in archived; planned = plan_behind parents [] (map (planned_as owners) chosen) })
unfolding plan_due
planned_due law laws cat select entries chosen archived owners parents holds formed is rows of_dump read =
    let t = toc_is cat select (entries_in entries) is in
    let ready = toc_ready law laws cat holds select t.order (is_dump cat select t.order holds formed t.sorts) in
    let all = all_due owners (toc_of cat select t.order) entries ready (sym t.are) rows in
    ap (λ (r : Result (List planned.Entry) PlanFault). r >>= λ es. Ok (record { entries = entries_in archived; planned = plan_behind parents [] es }))
    (entries_are owners chosen archived (chosen_due owners entries chosen all of_dump) read)
