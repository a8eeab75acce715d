-- Entries that were read, before what is due of those to come, and how many statements their definitions read as.
use Rattle.std.proofs.Common.{◌≡◌, ℕ, Bool, ◌+◌, ◌<◌, List, [], ◌∷◌, ◌++◌, map, drop, length, get_or, Option, Result, Ok, Err, ap, sym, ◌∙◌, append_assoc}
use Rattle.std.proofs.lemmas.List.{drop_more}
use Rattle.std.specs.Global.{Vec}
use Rattle.restore_plan.specs.declared.entry.Entry.{Entry}
use Rattle.restore_steps.specs.declared.fault.PlanFault.{PlanFault}
use Rattle.restore_steps.specs.Faults.{entries_due, entry_due, first_text}
use Rattle.restore_steps.specs.Statements.{◌>>=◌, definition_count}
use Rattle.toc_entry.specs.declared.entry.Entry as archived

abbrev pub before : List Entry → Result (List Entry) PlanFault → Result (List Entry) PlanFault
before front (Ok more) = Ok (front ++ more)
before front (Err fault) = Err fault

-- an entry that was read goes to the front
one_more : (front : List Entry) (x : Entry) (due : Result Entry PlanFault) (later : Result (List Entry) PlanFault) → due ≡ Ok x
    → before (front ++ x ∷ []) later ≡ before front (due >>= λ y. later >>= λ ys. Ok (y ∷ ys))
one_more front x due later is = by later ∙ ap (λ (d : Result Entry PlanFault). before front (d >>= λ y. later >>= λ ys. Ok (y ∷ ys))) (sym is)
  where
    by : (later : Result (List Entry) PlanFault) → before (front ++ x ∷ []) later ≡ before front (later >>= λ ys. Ok (x ∷ ys))
    by (Ok more) = ap (λ (es : List Entry). Ok es) (append_assoc front (x ∷ []) more)
    by (Err fault) = λ i. Err fault

-- the entry at a place stands before those behind it
stands : (es : List archived.Entry) (i : ℕ) (e : archived.Entry) → i < length es → e ≡ get_or es i e → drop i es ≡ e ∷ drop (i + 1) es
stands es i e within is = drop_more es i e within ∙ ap (λ (y : archived.Entry). y ∷ drop (i + 1) es) (sym is)

pub due_on : (owners : Bool) (es : List archived.Entry) (i : ℕ) (e : archived.Entry) (front front' : List Entry) (texts texts' : List (Option (Vec ℕ))) (rows : Option (List ℕ)) (x : Entry) (whole : Result (List Entry) PlanFault)
    → i < length es → e ≡ get_or es i e → front' ≡ front ++ x ∷ [] → texts' ≡ drop 1 texts → rows ≡ first_text texts → entry_due owners e rows ≡ Ok x
    → before front (entries_due owners (drop i es) texts) ≡ whole → before front' (entries_due owners (drop (i + 1) es) texts') ≡ whole
due_on owners es i e front front' texts texts' rows x whole within at fronts rest first due so =
    let later : Result (List Entry) PlanFault = entries_due owners (drop (i + 1) es) (drop 1 texts) in
    ap (λ (f : List Entry). before f (entries_due owners (drop (i + 1) es) texts')) fronts
    ∙ ap (λ (t : List (Option (Vec ℕ))). before (front ++ x ∷ []) (entries_due owners (drop (i + 1) es) t)) rest
    ∙ one_more front x (entry_due owners e (first_text texts)) later (ap (entry_due owners e) (sym first) ∙ due)
    ∙ ap (λ (l : List archived.Entry). before front (entries_due owners l texts)) (sym (stands es i e within at))
    ∙ so

pub counts_on : (es : List archived.Entry) (i : ℕ) (e : archived.Entry) (front front' : List ℕ) (n : ℕ) (whole : List ℕ)
    → i < length es → e ≡ get_or es i e → front' ≡ front ++ n ∷ [] → n ≡ definition_count e → front ++ map definition_count (drop i es) ≡ whole → front' ++ map definition_count (drop (i + 1) es) ≡ whole
counts_on es i e front front' n whole within at fronts is so =
    ap (λ (f : List ℕ). f ++ map definition_count (drop (i + 1) es)) fronts
    ∙ append_assoc front (n ∷ []) (map definition_count (drop (i + 1) es))
    ∙ ap (λ (m : ℕ). front ++ m ∷ map definition_count (drop (i + 1) es)) is
    ∙ ap (λ (l : List archived.Entry). front ++ map definition_count l) (sym (stands es i e within at))
    ∙ so
