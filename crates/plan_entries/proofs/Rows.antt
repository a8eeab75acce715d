-- The rows of the last COPY, statement by statement, and those of an entry in a plan.
use Rattle.std.proofs.Common.{◌≡◌, ℕ, ◌+◌, ◌<◌, ◌≤◌, List, [], ◌∷◌, map, drop, length, get_or, Option, Some, None, inl, inr, ap, sym, ◌∙◌, arith, ◌⊎◌}
use Rattle.std.proofs.lemmas.List.{drop_more, get_or-map}
use Rattle.std.proofs.lemmas.Option.{slice_get_cases, slice_get_read}
use Rattle.std.specs.List.{slice_get}
use Rattle.std.specs.Option.{option_map_or}
use Rattle.cat_model.specs.Values.{Bytes}
use Rattle.restore_plan.specs.declared.step.Step.{Step}
use Rattle.restore_plan.specs.declared.planned.Planned.{Planned}
use Rattle.restore_steps.specs.Statements.{definition_count}
use Rattle.toc_entry.specs.declared.entry.Entry.{Entry}
use Rattle.plan_entries.specs.Texts.{last_rows, later_of, rows_in, rows_of, text_at}

one_later : (x r later : Option Bytes) → later_of (later_of x r) later ≡ later_of x (later_of r later)
one_later x r None = λ i. later_of x r
one_later x r (Some rows) = λ i. Some rows

pub goes_on : (steps : List Step) (i : ℕ) (s : Step) (x y whole : Option Bytes) → i < length steps → s ≡ get_or steps i s → y ≡ later_of x (rows_in s.statement)
    → later_of x (last_rows (drop i steps)) ≡ whole → later_of y (last_rows (drop (i + 1) steps)) ≡ whole
goes_on steps i s x y whole within at is so =
    let here : drop i steps ≡ s ∷ drop (i + 1) steps = drop_more steps i s within ∙ ap (λ (t : Step). t ∷ drop (i + 1) steps) (sym at) in
    ap (λ (o : Option Bytes). later_of o (last_rows (drop (i + 1) steps))) is
    ∙ one_later x (rows_in s.statement) (last_rows (drop (i + 1) steps))
    ∙ ap (λ (ss : List Step). later_of x (last_rows ss)) (sym here)
    ∙ so

-- the rows of an entry, by how many statements its definition reads as
pub text_is : (es : List Entry) (ps : List Planned) (ds : List ℕ) (i : ℕ) (p : Planned) (d : ℕ) → length es ≡ length ps → ds ≡ map definition_count es → i < length es
    → p ≡ get_or ps i p → d ≡ get_or ds i d → last_rows (drop d p.steps) ≡ text_at (record { entries = es; planned = ps }) i
text_is es ps ds i p d many counts within at count = by (slice_get_cases es i).1
  where
    by : ((x : Entry) × (i < length es) × (slice_get es i ≡ Some x) × (get_or es i x ≡ x)) ⊎ ((length es ≤ i) × (slice_get es i ≡ None)) → last_rows (drop d p.steps) ≡ text_at (record { entries = es; planned = ps }) i
    by (inl (x, inside, is, got)) =
        let counted : d ≡ definition_count x = count ∙ ap (λ (l : List ℕ). get_or l i d) counts ∙ get_or-map definition_count es i x d within ∙ ap definition_count got in
        let placed : slice_get ps i ≡ Some p = slice_get_read ps (length es) i p many within at in
        ap (λ (n : ℕ). last_rows (drop n p.steps)) counted
        ∙ sym (ap (λ (o : Option Entry). option_map_or (λ e. option_map_or (rows_of e) (slice_get ps i) None) o None) is
        ∙ ap (λ (o : Option Planned). option_map_or (rows_of x) o None) placed)
    by (inr (past, none)) = absurd (omega (arith, within, past))
