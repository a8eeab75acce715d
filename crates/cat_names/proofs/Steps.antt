-- Going over a table's lines: what was found at a line is passed, or is the table's first fault.
use Rattle.std.proofs.Common.{◌≡◌, Bool, true, false, ◌||◌, ℕ, ◌+◌, ◌<◌, List, [], ◌∷◌, ◌++◌, length, map, take, drop, Option, Some, None, refl, sym, ap, subst, ◌∙◌, arith}
use Rattle.std.proofs.Math.ListN.{get_or}
use Rattle.std.specs.List.{list_any}
use Rattle.std.proofs.lemmas.List.Folds.{list_any-append}
use Rattle.std.proofs.lemmas.List.{take_more, drop_more, length-take-le, get_or_default}
use Rattle.std.proofs.lemmas.Option.{none-some}
use Rattle.cat_names.specs.declared.fault.FaultKind.{FaultKind}
use Rattle.cat_names.specs.declared.fault.LineFault.{LineFault}
use Rattle.cat_names.specs.declared.fault.LineError.{LineError}
use Rattle.cat_names.specs.declared.fault.LineError.TheVariants.{Fault, Memory}
use Rattle.cat_names.specs.declared.fault.Findings.{Findings}
use Rattle.cat_names.specs.Findings.{first_kind, fault_or, first_from}
use Rattle.cat_names.specs.Gives.{IsLineDue}

-- where nothing was found, no fault is due at the line
pub nothing_found : (line : ℕ) (k : Option FaultKind) → fault_or line k None ≡ None → k ≡ None
nothing_found line None e = refl
nothing_found line (Some kind) e = absurd (none-some _ (sym e))

-- what is due at a line alone is due with all that follows
pub due_first : (line : ℕ) (k : Option FaultKind) (more : Option LineFault) (error : LineError) → IsLineDue error (fault_or line k None) → IsLineDue error (fault_or line k more)
due_first line k more Memory e = tt
due_first line None more (Fault fault) e = absurd (none-some _ e)
due_first line (Some kind) more (Fault fault) e = e

length_taken : {R : Type 0} (rows : List R) (i : ℕ) → i < length rows → length (take i rows) ≡ i
length_taken rows i h = length-take-le i rows (omega (arith, h))

pub map_pushed : {R A : Type 0} (f : R → A) (xs : List R) (x : R) → map f (xs ++ x ∷ []) ≡ map f xs ++ f x ∷ []
map_pushed f [] x = refl
map_pushed f (y ∷ ys) x = ap (λ rest. f y ∷ rest) (map_pushed f ys x)

module _ {R : Type 0} (find : List R → R → Findings) (ending : Option FaultKind) where
  -- a line at which nothing was found is passed
  pub passed : (before rows : List R) (row : R) → first_kind (find before row) ≡ None → first_from find ending before (row ∷ rows) ≡ first_from find ending (before ++ row ∷ []) rows
  unfolding first_from
  passed before rows row e = ap (λ k. fault_or (length before + 1) k (first_from find ending (before ++ row ∷ []) rows)) e

  -- what was found at a line is the first fault of the lines from it on
  pub failed : (before rows : List R) (row : R) (line : ℕ) (error : LineError) → line ≡ length before + 1 → IsLineDue error (fault_or line (first_kind (find before row)) None) → IsLineDue error (first_from find ending before (row ∷ rows))
  unfolding first_from
  failed before rows row line error e due =
      rw (← e) (due_first line (first_kind (find before row)) (first_from find ending (before ++ row ∷ []) rows) error due)

  -- a line at which something was found is the first
  pub stopped : (before rows : List R) (row : R) (kind : FaultKind) → first_kind (find before row) ≡ Some kind → first_from find ending before (row ∷ rows) ≡ Some (record { line = length before + 1; kind = kind })
  unfolding first_from
  stopped before rows row kind e = ap (λ k. fault_or (length before + 1) k (first_from find ending (before ++ row ∷ []) rows)) e

  -- behind the last line the table's end is tried
  pub ended : (rows : List R) → first_from find ending rows [] ≡ fault_or (length rows + 1) ending None
  unfolding first_from
  ended rows = refl

  -- the same at a place of the rows
  pub passed_at : (rows : List R) (i : ℕ) (row : R) (due : Option LineFault) → i < length rows → row ≡ get_or rows i row → first_kind (find (take i rows) row) ≡ None
      → due ≡ first_from find ending (take i rows) (drop i rows) → due ≡ first_from find ending (take (i + 1) rows) (drop (i + 1) rows)
  passed_at rows i row due h is none so_far =
      let here : drop i rows ≡ row ∷ drop (i + 1) rows = drop_more rows i row h ∙ ap (λ r. r ∷ drop (i + 1) rows) (sym is) in
      let more : take i rows ++ row ∷ [] ≡ take (i + 1) rows = ap (λ r. take i rows ++ r ∷ []) is ∙ sym (take_more rows i row h) in
      so_far
      ∙ ap (first_from find ending (take i rows)) here
      ∙ passed (take i rows) (drop (i + 1) rows) row none
      ∙ ap (λ before. first_from find ending before (drop (i + 1) rows)) more

  pub failed_at : (rows : List R) (i : ℕ) (row : R) (due : Option LineFault) (line : ℕ) (error : LineError) → i < length rows → row ≡ get_or rows i row → line ≡ i + 1
      → IsLineDue error (fault_or line (first_kind (find (take i rows) row)) None) → due ≡ first_from find ending (take i rows) (drop i rows) → IsLineDue error due
  failed_at rows i row due line error h is at wrong so_far =
      let here : drop i rows ≡ row ∷ drop (i + 1) rows = drop_more rows i row h ∙ ap (λ r. r ∷ drop (i + 1) rows) (sym is) in
      let long : length (take i rows) ≡ i = length_taken rows i h in
      subst (IsLineDue error) (sym (so_far ∙ ap (first_from find ending (take i rows)) here))
      (failed (take i rows) (drop (i + 1) rows) row line error (at ∙ ap (λ n. n + 1) (sym long)) wrong)

  -- behind the last row the table's end is tried
  pub ended_at : (rows : List R) (i : ℕ) (due : Option LineFault) → drop i rows ≡ [] → take i rows ≡ rows → due ≡ first_from find ending (take i rows) (drop i rows) → due ≡ fault_or (length rows + 1) ending None
  ended_at rows i due none all so_far = so_far ∙ ap (first_from find ending (take i rows)) none ∙ ap (λ rs. first_from find ending rs []) all ∙ ended rows

-- what one column holds in the rows up to a place and in the row there
pub column_more : {R : Type 0} {A : Type 0} (f : R → A) (rows : List R) (i : ℕ) (row : R) → i < length rows → row ≡ get_or rows i row → map f (take (i + 1) rows) ≡ map f (take i rows) ++ f row ∷ []
column_more f rows i row h is =
    ap (map f) (take_more rows i row h ∙ ap (λ r. take i rows ++ r ∷ []) (sym is)) ∙ map_pushed f (take i rows) row

or_false : (a b : Bool) → (a || (b || false)) ≡ (a || b)
or_false true b = refl
or_false false true = refl
or_false false false = refl

-- whether a row up to a place passes, or the row there
pub any_more : {R : Type 0} (f : R → Bool) (rows : List R) (i : ℕ) (row : R) → i < length rows → row ≡ get_or rows i row → list_any f (take (i + 1) rows) ≡ (list_any f (take i rows) || f row)
any_more f rows i row h is =
    ap (list_any f) (take_more rows i row h ∙ ap (λ r. take i rows ++ r ∷ []) (sym is))
    ∙ list_any-append f (take i rows) (row ∷ [])
    ∙ or_false (list_any f (take i rows)) (f row)

-- what stands at a place stands there whatever is answered past the end
pub get_or_itself : {R : Type 0} (rows : List R) (i : ℕ) (d : R) → i < length rows → get_or rows i d ≡ get_or rows i (get_or rows i d)
get_or_itself rows i d h = get_or_default rows i d (get_or rows i d) h
