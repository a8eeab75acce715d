-- Going over a table's lines finds what its first fault is.
use Rattle.std.proofs.Common.{◌≡◌, ℕ, zero, suc, ◌+◌, ◌<◌, List, [], ◌∷◌, ◌++◌, length, take, Option, Some, None, unwrap_or, ◌⊎◌, inl, inr, refl, sym, ap, subst, ◌∙◌, arith}
use Rattle.std.specs.List.{slice_get}
use Rattle.std.proofs.lemmas.List.{append_assoc, append-nil, length-append}
use Rattle.std.proofs.lemmas.Option.{none-some}
use Rattle.cat_names.specs.declared.fault.FaultKind.{FaultKind}
use Rattle.cat_names.specs.declared.fault.LineFault.{LineFault}
use Rattle.cat_names.specs.declared.fault.Findings.{Findings}
use Rattle.cat_names.specs.Findings.{first_kind, fault_or, first_from, first_fault}
use Rattle.cat_names.specs.Firsts.{IsFirstRow, IsFirstFault, IsCleanTable}
use Rattle.cat_names.proofs.Steps.{passed, stopped, ended}

inside : {A : Type 0} (x y : A) → Some x ≡ Some y → x ≡ y
inside x y e = ap (λ o. unwrap_or o x) e

-- a fault alone, by its line and kind
alone : (n : ℕ) (k : Option FaultKind) (f : LineFault) → fault_or n k None ≡ Some f → (f.line ≡ n) × (k ≡ Some f.kind)
alone n None f e = absurd (none-some f e)
alone n (Some kind) f e =
    let same : record { line = n; kind = kind } ≡ f = inside (record { line = n; kind = kind }) f e in
    (sym (ap (λ g. g.line) same), ap (λ g. Some g.kind) same)

none_alone : (n : ℕ) (k : Option FaultKind) → fault_or n k None ≡ None → k ≡ None
none_alone n None e = refl
none_alone n (Some kind) e = absurd (none-some _ (sym e))

module _ {R : Type 0} (find : List R → R → Findings) (ending : Option FaultKind) where
  -- no row has a fault behind other rows
  abbrev CleanBehind : List R → List R → Type 0
  CleanBehind before rows = (i : ℕ) (row : R) → slice_get rows i ≡ Some row → first_kind (find (before ++ take i rows) row) ≡ None

  -- a row is the first that has one
  record FirstBehind (before rows : List R) (fault : LineFault) : Type 0 where
    place : ℕ
    row : R
    there : slice_get rows place ≡ Some row
    line : fault.line ≡ length before + place + 1
    kind : first_kind (find (before ++ take place rows) row) ≡ Some fault.kind
    earlier : (j : ℕ) (r : R) → j < place → slice_get rows j ≡ Some r → first_kind (find (before ++ take j rows) r) ≡ None

  abbrev EndBehind : List R → List R → LineFault → Type 0
  EndBehind before rows fault = CleanBehind before rows × (fault.line ≡ length before + length rows + 1) × (ending ≡ Some fault.kind)

  -- the rows up to a place behind one more row
  shifted : (before rows : List R) (x : R) (i : ℕ) → (before ++ x ∷ []) ++ take i rows ≡ before ++ take (suc i) (x ∷ rows)
  shifted before rows x i = append_assoc before (x ∷ []) (take i rows)

  longer : (before : List R) (x : R) → length (before ++ x ∷ []) ≡ length before + 1
  longer before x = length-append before (x ∷ [])

  clean_more : (before rows : List R) (x : R) → first_kind (find before x) ≡ None → CleanBehind (before ++ x ∷ []) rows → CleanBehind before (x ∷ rows)
  clean_more before rows x none clean zero row h =
      subst (λ r. first_kind (find (before ++ []) r) ≡ None) (inside x row h) (subst (λ b. first_kind (find b x) ≡ None) (sym (append-nil before)) none)
  clean_more before rows x none clean (suc i) row h = subst (λ b. first_kind (find b row) ≡ None) (shifted before rows x i) (clean i row h)

  first_here : (before rows : List R) (x : R) (kind : FaultKind) (f : LineFault) → first_kind (find before x) ≡ Some kind → (record { line = length before + 1; kind = kind }) ≡ f → FirstBehind before (x ∷ rows) f
  first_here before rows x kind f is same = record {
    place = 0;
    row = x;
    there = refl;
    line = sym (ap (λ g. g.line) same) ∙ zero_more (length before);
    kind = subst (λ b. first_kind (find b x) ≡ Some f.kind) (sym (append-nil before)) (is ∙ ap (λ g. Some g.kind) same);
    earlier = λ j r below h. absurd (omega (arith, below));
  }
    where
      zero_more : (n : ℕ) → n + 1 ≡ n + 0 + 1
      zero_more n = omega arith

  first_later : (before rows : List R) (x : R) (f : LineFault) → first_kind (find before x) ≡ None → FirstBehind (before ++ x ∷ []) rows f → FirstBehind before (x ∷ rows) f
  first_later before rows x f none first = record {
    place = suc first.place;
    row = first.row;
    there = first.there;
    line = first.line ∙ moved (length (before ++ x ∷ [])) (length before) first.place (longer before x);
    kind = subst (λ b. first_kind (find b first.row) ≡ Some f.kind) (shifted before rows x first.place) first.kind;
    earlier = earlier;
  }
    where
      moved : (m n p : ℕ) → m ≡ n + 1 → m + p + 1 ≡ n + suc p + 1
      moved m n p e = omega (arith, e)

      earlier : (j : ℕ) (r : R) → j < suc first.place → slice_get (x ∷ rows) j ≡ Some r → first_kind (find (before ++ take j (x ∷ rows)) r) ≡ None
      earlier zero r below h = subst (λ y. first_kind (find (before ++ []) y) ≡ None) (inside x r h) (subst (λ b. first_kind (find b x) ≡ None) (sym (append-nil before)) none)
      earlier (suc j) r below h = subst (λ b. first_kind (find b r) ≡ None) (shifted before rows x j) (first.earlier j r (omega (arith, below)) h)

  end_later : (before rows : List R) (x : R) (f : LineFault) → first_kind (find before x) ≡ None → EndBehind (before ++ x ∷ []) rows f → EndBehind before (x ∷ rows) f
  end_later before rows x f none e =
      (clean_more before rows x none e.0, e.1 ∙ moved (length (before ++ x ∷ [])) (length before) (length rows) (length (x ∷ rows)) (longer before x) one_more, e.2)
    where
      one_more : length (x ∷ rows) ≡ length rows + 1
      one_more = omega arith

      moved : (m n p q : ℕ) → m ≡ n + 1 → q ≡ p + 1 → m + p + 1 ≡ n + q + 1
      moved m n p q e h = omega (arith, e, h)

  abbrev Found : List R → List R → LineFault → Type 0
  Found before rows f = FirstBehind before rows f ⊎ EndBehind before rows f

  later : (before rows : List R) (x : R) (f : LineFault) → first_kind (find before x) ≡ None → Found (before ++ x ∷ []) rows f → Found before (x ∷ rows) f
  later before rows x f none (inl first) = inl (first_later before rows x f none first)
  later before rows x f none (inr end) = inr (end_later before rows x f none end)

  no_row : (before : List R) → CleanBehind before []
  no_row before i row h = absurd (none-some row h)

  at_end : (before : List R) (f : LineFault) → fault_or (length before + 1) ending None ≡ Some f → Found before [] f
  at_end before f e =
      let by = alone (length before + 1) ending f e in
      inr (no_row before, by.0 ∙ plus_none (length before), by.1)
    where
      plus_none : (n : ℕ) → n + 1 ≡ n + length {A = R} [] + 1
      plus_none n = omega arith

  found : (before rows : List R) (f : LineFault) → first_from find ending before rows ≡ Some f → Found before rows f
  found before [] f e = at_end before f (sym (ended find ending before) ∙ e)
  found before (x ∷ rows) f e = by_kind (first_kind (find before x)) refl (λ h. found (before ++ x ∷ []) rows f h)
    where
      by_kind : (k : Option FaultKind) → first_kind (find before x) ≡ k → (first_from find ending (before ++ x ∷ []) rows ≡ Some f → Found (before ++ x ∷ []) rows f) → Found before (x ∷ rows) f
      by_kind None is rest = later before rows x f is (rest (sym (passed find ending before rows x is) ∙ e))
      by_kind (Some kind) is rest = inl (first_here before rows x kind f is (inside (record { line = length before + 1; kind = kind }) f (sym (stopped find ending before rows x kind is) ∙ e)))

  clean : (before rows : List R) → first_from find ending before rows ≡ None → CleanBehind before rows × (ending ≡ None)
  clean before [] e = (no_row before, none_alone (length before + 1) ending (sym (ended find ending before) ∙ e))
  clean before (x ∷ rows) e = by_kind (first_kind (find before x)) refl (λ h. clean (before ++ x ∷ []) rows h)
    where
      by_kind : (k : Option FaultKind) → first_kind (find before x) ≡ k → (first_from find ending (before ++ x ∷ []) rows ≡ None → CleanBehind (before ++ x ∷ []) rows × (ending ≡ None)) → CleanBehind before (x ∷ rows) × (ending ≡ None)
      by_kind None is rest =
          let more = rest (sym (passed find ending before rows x is) ∙ e) in
          (clean_more before rows x is more.0, more.1)
      by_kind (Some kind) is rest = absurd (none-some _ (sym e ∙ stopped find ending before rows x kind is))

  first_row : (rows : List R) (f : LineFault) → FirstBehind [] rows f → IsFirstRow find rows f
  first_row rows f first = record { place = first.place; row = first.row; there = first.there; line = first.line ∙ from_none first.place; kind = first.kind; earlier = first.earlier }
    where
      from_none : (n : ℕ) → length {A = R} [] + n + 1 ≡ n + 1
      from_none n = omega arith

  -- a fault that is found is the table's first
  pub fault_is_first : (rows : List R) (f : LineFault) → first_fault find ending rows ≡ Some f → IsFirstFault find ending rows f
  fault_is_first rows f e = named (found [] rows f e)
    where
      from_none : (n : ℕ) → length {A = R} [] + n + 1 ≡ n + 1
      from_none n = omega arith

      named : Found [] rows f → IsFirstFault find ending rows f
      named (inl first) = inl (first_row rows f first)
      named (inr end) = inr (end.0, end.1 ∙ from_none (length rows), end.2)

  -- where none is found the table is clean
  pub no_fault_is_clean : (rows : List R) → first_fault find ending rows ≡ None → IsCleanTable find ending rows
  no_fault_is_clean rows e = clean [] rows e
