-- Lines that stand for their rows, one after another.
use Rattle.std.proofs.Common.{◌≡◌, ◌≢◌, ℕ, ◌+◌, ◌-◌, Bool, true, false, ◌&&◌, ◌||◌, eqb, List, [], ◌∷◌, ◌++◌, length, take, refl, sym, ap, subst, ◌∙◌, arith, append_assoc, inl, inr, ◌⊎◌}
use Rattle.std.specs.List.{AllByRecursion, list_all, count_by}
use Rattle.std.specs.Str.{bytes_eq}
use Rattle.std.specs.Cmp.{first_so, second_so}
use Rattle.std.proofs.lemmas.Bool.{cases_Bool, eqb-true, eq-eqb, false_from_ne_true, false≢true}
use lib.Seq.{take-append_seam}
use Rattle.std.proofs.lemmas.List.{append-nil, length-append}
use Rattle.std.proofs.lemmas.List.Elements.{recursion_from_All}
use Rattle.std.proofs.lemmas.Slice.Eq.{bytes_eq-Decides}
use Rattle.copy_text.specs.Marks.{tab, newline, end_mark}
use Rattle.copy_text.specs.Reading.{row_of}
use Rattle.dump_files.specs.Own.{is_own, is_own_or_newline}
use Rattle.dump_files.specs.Readings.{coming, behind, IsOwnRun}
use Rattle.dump_files.proofs.LineLemmas.{NoNewline}
use Rattle.dump_files.proofs.OwnLemmas.{own_line}
use Rattle.dump_files.proofs.StepLemmas.{line_out}

split_all : (p : ℕ → Bool) (xs ys : List ℕ) → list_all p (xs ++ ys) ≡ true → (list_all p xs ≡ true) × (list_all p ys ≡ true)
split_all p [] ys all = (refl, all)
split_all p (x ∷ xs) ys all =
    let more = split_all p xs ys (second_so (p x) (list_all p (xs ++ ys)) all) in
    (ap (λ (b : Bool). b && list_all p xs) (first_so (p x) (list_all p (xs ++ ys)) all) ∙ more.0, more.1)

own_byte : (b : ℕ) → is_own_or_newline b ≡ true → b ≢ newline → is_own b ≡ true
own_byte b either none = by (cases_Bool (is_own b))
  where
    by : (is_own b ≡ true) ⊎ (is_own b ≡ false) → is_own b ≡ true
    by (inl is) = is
    by (inr other) = absurd (none (eqb-true b newline (sym (ap (λ (x : Bool). x || eqb b newline) other) ∙ either)))

-- a line of such bytes holds its own spelling
own_of : (line : List ℕ) → list_all is_own_or_newline line ≡ true → AllByRecursion (λ b. b ≢ newline) line → list_all is_own line ≡ true
own_of [] all none = refl
own_of (b ∷ line) all none =
    let rest = own_of line (second_so (is_own_or_newline b) (list_all is_own_or_newline line) all) none.1 in
    ap (λ (x : Bool). x && list_all is_own line) (own_byte b (first_so (is_own_or_newline b) (list_all is_own_or_newline line) all) none.0) ∙ rest

-- it isn't the one that ends the rows
no_end : (line : List ℕ) → list_all is_own line ≡ true → bytes_eq line end_mark ≡ false
no_end line own = false_from_ne_true _ (λ same. false≢true (subst (λ (xs : List ℕ). list_all is_own xs ≡ true) ((bytes_eq-Decides line end_mark).0 same) own))

-- nothing is out yet
pub run_begins : (columns rows : ℕ) (text : List ℕ) → IsOwnRun columns rows text text rows
run_begins columns rows text = record {
  front = [];
  parts = refl;
  as_it_stands = λ out more. ap (λ (o : List ℕ). behind o rows (coming columns rows false (text ++ more))) (sym (append-nil out));
}

module _ (columns rows count : ℕ) (text rest line later : List ℕ) (own : list_all is_own_or_newline text ≡ true) (none : NoNewline line) (is : rest ≡ line ++ newline ∷ later) (fits : count_by (λ b. eqb b tab) line + 1 ≡ columns) (run : IsOwnRun columns rows text rest count) where
  abbrev put : List ℕ
  put = line ++ newline ∷ []

  line_own : list_all is_own line ≡ true
  line_own =
      let behind_front = (split_all is_own_or_newline run.front rest (subst (λ (xs : List ℕ). list_all is_own_or_newline xs ≡ true) run.parts own)).1 in
      let front = (split_all is_own_or_newline line (newline ∷ later) (subst (λ (xs : List ℕ). list_all is_own_or_newline xs ≡ true) is behind_front)).0 in
      own_of line front (recursion_from_All (λ b. b ≢ newline) line none)

  one_more : (out more : List ℕ) → behind out count (coming columns count false (rest ++ more)) ≡ behind (out ++ put) (count + 1) (coming columns (count + 1) false (later ++ more))
  one_more out more =
      let row = own_line columns line columns out (out ++ put) line_own (sym fits) (eq-eqb columns columns refl) refl in
      ap (λ (xs : List ℕ). behind out count (coming columns count false (xs ++ more))) is
      ∙ ap (λ (xs : List ℕ). behind out count (coming columns count false xs)) (append_assoc line (newline ∷ later) more)
      ∙ line_out columns count out line (later ++ more) none row.0 (out ++ put) (no_end line line_own) row.1 row.2

  -- one more line stands for its row
  pub run_on : IsOwnRun columns rows text later (count + 1)
  run_on = record {
    front = run.front ++ put;
    parts =
        run.parts ∙ ap (λ (xs : List ℕ). run.front ++ xs) is
        ∙ ap (λ (xs : List ℕ). run.front ++ xs) (sym (append_assoc line (newline ∷ []) later))
        ∙ sym (append_assoc run.front put later);
    as_it_stands = λ out more.
        run.as_it_stands out more ∙ one_more (out ++ run.front) more
        ∙ ap (λ (o : List ℕ). behind o (count + 1) (coming columns (count + 1) false (later ++ more))) (append_assoc out run.front put);
  }

front_is : (text front rest : List ℕ) → text ≡ front ++ rest → take (length text - length rest) text ≡ front
front_is text front rest is =
    let long : length text ≡ length front + length rest = ap length is ∙ length-append front rest in
    let n : length text - length rest ≡ length front = omega (arith, long) in
    ap (λ (k : ℕ). take k text) n ∙ ap (take (length front)) is ∙ take-append_seam front rest

-- all that stands for its rows is put out at once
pub run_out : (columns rows count : ℕ) (text rest out new more : List ℕ) → IsOwnRun columns rows text rest count → new ≡ out ++ take (length text - length rest) text
    → behind out rows (coming columns rows false (text ++ more)) ≡ behind new count (coming columns count false (rest ++ more))
run_out columns rows count text rest out new more run is =
    run.as_it_stands out more
    ∙ ap (λ (o : List ℕ). behind o count (coming columns count false (rest ++ more))) (sym (is ∙ ap (λ (xs : List ℕ). out ++ xs) (front_is text run.front rest run.parts)))
