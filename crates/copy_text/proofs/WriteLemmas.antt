-- Writing a text, run by run.
use Rattle.std.proofs.Common.{◌≡◌, ℕ, zero, suc, ◌+◌, ◌<◌, ◌≤◌, Bool, true, false, not, cond, ltb, List, [], ◌∷◌, ◌++◌, length, get_or, take, drop, map, Option, Some, None, Result, Ok, Err, refl, sym, ap, subst, ◌∙◌, append_assoc, arith, inl, inr, ◌⊎◌}
use Rattle.std.specs.Option.{is_some, unwrap_or, option_map_or}
use Rattle.std.specs.Result.{is_ok, OnOk}
use Rattle.std.specs.List.{All, position, position_or_len, join_with_byte}
use Rattle.std.proofs.lemmas.Bool.{cases_Bool, cond-true, lt-ltb, ltb-true, ltb-false, false_from_ne_true, true_from_ne_false, both_ways, not_from_true, not_from_false}
use Rattle.std.proofs.lemmas.List.{drop_more, take_more, append-nil, drop_all, take_all, take_at, length-take-le, length-map, map_more}
use Rattle.std.proofs.lemmas.List.Sums.{prefix_len_passes, prefix_len_stops}
use Rattle.std.proofs.lemmas.List.Elements.{All-append}
use Rattle.copy_text.specs.Marks.{tab, newline, backslash}
use Rattle.copy_text.specs.Rows.{Field, IsField, Extends, letter_of, is_escaped, spell_byte, spell_text, spell_field, spell_row}

-- ---- what a position says

pub found_at : (p : ℕ → Bool) (bytes : List ℕ) (at : ℕ) → position p bytes ≡ Some at → (at < length bytes) × ((j : ℕ) → j < at → p (get_or bytes j 0) ≡ false) × (p (get_or bytes at 0) ≡ true)
found_at p bytes at is = by (cases_Bool (ltb (position_or_len p bytes) (length bytes)))
  where
    by : (ltb (position_or_len p bytes) (length bytes) ≡ true) ⊎ (ltb (position_or_len p bytes) (length bytes) ≡ false)
        → (at < length bytes) × ((j : ℕ) → j < at → p (get_or bytes j 0) ≡ false) × (p (get_or bytes at 0) ≡ true)
    by (inl within) =
        let lt : position_or_len p bytes < length bytes = ltb-true _ _ within in
        let chosen : position p bytes ≡ Some (position_or_len p bytes) = rw within refl in
        let same : position_or_len p bytes ≡ at = cc in (
          omega arith,
          λ j below. false_from_ne_true _ (λ passes. both_ways _ (not_from_true _ passes) (prefix_len_passes (λ x. not (p x)) bytes j 0 (omega arith))),
          true_from_ne_false _ (λ fails. both_ways _ (rw (← same) (prefix_len_stops (λ x. not (p x)) bytes 0 lt)) (not_from_false _ fails)),
        )
    by (inr past) =
        let chosen : position p bytes ≡ None = rw past refl in
        absurd cc

pub nowhere : (p : ℕ → Bool) (bytes : List ℕ) → position p bytes ≡ None → (j : ℕ) → j < length bytes → p (get_or bytes j 0) ≡ false
nowhere p bytes is j lt = by (cases_Bool (ltb (position_or_len p bytes) (length bytes)))
  where
    by : (ltb (position_or_len p bytes) (length bytes) ≡ true) ⊎ (ltb (position_or_len p bytes) (length bytes) ≡ false) → p (get_or bytes j 0) ≡ false
    by (inl within) =
        let chosen : position p bytes ≡ Some (position_or_len p bytes) = rw within refl in
        absurd cc
    by (inr past) =
        let all : length bytes ≤ position_or_len p bytes = ltb-false _ _ past in
        false_from_ne_true _ (λ passes. both_ways _ (not_from_true _ passes) (prefix_len_passes (λ x. not (p x)) bytes j 0 (omega arith)))

-- ---- runs

by_letter : (b : ℕ) (o : Option ℕ) → letter_of b ≡ o → spell_byte b ≡ option_map_or (λ letter. backslash ∷ letter ∷ []) o (b ∷ [])
by_letter b o is = ap (λ (o : Option ℕ). option_map_or (λ letter. backslash ∷ letter ∷ []) o (b ∷ [])) is

plain_byte : (b : ℕ) (o : Option ℕ) → letter_of b ≡ o → is_some o ≡ false → spell_byte b ≡ b ∷ []
plain_byte b None is none = by_letter b None is
plain_byte b (Some c) is none = absurd cc

pub escaped_byte : (b letter : ℕ) (o : Option ℕ) → letter_of b ≡ o → is_some o ≡ true → letter ≡ unwrap_or o b → spell_byte b ≡ backslash ∷ letter ∷ []
escaped_byte b letter None is some value = absurd cc
escaped_byte b letter (Some c) is some value = by_letter b (Some c) is ∙ ap (λ (x : ℕ). backslash ∷ x ∷ []) (sym value)

pub spell_run : (k : ℕ) (text : List ℕ) → k ≤ length text → ((j : ℕ) → j < k → is_escaped (get_or text j 0) ≡ false) → spell_text text ≡ take k text ++ spell_text (drop k text)
spell_run zero text le none = refl
spell_run (suc k) [] le none = absurd (omega arith)
spell_run (suc k) (b ∷ rest) le none =
    rw (plain_byte b (letter_of b) refl (none 0 (omega arith))) (ap (λ (xs : List ℕ). b ∷ xs) (spell_run k rest (omega arith) (λ j lt. none (suc j) (omega arith))))

-- the loop: an escaped byte behind a run
pub spell_more : (out text behind : List ℕ) (at letter : ℕ) → position is_escaped text ≡ Some at → behind ≡ drop at text → letter ≡ unwrap_or (letter_of (get_or behind 0 0)) (get_or behind 0 0)
    → (out ++ take at text ++ backslash ∷ letter ∷ []) ++ spell_text (drop 1 behind) ≡ out ++ spell_text text
spell_more out text behind at letter is is_behind value =
    let found = found_at is_escaped text at is in
    let b : ℕ = get_or text at 0 in
    let first : behind ≡ b ∷ drop (at + 1) text = is_behind ∙ drop_more text at 0 found.0 in
    let value_here : letter ≡ unwrap_or (letter_of b) b = value ∙ ap (λ (xs : List ℕ). unwrap_or (letter_of (get_or xs 0 0)) (get_or xs 0 0)) first in
    let special : spell_byte b ≡ backslash ∷ letter ∷ [] = escaped_byte b letter (letter_of b) refl found.2 value_here in
    let rest : List ℕ = spell_text (drop (at + 1) text) in
    let run : spell_text text ≡ take at text ++ spell_text (drop at text) = spell_run at text (omega arith) found.1 in
    let tail : spell_text (drop at text) ≡ (backslash ∷ letter ∷ []) ++ rest = ap spell_text (sym is_behind ∙ first) ∙ ap (λ (xs : List ℕ). xs ++ rest) special in
    let whole : spell_text text ≡ take at text ++ ((backslash ∷ letter ∷ []) ++ rest) = run ∙ ap (λ (xs : List ℕ). take at text ++ xs) tail in
    let regrouped : (out ++ take at text ++ backslash ∷ letter ∷ []) ++ rest ≡ out ++ (take at text ++ ((backslash ∷ letter ∷ []) ++ rest)) = simp append_assoc in
    ap (λ (xs : List ℕ). (out ++ take at text ++ backslash ∷ letter ∷ []) ++ spell_text (drop 1 xs)) first ∙ regrouped ∙ ap (λ (xs : List ℕ). out ++ xs) (sym whole)

-- what was appended before, and more
pub extends_more : (old out new more : List ℕ) → Extends old out → new ≡ out ++ more → Extends old new
extends_more old out new more before is = (before.0 ++ more, is ∙ ap (λ (xs : List ℕ). xs ++ more) before.1 ∙ append_assoc old before.0 more)

pub spell_plain : (text : List ℕ) → position is_escaped text ≡ None → spell_text text ≡ text
spell_plain text is =
    spell_run (length text) text (omega arith) (nowhere is_escaped text is) ∙ rw (drop_all (length text) text (omega arith), take_all (length text) text (omega arith)) (append-nil text)

-- what a last call appended
pub appended_ok : {T E : Type 0} (r : Result T E) (new out more total : List ℕ) → new ≡ cond (is_ok r) (out ++ more) out → out ++ more ≡ total → OnOk r (new ≡ total)
appended_ok (Ok x) new out more total is whole = is ∙ whole
appended_ok (Err e) new out more total is whole = tt

-- ---- the fields of a row, with a tab between each two

-- what stands before field i
abbrev pub separator : ℕ → List ℕ
separator i = cond (ltb 0 i) (tab ∷ []) []

joined : List Field → List ℕ
joined fields = join_with_byte tab (map spell_field fields)

join_push : (p : List ℕ) (parts : List (List ℕ)) (part : List ℕ) → join_with_byte tab ((p ∷ parts) ++ part ∷ []) ≡ join_with_byte tab (p ∷ parts) ++ (tab ∷ part)
join_push p [] part = refl
join_push p (q ∷ parts) part =
    ap (λ (xs : List ℕ). p ++ (tab ∷ xs)) (join_push q parts part) ∙ sym (append_assoc p (tab ∷ join_with_byte tab (q ∷ parts)) (tab ∷ part))

join_more : (parts : List (List ℕ)) (part : List ℕ) → join_with_byte tab (parts ++ part ∷ []) ≡ join_with_byte tab parts ++ (separator (length parts) ++ part)
join_more [] part = refl
join_more (p ∷ parts) part =
    let one : separator (length (p ∷ parts)) ≡ tab ∷ [] = cond-true _ _ _ (lt-ltb 0 (length (p ∷ parts)) (omega arith)) in
    rw one (join_push p parts part)

-- one more field
pub spell_row_more : (row : List Field) (i : ℕ) (field : Field) → i < length row → get_or row i field ≡ field
    → spell_row (take (i + 1) row) ≡ spell_row (take i row) ++ (separator i ++ spell_field field)
unfolding spell_row
spell_row_more row i field lt is =
    let parts : List (List ℕ) = map spell_field (take i row) in
    let len : length parts ≡ i = length-map (take i row) spell_field ∙ length-take-le i row (omega arith) in
    let more : map spell_field (take (i + 1) row) ≡ parts ++ spell_field field ∷ [] = map_more spell_field row i field lt ∙ ap (λ (x : Field). parts ++ spell_field x ∷ []) is in
    ap (join_with_byte tab) more ∙ join_more parts (spell_field field) ∙ ap (λ (n : ℕ). join_with_byte tab parts ++ (separator n ++ spell_field field)) len

pub spell_row_none : spell_row [] ≡ []
unfolding spell_row
spell_row_none = refl

-- a step of the loop
pub row_step : (row : List Field) (i : ℕ) (field : Field) (old out between new : List ℕ) → i < length row → get_or row i field ≡ field → out ≡ old ++ spell_row (take i row)
    → between ≡ out ++ separator i → new ≡ between ++ spell_field field → new ≡ old ++ spell_row (take (i + 1) row)
row_step row i field old out between new lt is so_far is_between is_new =
    let start : List ℕ = spell_row (take i row) in
    let grown : new ≡ ((old ++ start) ++ separator i) ++ spell_field field = is_new ∙ ap (λ (xs : List ℕ). xs ++ spell_field field) (is_between ∙ ap (λ (xs : List ℕ). xs ++ separator i) so_far) in
    let regrouped : ((old ++ start) ++ separator i) ++ spell_field field ≡ old ++ (start ++ (separator i ++ spell_field field)) = simp append_assoc in
    grown ∙ regrouped ∙ ap (λ (xs : List ℕ). old ++ xs) (sym (spell_row_more row i field lt is))

-- all fields are written
pub row_done : (row : List Field) (old out new : List ℕ) → out ≡ old ++ spell_row (take (length row) row) → new ≡ out ++ newline ∷ [] → new ≡ old ++ (spell_row row ++ newline ∷ [])
row_done row old out new so_far is_new =
    is_new ∙ ap (λ (xs : List ℕ). xs ++ newline ∷ []) (so_far ∙ ap (λ (fields : List Field). old ++ spell_row fields) (take_all (length row) row (omega arith))) ∙ append_assoc old (spell_row row) (newline ∷ [])

-- a prefix is kept
pub kept_front : (old new : List ℕ) → Extends old new → take (length old) new ≡ old
kept_front old new extends = ap (take (length old)) extends.1 ∙ take_at old extends.0 (length old) refl

pub fields_more : (row : List Field) (i : ℕ) (field : Field) → i < length row → get_or row i field ≡ field → All IsField (take i row) → IsField field → All IsField (take (i + 1) row)
fields_more row i field lt is before here =
    let grown : take (i + 1) row ≡ take i row ++ field ∷ [] = take_more row i field lt ∙ ap (λ (x : Field). take i row ++ x ∷ []) is in
    rw grown (All-append IsField (take i row) (field ∷ []) before one)
  where
    one : All IsField (field ∷ [])
    one zero d lt = here
    one (suc k) d lt = absurd (omega arith)

pub fields_done : (row : List Field) → All IsField (take (length row) row) → All IsField row
fields_done row all = subst (λ (fields : List Field). All IsField fields) (take_all (length row) row (omega arith)) all
