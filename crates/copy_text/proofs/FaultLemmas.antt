-- Reading gives the row exactly where there is one, and else the first fault.
use Rattle.std.proofs.Common.{◌≡◌, ◌≢◌, ℕ, ◌+◌, ◌-◌, ◌<◌, ◌≤◌, Bool, true, false, not, ◌&&◌, cond, eqb, ltb, List, [], ◌∷◌, length, get_or, Some, None, Result, Ok, Err, refl, sym, ap, subst, ◌∙◌, arith, inl, inr, ◌⊎◌, ⊎_elim}
use Rattle.std.specs.Prelude.{slice_get}
use Rattle.std.specs.List.{All, AllZip, AllByRecursion}
use Rattle.std.specs.Str.{is_utf8, bytes_eq}
use Rattle.std.proofs.lemmas.Bool.{cases_lt, and_parts, and_from, lt-ltb, ltb-true, ltb-false, eqb-true, eqb-false, eq-eqb, not-true, not-false, both_ways, false_from_ne_true}
use Rattle.std.proofs.lemmas.List.{get_or_default}
use Rattle.std.proofs.lemmas.List.Sums.{prefix_len_passes, prefix_len_stops, prefix_len-le-length}
use Rattle.std.proofs.lemmas.Option.{slice_get_within, slice_get-get_or}
use Rattle.std.proofs.lemmas.Slice.Eq.{bytes_eq-Decides}
use Rattle.std.proofs.lemmas.Str.{IsUtf8-from_is_utf8, is_utf8-from_IsUtf8}
use Rattle.copy_text.specs.declared.fault.CopyFault.{CopyFault}
use Rattle.copy_text.specs.declared.fault.CopyFault.TheVariants.{RawReturn, BadUtf8, EndsInBackslash}
use Rattle.copy_text.specs.Marks.{carriage_return, null_mark}
use Rattle.copy_text.specs.Texts.{IsText}
use Rattle.copy_text.specs.Pieces.{ends_in_backslash}
use Rattle.copy_text.specs.Escapes.{decode}
use Rattle.copy_text.specs.Rows.{Field, SpellsField}
use Rattle.copy_text.specs.Reading.{◌>>=◌, ComesFirst, place, rank, field_of, fields_of}
use Rattle.copy_text.proofs.FieldLemmas.{return_at, field_null, field_text, ends_some}
use Rattle.copy_text.proofs.RowLemmas.{fields_cons, fields_nil}

-- ---- tools

-- a test that did not fail, and one that did
guard_ok : {A : Type 0} (b : Bool) (f : CopyFault) (r : Result A CopyFault) (y : A) → cond b (Err f) r ≡ Ok y → (b ≡ false) × (r ≡ Ok y)
guard_ok true f r y e = absurd cc
guard_ok false f r y e = (refl, e)

guard_err : {A : Type 0} (b : Bool) (f : CopyFault) (r : Result A CopyFault) (g : CopyFault) → cond b (Err f) r ≡ Err g → ((b ≡ true) × (f ≡ g)) ⊎ ((b ≡ false) × (r ≡ Err g))
guard_err true f r g e = inl (refl, cc)
guard_err false f r g e = inr (refl, e)

bind_ok : {A B : Type 0} (r : Result A CopyFault) (f : A → Result B CopyFault) (y : B) → (r >>= f) ≡ Ok y → (x : A) × (r ≡ Ok x) × (f x ≡ Ok y)
bind_ok (Ok x) f y e = (x, refl, e)
bind_ok (Err d) f y e = absurd cc

bind_err : {A B : Type 0} (r : Result A CopyFault) (f : A → Result B CopyFault) (g : CopyFault) → (r >>= f) ≡ Err g → (r ≡ Err g) ⊎ ((x : A) × (r ≡ Ok x) × (f x ≡ Err g))
bind_err (Ok x) f g e = inr (x, refl, e)
bind_err (Err d) f g e = inl cc

abbrev done : Field → Result Field CopyFault
done field = Ok field

some_ok : (x y : Field) → done x ≡ done y → x ≡ y
some_ok x y e = cc

abbrev null : Field
null = None

abbrev text_field : List ℕ → Field
text_field text = Some text

-- ---- the first carriage return of a piece

module _ (piece : List ℕ) where
  return_within : return_at piece ≤ length piece
  return_within = prefix_len-le-length (λ b. not (eqb b carriage_return)) piece

  return_here : return_at piece < length piece → get_or piece (return_at piece) 0 ≡ carriage_return
  return_here lt = eqb-true _ _ (not-false _ (prefix_len_stops (λ b. not (eqb b carriage_return)) piece 0 lt))

  return_before : (k : ℕ) → get_or piece k 0 ≡ carriage_return → return_at piece ≤ k
  return_before k here = elim (cases_lt k (return_at piece)) [
    | inl lt ↦ absurd (eqb-false _ _ (not-true _ (prefix_len_passes (λ b. not (eqb b carriage_return)) piece k 0 lt)) here)
    | inr le ↦ le
  ]

  abbrev NoReturn : Type 0
  NoReturn = All (λ b. b ≢ carriage_return) piece

  no_return_at : length piece ≤ return_at piece → NoReturn
  no_return_at absent k d lt is =
      let here : get_or piece k 0 ≡ carriage_return = get_or_default piece k 0 d lt ∙ is in
      let first = return_before k here in
      absurd (omega arith)

  absent_at : NoReturn → length piece ≤ return_at piece
  absent_at none = elim (cases_lt (return_at piece) (length piece)) [ inl lt ↦ absurd (none (return_at piece) 0 lt (return_here lt)) | inr le ↦ le ]

  return_got : (k : ℕ) → slice_get piece k ≡ Some carriage_return → (k < length piece) × (return_at piece ≤ k)
  return_got k is =
      let lt : k < length piece = slice_get_within piece k carriage_return is in
      let read : slice_get piece k ≡ Some (get_or piece k 0) = slice_get-get_or piece k 0 lt in
      let same : get_or piece k 0 ≡ carriage_return = cc in
      (lt, return_before k same)

-- ---- one field

-- what is wrong with a piece that starts at `start`
abbrev pub PieceFault : ℕ → List ℕ → CopyFault → Type 0
PieceFault start piece (RawReturn at) = (k : ℕ) × (at ≡ start + k) × (slice_get piece k ≡ Some carriage_return)
PieceFault start piece (BadUtf8 at) = (at ≡ start) × ¬ (IsText (decode piece))
PieceFault start piece (EndsInBackslash at) = (at + 1 ≡ start + length piece) × (ends_in_backslash piece ≡ true)

module _ (start : ℕ) (piece : List ℕ) where
  -- null or a text
  abbrev settled : Bool → Result Field CopyFault
  settled same = cond same (Ok None) (Ok (Some (decode piece)))

  abbrev tests : Result Field CopyFault
  tests =
      cond (ltb (return_at piece) (length piece) && eqb (return_at piece) 0) (Err (RawReturn start)) (
      cond (not (is_utf8 (decode piece))) (Err (BadUtf8 start)) (
      cond (ltb (return_at piece) (length piece)) (Err (RawReturn (start + return_at piece))) (
      cond (ends_in_backslash piece) (Err (EndsInBackslash (start + length piece - 1))) (
      settled (bytes_eq piece null_mark)))))

  field_tests : field_of start piece ≡ tests
  unfolding field_of
  field_tests = refl

  -- a field that was read is spelled by the piece, which has no carriage return
  pub field_read : (field : Field) → field_of start piece ≡ Ok field → SpellsField field piece × NoReturn piece
  field_read field is =
      let a = guard_ok _ _ _ field (sym field_tests ∙ is) in
      let b = guard_ok _ _ _ field a.1 in
      let c = guard_ok _ _ _ field b.1 in
      let d = guard_ok _ _ _ field c.1 in
      (by (bytes_eq piece null_mark) refl (not-false _ b.0) d.0 d.1, no_return_at piece (ltb-false _ _ c.0))
    where
      by : (same : Bool) → bytes_eq piece null_mark ≡ same → is_utf8 (decode piece) ≡ true → ends_in_backslash piece ≡ false → settled same ≡ Ok field → SpellsField field piece
      by true same utf8 ends value =
          let is_null : SpellsField None piece = (bytes_eq-Decides piece null_mark).0 same in
          let field_is : null ≡ field = some_ok null field value in
          subst (λ (f : Field). SpellsField f piece) field_is is_null
      by false same utf8 ends value =
          let differs : piece ≢ null_mark = λ is. both_ways _ same ((bytes_eq-Decides piece null_mark).1 is) in
          let is_text : SpellsField (Some (decode piece)) piece = (differs, ends, refl, IsUtf8-from_is_utf8 (decode piece) utf8) in
          let field_is : text_field (decode piece) ≡ field = some_ok (text_field (decode piece)) field value in
          subst (λ (f : Field). SpellsField f piece) field_is is_text

  pub field_spelled : (field : Field) → SpellsField field piece → NoReturn piece → field_of start piece ≡ Ok field
  field_spelled None is none = ap (field_of start) is ∙ field_null start
  field_spelled (Some text) is none =
      let utf8 : is_utf8 (decode piece) ≡ true = is_utf8-from_IsUtf8 (decode piece) (subst IsText (sym is.2) is.3) in
      let other : bytes_eq piece null_mark ≡ false = false_from_ne_true _ (λ same. is.0 ((bytes_eq-Decides piece null_mark).0 same)) in
      field_text start piece (absent_at piece none) utf8 is.1 other ∙ ap (λ (xs : List ℕ). Ok (Some xs)) is.2

  -- where a fault of the piece lies
  fault_place : (g : CopyFault) → PieceFault start piece g → (start ≤ place g) × (place g ≤ start + length piece)
  fault_place (RawReturn at) is = let within = return_got piece is.0 is.2 in (omega arith, omega arith)
  fault_place (BadUtf8 at) is = (omega arith, omega arith)
  fault_place (EndsInBackslash at) is = let some = ends_some piece is.1 in (omega arith, omega arith)

  -- a piece with a field has no fault
  no_fault : (field : Field) → field_of start piece ≡ Ok field → (g : CopyFault) → PieceFault start piece g → ⊥
  no_fault field is g fault =
      let a = guard_ok _ _ _ field (sym field_tests ∙ is) in
      let b = guard_ok _ _ _ field a.1 in
      let c = guard_ok _ _ _ field b.1 in
      let d = guard_ok _ _ _ field c.1 in
      by g fault (not-false _ b.0) (ltb-false _ _ c.0) d.0
    where
      by : (g : CopyFault) → PieceFault start piece g → is_utf8 (decode piece) ≡ true → length piece ≤ return_at piece → ends_in_backslash piece ≡ false → ⊥
      by (RawReturn at) fault utf8 absent closed = let got = return_got piece fault.0 fault.2 in absurd (omega arith)
      by (BadUtf8 at) fault utf8 absent closed = fault.1 (IsUtf8-from_is_utf8 (decode piece) utf8)
      by (EndsInBackslash at) fault utf8 absent closed = both_ways _ closed fault.1

  abbrev IsFirst : CopyFault → Type 0
  IsFirst f = PieceFault start piece f × ((g : CopyFault) → PieceFault start piece g → ComesFirst f g)

  not_later : (f g : CopyFault) → place f ≤ place g → rank f ≤ rank g → ComesFirst f g
  not_later f g le small = elim (cases_lt (place f) (place g)) [ inl lt ↦ inl lt | inr ge ↦ inr (omega arith, small) ]

  return_is_first : (ltb (return_at piece) (length piece) && eqb (return_at piece) 0) ≡ true → IsFirst (RawReturn start)
  return_is_first passes =
      let both = and_parts _ _ passes in
      let lt = ltb-true _ _ both.0 in
      let zero_at : return_at piece ≡ 0 = eqb-true _ _ both.1 in
      let here : slice_get piece 0 ≡ Some carriage_return = slice_get-get_or piece 0 0 (omega arith) ∙ ap (λ (k : ℕ). Some (get_or piece k 0)) (sym zero_at) ∙ ap (λ (b : ℕ). Some b) (return_here piece lt) in
      ((0, omega arith, here), λ g fault. let within = fault_place g fault in not_later (RawReturn start) g within.0 (omega arith))

  bad_is_first : (ltb (return_at piece) (length piece) && eqb (return_at piece) 0) ≡ false → not (is_utf8 (decode piece)) ≡ true → IsFirst (BadUtf8 start)
  bad_is_first later bad =
      let no_text : ¬ (IsText (decode piece)) = λ text. both_ways _ (not-true _ bad) (is_utf8-from_IsUtf8 (decode piece) text) in
      ((refl, no_text), before)
    where
      before : (g : CopyFault) → PieceFault start piece g → ComesFirst (BadUtf8 start) g
      before (RawReturn at) fault =
          let got = return_got piece fault.0 fault.2 in
          let some : fault.0 ≢ 0 = λ first.
          let zero_at : return_at piece ≡ 0 = omega arith in
          let has : return_at piece < length piece = omega arith in
          both_ways _ later (and_from _ _ (lt-ltb _ _ has) (eq-eqb _ _ zero_at))
          in
          inl (omega arith)
      before (BadUtf8 at) fault = inr (omega arith, omega arith)
      before (EndsInBackslash at) fault = let within = fault_place (EndsInBackslash at) fault in not_later (BadUtf8 start) (EndsInBackslash at) within.0 (omega arith)

  later_is_first : not (is_utf8 (decode piece)) ≡ false → ltb (return_at piece) (length piece) ≡ true → IsFirst (RawReturn (start + return_at piece))
  later_is_first good has =
      let lt = ltb-true _ _ has in
      let here : slice_get piece (return_at piece) ≡ Some carriage_return = slice_get-get_or piece (return_at piece) 0 lt ∙ ap (λ (b : ℕ). Some b) (return_here piece lt) in
      ((return_at piece, refl, here), before)
    where
      before : (g : CopyFault) → PieceFault start piece g → ComesFirst (RawReturn (start + return_at piece)) g
      before (RawReturn at) fault = let got = return_got piece fault.0 fault.2 in not_later (RawReturn (start + return_at piece)) (RawReturn at) (omega arith) (omega arith)
      before (BadUtf8 at) fault = absurd (fault.1 (IsUtf8-from_is_utf8 (decode piece) (not-false _ good)))
      before (EndsInBackslash at) fault = let lt = ltb-true _ _ has in not_later (RawReturn (start + return_at piece)) (EndsInBackslash at) (omega arith) (omega arith)

  ends_is_first : not (is_utf8 (decode piece)) ≡ false → ltb (return_at piece) (length piece) ≡ false → ends_in_backslash piece ≡ true → IsFirst (EndsInBackslash (start + length piece - 1))
  ends_is_first good none ends =
      let some = ends_some piece ends in
      ((omega arith, ends), before)
    where
      before : (g : CopyFault) → PieceFault start piece g → ComesFirst (EndsInBackslash (start + length piece - 1)) g
      before (RawReturn at) fault = let got = return_got piece fault.0 fault.2 in let absent = ltb-false _ _ none in absurd (omega arith)
      before (BadUtf8 at) fault = absurd (fault.1 (IsUtf8-from_is_utf8 (decode piece) (not-false _ good)))
      before (EndsInBackslash at) fault = let some = ends_some piece ends in inr (omega arith, omega arith)

  -- the fault that reading gives is the piece's first
  field_fault : (f : CopyFault) → field_of start piece ≡ Err f → IsFirst f
  field_fault f is = first (guard_err _ _ _ f (sym field_tests ∙ is))
    where
      last : (same : Bool) → settled same ≡ Err f → ⊥
      last true e = cc
      last false e = cc

      fourth : (good : not (is_utf8 (decode piece)) ≡ false) (none : ltb (return_at piece) (length piece) ≡ false)
          → ((ends_in_backslash piece ≡ true) × (EndsInBackslash (start + length piece - 1) ≡ f)) ⊎ ((ends_in_backslash piece ≡ false) × (settled (bytes_eq piece null_mark) ≡ Err f)) → IsFirst f
      fourth good none (inl ends) = subst IsFirst ends.1 (ends_is_first good none ends.0)
      fourth good none (inr closed) = absurd (last (bytes_eq piece null_mark) closed.1)

      third : (good : not (is_utf8 (decode piece)) ≡ false)
          → ((ltb (return_at piece) (length piece) ≡ true) × (RawReturn (start + return_at piece) ≡ f)) ⊎ ((ltb (return_at piece) (length piece) ≡ false) × (cond (ends_in_backslash piece) (Err (EndsInBackslash (start + length piece - 1))) (settled (bytes_eq piece null_mark)) ≡ Err f)) → IsFirst f
      third good (inl has) = subst IsFirst has.1 (later_is_first good has.0)
      third good (inr none) = fourth good none.0 (guard_err _ _ _ f none.1)

      second : (later : (ltb (return_at piece) (length piece) && eqb (return_at piece) 0) ≡ false)
          → ((not (is_utf8 (decode piece)) ≡ true) × (BadUtf8 start ≡ f)) ⊎ ((not (is_utf8 (decode piece)) ≡ false) × (cond (ltb (return_at piece) (length piece)) (Err (RawReturn (start + return_at piece))) (cond (ends_in_backslash piece) (Err (EndsInBackslash (start + length piece - 1))) (settled (bytes_eq piece null_mark))) ≡ Err f)) → IsFirst f
      second later (inl bad) = subst IsFirst bad.1 (bad_is_first later bad.0)
      second later (inr good) = third good.0 (guard_err _ _ _ f good.1)

      first : (((ltb (return_at piece) (length piece) && eqb (return_at piece) 0) ≡ true) × (RawReturn start ≡ f)) ⊎ (((ltb (return_at piece) (length piece) && eqb (return_at piece) 0) ≡ false) × (cond (not (is_utf8 (decode piece))) (Err (BadUtf8 start)) (cond (ltb (return_at piece) (length piece)) (Err (RawReturn (start + return_at piece))) (cond (ends_in_backslash piece) (Err (EndsInBackslash (start + length piece - 1))) (settled (bytes_eq piece null_mark)))) ≡ Err f)) → IsFirst f
      first (inl at_start) = subst IsFirst at_start.1 (return_is_first at_start.0)
      first (inr later) = second later.0 (guard_err _ _ _ f later.1)

-- ---- the fields of a line, piece by piece

abbrev pub ListFault : ℕ → List (List ℕ) → CopyFault → Type 0
ListFault start [] f = ⊥
ListFault start (piece ∷ more) f = PieceFault start piece f ⊎ ListFault (start + length piece + 1) more f

abbrev pub done_row : List Field → Result (List Field) CopyFault
done_row row = Ok row

pub rows_ok : (x y : List Field) → done_row x ≡ done_row y → x ≡ y
rows_ok x y e = cc

not_ended : (x : Field) (others : List Field) (f : CopyFault) → done_row (x ∷ others) ≡ Err f → ⊥
not_ended x others f e = cc

abbrev pub FirstOf : ℕ → List (List ℕ) → CopyFault → Type 0
FirstOf start parts f = ListFault start parts f × ((g : CopyFault) → ListFault start parts g → ComesFirst f g)

list_place : (start : ℕ) (parts : List (List ℕ)) (g : CopyFault) → ListFault start parts g → start ≤ place g
list_place start [] g fault = absurd fault
list_place start (piece ∷ more) g (inl fault) = (fault_place start piece g fault).0
list_place start (piece ∷ more) g (inr fault) = let later = list_place (start + length piece + 1) more g fault in omega arith

pub fields_read : (start : ℕ) (parts : List (List ℕ)) (row : List Field) → fields_of start parts ≡ Ok row → AllZip SpellsField row parts × AllByRecursion (All (λ b. b ≢ carriage_return)) parts × ((g : CopyFault) → ListFault start parts g → ⊥)
fields_read start [] row is =
    let nothing : row ≡ [] = rows_ok row [] (sym is ∙ fields_nil start) in
    (subst (λ (r : List Field). AllZip SpellsField r []) (sym nothing) tt, tt, λ g fault. fault)
fields_read start (piece ∷ more) row is =
    let first = bind_ok (field_of start piece) (λ field. fields_of (start + length piece + 1) more >>= λ others. Ok (field ∷ others)) row (sym (fields_cons start piece more) ∙ is) in
    let second = bind_ok (fields_of (start + length piece + 1) more) (λ others. Ok (first.0 ∷ others)) row first.2 in
    let here = field_read start piece first.0 first.1 in
    let later = fields_read (start + length piece + 1) more second.0 second.1 in
    let row_is : first.0 ∷ second.0 ≡ row = rows_ok (first.0 ∷ second.0) row second.2 in (
      subst (λ (r : List Field). AllZip SpellsField r (piece ∷ more)) row_is (here.0, later.0),
      (here.1, later.1),
      λ g fault. ⊎_elim (λ now. no_fault start piece first.0 first.1 g now) (λ after. later.2 g after) fault,
    )

pub fields_spelled : (start : ℕ) (parts : List (List ℕ)) (row : List Field) → AllZip SpellsField row parts → AllByRecursion (All (λ b. b ≢ carriage_return)) parts → fields_of start parts ≡ Ok row
fields_spelled start [] [] spelled none = fields_nil start
fields_spelled start [] (field ∷ row) spelled none = absurd spelled
fields_spelled start (piece ∷ more) [] spelled none = absurd spelled
fields_spelled start (piece ∷ more) (field ∷ row) spelled none =
    let here = field_spelled start piece field spelled.0 none.0 in
    let later = fields_spelled (start + length piece + 1) more row spelled.1 none.1 in
    fields_cons start piece more ∙ rw (here, later) refl

pub fields_fault : (start : ℕ) (parts : List (List ℕ)) (f : CopyFault) → fields_of start parts ≡ Err f → FirstOf start parts f
fields_fault start [] f is = let no_row : done_row [] ≡ Err f = sym (fields_nil start) ∙ is in absurd cc
fields_fault start (piece ∷ more) f is =
    by (bind_err (field_of start piece) (λ field. fields_of (start + length piece + 1) more >>= λ others. Ok (field ∷ others)) f (sym (fields_cons start piece more) ∙ is)) (fields_fault (start + length piece + 1) more f)
  where
    by : (field_of start piece ≡ Err f) ⊎ ((x : Field) × (field_of start piece ≡ Ok x) × ((fields_of (start + length piece + 1) more >>= λ others. Ok (x ∷ others)) ≡ Err f))
        → (fields_of (start + length piece + 1) more ≡ Err f → FirstOf (start + length piece + 1) more f) → FirstOf start (piece ∷ more) f
    by (inl now) later =
        let here = field_fault start piece f now in
        let within = fault_place start piece f here.0 in
        (inl here.0, λ g fault. ⊎_elim (λ same. here.1 g same) (λ after. inl (let from = list_place (start + length piece + 1) more g after in omega arith)) fault)
    by (inr past) later =
        let rest = ⊎_elim (λ fault. fault) (λ ended. absurd (not_ended past.0 ended.0 f ended.2)) (bind_err (fields_of (start + length piece + 1) more) (λ others. Ok (past.0 ∷ others)) f past.2) in
        let there = later rest in
        (inr there.0, λ g fault. ⊎_elim (λ now. absurd (no_fault start piece past.0 past.1 g now)) (λ after. there.1 g after) fault)
