-- Rows that are spelled one after another are read back.
use Rattle.std.proofs.Common.{◌≡◌, ◌≢◌, ◌<◌, ℕ, List, [], ◌∷◌, ◌++◌, length, map, Result, Ok, Err, refl, sym, ap, subst, ◌∙◌, arith}
use Rattle.std.specs.List.{All, AllZip, filter_map}
use Rattle.std.specs.Prelude.{IfOk, OnOk, OnErr}
use Rattle.std.specs.Result.{result_ok}
use Rattle.std.proofs.lemmas.Grind.{flat_map-append}
use Rattle.std.proofs.lemmas.List.{append-nil}
use Rattle.std.proofs.lemmas.List.Elements.{All-append, All-cons}
use Rattle.copy_text.specs.Marks.{newline}
use Rattle.copy_text.specs.Rows.{Field, IsRow, SpellsRow, spell_row, spell_rows}
use Rattle.copy_text.specs.Reading.{row_of}
use Rattle.copy_text.specs.Lines.{lines, data_lines, SpellsRows}
use Rattle.copy_text.specs.declared.fault.CopyFault.{CopyFault}
use Rattle.copy_text.proofs.LawLemmas.{row_found, row_only, can_be_written, rows_before}
use Rattle.cat_model.specs.RowTexts.{rows_held, IsSpelled}

abbrev Bytes : Type 0
Bytes = List ℕ

abbrev Row : Type 0
Row = List Field

each_read : (rows : List Row) (ls : List Bytes) → AllZip SpellsRow rows ls → filter_map result_ok (map row_of ls) ≡ rows
each_read [] [] spelled = refl
each_read [] (line ∷ ls) spelled = absurd spelled
each_read (row ∷ rows) [] spelled = absurd spelled
each_read (row ∷ rows) (line ∷ ls) spelled = rw (row_only row line spelled.0) (ap (λ (more : List Row). row ∷ more) (each_read rows ls spelled.1))

none_spelled : SpellsRows [] []
unfolding lines
none_spelled = tt

read_back : (rows : List Row) → All IsRow rows → rows_held (spell_rows rows) ≡ rows
read_back rows all =
    let with_none = rows_before rows [] [] all none_spelled in
    let spelled : SpellsRows rows (spell_rows rows) =
    subst (λ (rs : List Row). SpellsRows rs (spell_rows rows)) (append-nil rows) (subst (SpellsRows (rows ++ [])) (append-nil (spell_rows rows)) with_none) in
    each_read rows (data_lines (spell_rows rows)) spelled

-- rows behind others
pub record Joined (text other : Bytes) : Type 0 where
  pub held : rows_held (text ++ other) ≡ rows_held text ++ rows_held other
  pub spelled : IsSpelled (text ++ other)

pub joined : (text other : Bytes) → IsSpelled text → IsSpelled other → Joined text other
joined text other one two =
    let rows = rows_held text ++ rows_held other in
    let all : All IsRow rows = All-append IsRow (rows_held text) (rows_held other) one.rows two.rows in
    let whole : spell_rows rows ≡ text ++ other =
    flat_map-append (λ row. spell_row row ++ newline ∷ []) (rows_held text) (rows_held other)
    ∙ ap (λ (front : Bytes). front ++ spell_rows (rows_held other)) one.spelled
    ∙ ap (λ (behind : Bytes). text ++ behind) two.spelled in
    let held : rows_held (text ++ other) ≡ rows = ap rows_held (sym whole) ∙ read_back rows all in
    record {
      held = held;
      spelled = record {
        rows = subst (All IsRow) (sym held) all;
        spelled = ap spell_rows held ∙ whole;
      };
    }

-- ---- one row

line_of : Row → Bytes
line_of row = spell_row row ++ newline ∷ []

one_row : (row : Row) → IsRow row → (IsSpelled (line_of row)) × (rows_held (line_of row) ≡ row ∷ [])
unfolding line_of
one_row row is =
    let all : All IsRow (row ∷ []) = All-cons IsRow row [] is (λ k d lt. absurd (omega arith)) in
    let whole : spell_rows (row ∷ []) ≡ spell_row row ++ newline ∷ [] = append-nil (spell_row row ++ newline ∷ []) in
    let held : rows_held (spell_row row ++ newline ∷ []) ≡ row ∷ [] = ap rows_held (sym whole) ∙ read_back (row ∷ []) all in
    (record { rows = subst (All IsRow) (sym held) all; spelled = ap spell_rows held ∙ whole }, held)

-- ---- no rows, the same rows

pub none_held : IsSpelled []
unfolding lines
none_held = record { rows = λ k d lt. absurd (omega arith); spelled = refl }

pub none_are : rows_held [] ≡ []
unfolding lines
none_are = refl

pub same_texts : (text other : Bytes) → IsSpelled text → IsSpelled other → (rows_held text ≡ rows_held other) → text ≡ other
same_texts text other one two same = sym one.spelled ∙ ap spell_rows same ∙ two.spelled

-- what a line reads as has a field
pub full : (line : Bytes) → All (λ b. b ≢ newline) line → IfOk (row_of line) (λ row. 0 < length row)
full line none = by (row_of line) refl
  where
    by : (read : Result Row CopyFault) → row_of line ≡ read → IfOk read (λ row. 0 < length row)
    by (Ok row) is = (can_be_written row line (row_found row line none is)).some
    by (Err fault) is = tt

-- ---- what a call leaves

-- a call that appends a text, or leaves all as it was
module _ {A E : Type 0} (text other new : Bytes) (is : IsSpelled text) where
  pub left_joined : (r : Result A E) → OnOk r (Joined text other) → OnOk r (new ≡ text ++ other) → OnErr r (new ≡ text) → IsSpelled new
  left_joined (Ok x) both same kept = subst IsSpelled (sym same) both.spelled
  left_joined (Err e) both same kept = subst IsSpelled (sym kept) is

  pub left_rows : (r : Result A E) → OnOk r (Joined text other) → OnOk r (new ≡ text ++ other) → OnOk r (rows_held new ≡ rows_held text ++ rows_held other)
  left_rows (Ok x) both same = ap rows_held same ∙ both.held
  left_rows (Err e) both same = tt

pub every : {A E : Type 0} {P : Type 0} (r : Result A E) → P → OnOk r P
every (Ok x) p = p
every (Err e) p = tt

-- the line of a row
pub one_more : {A E : Type 0} (text : Bytes) (row : Row) (r : Result A E) → IsSpelled text → 0 < length row → OnOk r (0 < length row → SpellsRow row (spell_row row)) → OnOk r (Joined text (spell_row row ++ newline ∷ []))
unfolding line_of
one_more text row (Ok x) is some spells = joined text (line_of row) is (one_row row (can_be_written row (spell_row row) (spells some))).0
one_more text row (Err e) is some spells = tt

pub held_more : {A E : Type 0} (text : Bytes) (row : Row) (r : Result A E) → 0 < length row → OnOk r (0 < length row → SpellsRow row (spell_row row)) → (new : Bytes) → OnOk r (rows_held new ≡ rows_held text ++ rows_held (spell_row row ++ newline ∷ [])) → OnOk r (rows_held new ≡ rows_held text ++ row ∷ [])
unfolding line_of
held_more text row (Ok x) some spells new held = held ∙ ap (λ (more : List Row). rows_held text ++ more) (one_row row (can_be_written row (spell_row row) (spells some))).1
held_more text row (Err e) some spells new held = tt
