-- Texts whose lines are all rows hold these rows.
use Rattle.std.proofs.Common.{◌≡◌, true, List, [], ◌∷◌, map, Ok, refl, ap, ◌∙◌}
use Rattle.std.specs.List.{filter_map, list_all}
use Rattle.std.specs.Result.{is_ok, result_ok}
use Rattle.cat_model.specs.Values.{Bytes, Row}
use Rattle.copy_text.specs.declared.fault.CopyFault.{CopyFault}
use Rattle.data_rows.specs.Rows.{read_lines}
use Rattle.cat_model.specs.RowTexts.{rows_held}

all_rows : (rows : List Row) → list_all (is_ok {T = Row} {E = CopyFault}) (map Ok rows) ≡ true
all_rows [] = refl
all_rows (row ∷ rows) = all_rows rows

rows_back : (rows : List Row) → filter_map (result_ok {T = Row} {E = CopyFault}) (map Ok rows) ≡ rows
rows_back [] = refl
rows_back (row ∷ rows) = ap (λ more. row ∷ more) (rows_back rows)

-- a text whose lines read as these rows holds them
pub held : (text : Bytes) (rows : List Row) → read_lines text ≡ map Ok rows → (list_all is_ok (read_lines text) ≡ true) × (rows_held text ≡ rows)
held text rows e = (ap (list_all is_ok) e ∙ all_rows rows, ap (filter_map result_ok) e ∙ rows_back rows)
