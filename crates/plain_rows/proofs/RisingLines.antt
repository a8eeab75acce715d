-- Lines of a text without an escape, one after another.
use Rattle.std.proofs.Common.{◌≡◌, ℕ, zero, suc, ◌<◌, Bool, true, false, cond, List, [], ◌∷◌, length, map, Option, Some, refl, sym, ap, subst, ◌∙◌, arith}
use Rattle.std.specs.List.{AllByRecursion, AllZip, slice_get}
use Rattle.copy_text.specs.Lines.{before_end_mark, data_lines}
use Rattle.copy_text.specs.Pieces.{pieces}
use Rattle.copy_text.proofs.LineLemmas.{lines_nil}
use Rattle.line_fields.specs.Clear.{IsClearText, behind_line, first_line}
use Rattle.line_fields.proofs.Walks.{IsClearLine, clear_line}
use Rattle.cat_model.specs.declared.value.Column.{Column}
use Rattle.cat_model.specs.Values.{Bytes, Row}
use Rattle.cat_model.specs.FieldTypes.{comparable}
use Rattle.plain_rows.specs.Lines.{FitsFirst, HasFirst, LineFits, TakesPiece, key_read, line_key, line_keys}
use Rattle.plain_rows.proofs.FieldSteps.{clear_fits}
use Rattle.plain_rows.proofs.KeySteps.{field_compared}

-- ---- the piece at a place

-- what was found is the piece that is looked for
pub found_step : {P : Bytes → Type 0} (here : Bool) (piece p : Bytes) (old new : Option Bytes) → new ≡ cond here (Some piece) old → (here ≡ true → P piece) → ((q : Bytes) → old ≡ Some q → P q) → new ≡ Some p → P p
found_step {P} true piece p old new is this before same =
    let one : piece ≡ p = cc in
    subst P one (this refl)
found_step {P} false piece p old new is this before same = before p (sym is ∙ same)

-- ---- the first line

all_there : (parts : List Bytes) (place : ℕ) (piece : Bytes) → slice_get parts place ≡ Some piece → slice_get (map Some parts) place ≡ Some (Some piece)
all_there [] place piece there = absurd cc
all_there (part ∷ parts) zero piece there =
    let same : part ≡ piece = cc in
    ap (λ (p : Bytes). Some (Some p)) same
all_there (part ∷ parts) (suc place) piece there = all_there parts place piece there

module _ (columns : List Column) (column : Column) (place : ℕ) (text key behind piece : Bytes) (some : 0 < length text) (is : IsClearText text)
    (there : slice_get columns place ≡ Some column) (at : slice_get (pieces (first_line text)) place ≡ Some piece)
    (compared : key ≡ comparable column.resolved piece) (rest : behind ≡ behind_line text) where
  line : IsClearLine text
  line = clear_line text some is

  split : data_lines text ≡ first_line text ∷ data_lines behind
  split = line.split ∙ ap (λ (xs : Bytes). first_line text ∷ data_lines xs) (sym rest)

  row : Row
  row = map Some (pieces (first_line text))

  key_is : line_key columns place (first_line text) ≡ Some key
  unfolding row
  key_is = ap (key_read columns place) line.reads ∙ field_compared columns column place row piece there (all_there (pieces (first_line text)) place piece at) ∙ ap (λ (k : Bytes). Some k) (sym compared)

  pub first_has : HasFirst columns place text key behind
  first_has = record {
    keys = ap (map (line_key columns place)) split ∙ ap (λ (k : Option Bytes). k ∷ line_keys columns place behind) key_is;
    rest = subst IsClearText (sym rest) line.rest;
  }

  pub first_fits : AllZip TakesPiece columns (pieces (first_line text)) → FitsFirst columns place text key behind
  first_fits fits = record {
    keys = first_has.keys;
    fits = λ primary all. subst (AllByRecursion (LineFits columns primary)) (sym split) (clear_fits primary columns (first_line text) line.reads fits, all);
    rest = first_has.rest;
  }

-- ---- the end

no_lines : (rest : Bytes) → length rest ≡ 0 → data_lines rest ≡ []
no_lines [] none = ap before_end_mark lines_nil
no_lines (b ∷ rest) none = absurd (omega arith)

pub no_line_fails : (columns : List Column) (primary : List Bytes) (rest : Bytes) → length rest ≡ 0 → AllByRecursion (LineFits columns primary) (data_lines rest)
no_line_fails columns primary rest none = subst (AllByRecursion (LineFits columns primary)) (sym (no_lines rest none)) tt

pub no_keys : (columns : List Column) (place : ℕ) (rest : Bytes) → length rest ≡ 0 → line_keys columns place rest ≡ []
no_keys columns place rest none = ap (map (line_key columns place)) (no_lines rest none)
