-- One field more that its column takes.
use Rattle.std.proofs.Common.{◌≡◌, ℕ, suc, ◌+◌, ◌<◌, Bool, true, false, cond, List, [], ◌∷◌, length, map, drop, get_or, Option, Some, None, Ok, refl, sym, ap, subst, ◌∙◌, add-one, drop-cons, arith}
use Rattle.std.specs.List.{AllZip}
use Rattle.std.proofs.lemmas.List.{drop_all, length-map, get_or-map, get_or_default}
use Rattle.copy_text.specs.Pieces.{pieces}
use Rattle.copy_text.specs.Reading.{row_of}
use Rattle.cat_model.specs.declared.cause.Cause.{Cause}
use Rattle.cat_model.specs.declared.cause.Cause.TheVariants.{BadValue, NullValue}
use Rattle.cat_model.specs.declared.value.Column.{Column}
use Rattle.cat_model.specs.Values.{Bytes}
use Rattle.cat_model.specs.FieldTypes.{takes}
use Rattle.cat_model.specs.CopiedRows.{no_null, field_cause, fields_cause}
use Rattle.rows_fit.proofs.InOrder.{one_field, marked_at}
use Rattle.plain_rows.specs.Lines.{FieldFits, LineFits, TakesPiece}

module _ (primary : List Bytes) (row : ℕ) where
  passes : (required : Bool) (c : Column) (f : Option Bytes) (n : ℕ) (later : Option Cause) → required ≡ no_null primary c → FieldFits required c f → field_cause primary row n c f later ≡ later
  passes required c (Some text) n later is fits = ap (λ (b : Bool). cond b later (Some (BadValue n row))) fits
  passes required c None n later is fits = ap (λ (b : Bool). cond b (Some (NullValue n row)) later) (sym is ∙ fits)

  pub next_field : {A : Type 0} (seen : A → Option Bytes) (columns : List Column) (marks : List Bool) (fields : List A) (i n : ℕ) (c : Column) (d : A) (m : Bool) → i < length columns → length fields ≡ length columns → marks ≡ map (no_null primary) columns → c ≡ get_or columns i c → FieldFits (get_or marks i m) c (seen (get_or fields i d))
      → fields_cause primary row n (drop i columns) (drop i (map seen fields)) ≡ fields_cause primary row (n + 1) (drop (i + 1) columns) (drop (i + 1) (map seen fields))
  next_field seen columns marks fields i n c d m below many marked is fits =
      let f : Option Bytes = seen (get_or fields i d) in
      let inside : i < length fields = omega arith in
      let within : i < length (map seen fields) = omega (arith, length-map fields seen) in
      let there : f ≡ get_or (map seen fields) i f = sym (get_or-map seen fields i d f inside) in
      let as_many : length marks ≡ length columns = ap (length {A = Bool}) marked ∙ length-map columns (no_null primary) in
      let mark : get_or marks i m ≡ no_null primary c = get_or_default marks i m false (omega arith) ∙ marked_at primary row columns marks i c marked below is in
      one_field primary row n columns (map seen fields) i c f below within is there
      ∙ passes (get_or marks i m) c f n (fields_cause primary row (n + 1) (drop (i + 1) columns) (drop (i + 1) (map seen fields))) mark fits

-- ---- pieces that stand for themselves

as_many : (columns : List Column) (parts : List Bytes) → AllZip TakesPiece columns parts → length (map Some parts) ≡ length columns
as_many [] [] all = refl
as_many [] (p ∷ ps) all = absurd all
as_many (c ∷ cs) [] all = absurd all
as_many (c ∷ cs) (p ∷ ps) all = ap suc (as_many cs ps all.1)

all_taken : (primary : List Bytes) (row n : ℕ) (columns : List Column) (parts : List Bytes) → AllZip TakesPiece columns parts → fields_cause primary row n columns (map Some parts) ≡ None
all_taken primary row n [] parts all = refl
all_taken primary row n (c ∷ cs) [] all = refl
all_taken primary row n (c ∷ cs) (p ∷ ps) all =
    ap (λ (b : Bool). cond b (fields_cause primary row (n + 1) cs (map Some ps)) (Some (BadValue n row))) all.0
    ∙ all_taken primary row (n + 1) cs ps all.1

pub clear_fits : (primary : List Bytes) (columns : List Column) (line : Bytes) → row_of line ≡ Ok (map Some (pieces line)) → AllZip TakesPiece columns (pieces line) → LineFits columns primary line
clear_fits primary columns line reads all = record {
  row = map Some (pieces line);
  reads = reads;
  many = as_many columns (pieces line) all;
  taken = λ number. all_taken primary number 1 columns (pieces line) all;
}

-- one column more, and one piece
pub next_piece : (columns : List Column) (i : ℕ) (column : Column) (rest piece : Bytes) (behind : List Bytes) → i < length columns → column ≡ get_or columns i column → pieces rest ≡ piece ∷ behind
    → takes column.resolved piece ≡ true → AllZip TakesPiece (drop (i + 1) columns) behind → AllZip TakesPiece (drop i columns) (pieces rest)
next_piece columns i column rest piece behind below is parts taken all =
    let split : drop i columns ≡ column ∷ drop (i + 1) columns = rw add-one (drop-cons columns i column below) ∙ ap (λ (c : Column). c ∷ drop (i + 1) columns) (sym is) in
    subst (λ (cs : List Column). AllZip TakesPiece cs (pieces rest)) (sym split) (subst (AllZip TakesPiece (column ∷ drop (i + 1) columns)) (sym parts) (taken, all))

pub last_piece : (columns : List Column) (i : ℕ) (column : Column) (rest piece : Bytes) → i + 1 ≡ length columns → column ≡ get_or columns i column → pieces rest ≡ piece ∷ [] → takes column.resolved piece ≡ true → AllZip TakesPiece (drop i columns) (pieces rest)
last_piece columns i column rest piece whole is parts taken =
    next_piece columns i column rest piece [] (omega arith) is parts taken (subst (λ (cs : List Column). AllZip TakesPiece cs []) (sym (drop_all (i + 1) columns (omega arith))) tt)
