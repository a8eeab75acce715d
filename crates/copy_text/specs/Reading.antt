-- Reading a line from the left: its row, or the first fault.
-- And what a fault is, apart from reading: which faults a line has, and in which order they stand.
use Rattle.std.specs.Prelude.{◌≡◌, ℕ, ◌+◌, ◌-◌, ◌<◌, ◌≤◌, ◌⊎◌, true, not, List, [], ◌∷◌, length, take, None, Some, Result, Ok, Err, slice_get, ◌==◌, ◌&&◌, nat_lt, if◌then◌else◌}
use Rattle.std.specs.List.{position_or_len, sum_by}
use Rattle.std.specs.Str.{is_utf8, bytes_eq}
use Rattle.copy_text.specs.declared.fault.CopyFault.{CopyFault}
use Rattle.copy_text.specs.declared.fault.CopyFault.TheVariants.{RawReturn, BadUtf8, EndsInBackslash}
use Rattle.copy_text.specs.declared.fault.ReadRowError.{ReadRowError}
use Rattle.copy_text.specs.declared.fault.ReadRowError.TheVariants as errors
use Rattle.copy_text.specs.Marks.{carriage_return, null_mark}
use Rattle.copy_text.specs.Texts.{IsText}
use Rattle.copy_text.specs.Pieces.{pieces, ends_in_backslash}
use Rattle.copy_text.specs.Escapes.{decode}
use Rattle.copy_text.specs.Rows.{Field}

-- ---- the faults of a line

-- the place at which piece i starts: before it stand the earlier pieces, each with its tab
abbrev pub start_of : ℕ → List (List ℕ) → ℕ
start_of i parts = sum_by (λ part. length part + 1) (take i parts)

-- a raw carriage return, by its place; a piece that stands for bytes which aren't UTF-8, by its start; a backslash
-- at the end of the line that escapes nothing, by its place
abbrev pub IsFault : List ℕ → CopyFault → Type 0
IsFault line (RawReturn at) = slice_get line at ≡ Some carriage_return
IsFault line (BadUtf8 at) = (i : ℕ) × (piece : List ℕ) × (slice_get (pieces line) i ≡ Some piece) × (at ≡ start_of i (pieces line)) × ¬ (IsText (decode piece))
IsFault line (EndsInBackslash at) = (ends_in_backslash line ≡ true) × (at + 1 ≡ length line)

abbrev pub place : CopyFault → ℕ
place (RawReturn at) = at
place (BadUtf8 at) = at
place (EndsInBackslash at) = at

-- which of the faults at one place counts
abbrev pub rank : CopyFault → ℕ
rank (RawReturn at) = 0
rank (BadUtf8 at) = 1
rank (EndsInBackslash at) = 2

-- f stands at an earlier place than g, or at the same with no greater rank
abbrev pub ComesFirst : CopyFault → CopyFault → Type 0
ComesFirst f g = (place f < place g) ⊎ ((place f ≡ place g) × (rank f ≤ rank g))

pub record IsFirstFault (line : List ℕ) (f : CopyFault) : Type 0 where
  pub fault : IsFault line f
  pub first : (g : CopyFault) → IsFault line g → ComesFirst f g

-- ---- reading

-- the field that a piece spells, or its first fault; the piece starts at `start`
unfoldable pub field_of : ℕ → List ℕ → Result Field CopyFault
field_of start piece =
    let return_at = position_or_len (λ b. b == carriage_return) piece in
    let has_return = nat_lt return_at (length piece) in
    if has_return && return_at == 0 then Err (RawReturn start)
    else if not (is_utf8 (decode piece)) then Err (BadUtf8 start)
    else if has_return then Err (RawReturn (start + return_at))
    else if ends_in_backslash piece then Err (EndsInBackslash (start + length piece - 1))
    else if bytes_eq piece null_mark then Ok None
    else Ok (Some (decode piece))

infixl 10 ◌>>=◌
abbrev pub ◌>>=◌ : {A B : Type 0} → Result A CopyFault → (A → Result B CopyFault) → Result B CopyFault
(Ok x) >>= f = f x
(Err e) >>= f = Err e

-- the fields that pieces spell, the first of which starts at `start`
unfoldable pub fields_of : ℕ → List (List ℕ) → Result (List Field) CopyFault
fields_of start [] = Ok []
fields_of start (piece ∷ more) = do
  field ← field_of start piece
  others ← fields_of (start + length piece + 1) more
  Ok (field ∷ others)

-- the row that a line spells, or its first fault
unfoldable pub row_of : List ℕ → Result (List Field) CopyFault
row_of line = fields_of 0 (pieces line)

-- What a call returned, seen by view, is what reading gives, unless memory ran out.
abbrev pub Fails : {Y : Type 0} → ReadRowError → Result Y CopyFault → Type 0
Fails errors.Memory read = Unit {0}
Fails (errors.Fault f) read = read ≡ Err f

abbrev pub Gives : {X Y : Type 0} → (X → Y) → Result X ReadRowError → Result Y CopyFault → Type 0
Gives view (Ok x) read = read ≡ Ok (view x)
Gives view (Err e) read = Fails e read
