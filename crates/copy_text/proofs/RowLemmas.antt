-- Reading the fields of a row one after another, as the loop does.
use Rattle.std.proofs.Common.{◌≡◌, ℕ, ◌+◌, ◌<◌, ◌≤◌, List, [], ◌∷◌, ◌++◌, length, take, drop, Result, Ok, Err, refl, sym, ap, ◌∙◌, append_assoc, arith, inl, inr, ◌⊎◌}
use Rattle.std.proofs.lemmas.List.{length-take, take_all}
use Rattle.std.proofs.lemmas.Bool.{cases_lt}
use Rattle.copy_text.specs.declared.fault.CopyFault.{CopyFault}
use Rattle.copy_text.specs.declared.fault.ReadRowError.{ReadRowError}
use Rattle.copy_text.specs.declared.fault.ReadRowError.TheVariants as errors
use Rattle.copy_text.specs.Pieces.{pieces, IsFirstPiece}
use Rattle.copy_text.specs.Rows.{Field}
use Rattle.copy_text.specs.Reading.{◌>>=◌, Fails, field_of, fields_of, row_of}

-- the fields that were read before, and those that are still read
abbrev pub with_front : List Field → Result (List Field) CopyFault → Result (List Field) CopyFault
with_front front read = read >>= λ more. Ok (front ++ more)

with_front-nil : (read : Result (List Field) CopyFault) → with_front [] read ≡ read
with_front-nil (Ok x) = refl
with_front-nil (Err f) = refl

with_front-push : (front : List Field) (field : Field) (read : Result (List Field) CopyFault) → with_front front (read >>= λ others. Ok (field ∷ others)) ≡ with_front (front ++ field ∷ []) read
with_front-push front field (Ok x) = ap (λ (xs : List Field). Ok xs) (sym (append_assoc front (field ∷ []) x))
with_front-push front field (Err f) = refl

pub starts : (line : List ℕ) → with_front [] (fields_of 0 (pieces (drop 0 line))) ≡ row_of line
unfolding row_of
starts line = with_front-nil (fields_of 0 (pieces line))

pub fields_cons : (start : ℕ) (piece : List ℕ) (more : List (List ℕ)) → fields_of start (piece ∷ more) ≡ (field_of start piece >>= λ field. fields_of (start + length piece + 1) more >>= λ others. Ok (field ∷ others))
unfolding fields_of
fields_cons start piece more = refl

pub fields_nil : (start : ℕ) → fields_of start [] ≡ Ok []
unfolding fields_of
fields_nil start = refl

module _ (front : List Field) (start n : ℕ) (rest : List ℕ) (first : IsFirstPiece rest n) (total : Result (List Field) CopyFault) (so_far : with_front front (fields_of start (pieces rest)) ≡ total) where
  -- the first piece was the last
  pub fields_last : (field : Field) → n ≡ length rest → field_of start (take n rest) ≡ Ok field → total ≡ Ok (front ++ field ∷ [])
  fields_last field is read =
      let whole : take n rest ≡ rest = take_all n rest (omega arith) in
      let read_whole : field_of start rest ≡ Ok field = ap (field_of start) (sym whole) ∙ read in
      sym so_far ∙ ap (λ (ps : List (List ℕ)). with_front front (fields_of start ps)) (first.last is) ∙ rw (fields_cons, read_whole, fields_nil) refl

  -- a tab follows it
  pub fields_more : (field : Field) → n < length rest → field_of start (take n rest) ≡ Ok field
      → with_front (front ++ field ∷ []) (fields_of (start + n + 1) (pieces (drop (n + 1) rest))) ≡ total
  fields_more field lt read =
      let len : length (take n rest) ≡ n = omega (arith, length-take n rest) in
      let one : with_front front (fields_of start (pieces rest)) ≡ with_front front (fields_of (start + n + 1) (pieces (drop (n + 1) rest)) >>= λ others. Ok (field ∷ others)) =
      ap (λ (ps : List (List ℕ)). with_front front (fields_of start ps)) (first.cut lt) ∙ rw (fields_cons, read, len) refl
      in
      sym (with_front-push front field (fields_of (start + n + 1) (pieces (drop (n + 1) rest)))) ∙ sym one ∙ so_far

  fields_fault : (f : CopyFault) → field_of start (take n rest) ≡ Err f → total ≡ Err f
  fields_fault f read = by (cases_lt n (length rest))
    where
      by : (n < length rest) ⊎ (length rest ≤ n) → total ≡ Err f
      by (inl lt) = sym so_far ∙ ap (λ (ps : List (List ℕ)). with_front front (fields_of start ps)) (first.cut lt) ∙ rw (fields_cons, read) refl
      by (inr le) =
          let is : n ≡ length rest = omega (arith, first.within) in
          let whole : take n rest ≡ rest = take_all n rest le in
          let read_whole : field_of start rest ≡ Err f = ap (field_of start) (sym whole) ∙ read in
          sym so_far ∙ ap (λ (ps : List (List ℕ)). with_front front (fields_of start ps)) (first.last is) ∙ rw (fields_cons, read_whole) refl

  pub fields_fail : (e : ReadRowError) → Fails e (field_of start (take n rest)) → Fails e total
  fields_fail errors.Memory read = tt
  fields_fail (errors.Fault f) read = fields_fault f read
