-- A line has a field at least.
use Rattle.std.proofs.Common.{◌≡◌, ℕ, ◌+◌, ◌==◌, Bool, true, false, List, [], ◌∷◌, length, Result, Ok, Err, refl, ap, sym, ◌∙◌, if◌then◌else◌}
use Rattle.copy_text.specs.declared.fault.CopyFault.{CopyFault}
use Rattle.copy_text.specs.Pieces.{pieces_after}
use Rattle.std.specs.List.{onto_first}
use Rattle.copy_text.specs.Marks.{tab, backslash}
use Rattle.copy_text.specs.Reading.{◌>>=◌, field_of, fields_of, row_of}
use Rattle.copy_text.specs.Rows.{Field}

no_fields : (r : Result Field CopyFault) (s : Result (List Field) CopyFault) → ◌>>=◌ r (λ field. ◌>>=◌ s (λ others. Ok (field ∷ others))) ≡ Ok [] → ⊥
no_fields (Ok field) (Ok others) e = cc
no_fields (Ok field) (Err fault) e = cc
no_fields (Err fault) s e = cc

some_field : (start : ℕ) (piece : List ℕ) (parts : List (List ℕ)) → fields_of start (piece ∷ parts) ≡ Ok [] → ⊥
unfolding fields_of
some_field start piece parts e = no_fields (field_of start piece) (fields_of (start + length piece + 1) parts) e

onto_some : (b : ℕ) (parts : List (List ℕ)) → (p : List ℕ) × (ps : List (List ℕ)) × (onto_first b parts ≡ p ∷ ps)
onto_some b [] = (b ∷ [], [], refl)
onto_some b (part ∷ parts) = (b ∷ part, parts, refl)

cut_some : (b : ℕ) (cut : Bool) (first rest : List (List ℕ)) → (p : List ℕ) × (ps : List (List ℕ)) × ((if cut then [] ∷ first else onto_first b rest) ≡ p ∷ ps)
cut_some b true first rest = ([], first, refl)
cut_some b false first rest = onto_some b rest

some_piece : (escaped : Bool) (line : List ℕ) → (p : List ℕ) × (ps : List (List ℕ)) × (pieces_after escaped line ≡ p ∷ ps)
unfolding pieces_after
some_piece escaped [] = ([], [], refl)
some_piece true (b ∷ rest) = onto_some b (pieces_after false rest)
some_piece false (b ∷ rest) = cut_some b (b == tab) (pieces_after false rest) (pieces_after (b == backslash) rest)

pub line_has_field : (line : List ℕ) → row_of line ≡ Ok [] → ⊥
unfolding row_of
line_has_field line e =
    let some = some_piece false line in
    some_field 0 some.0 some.1 (ap (fields_of 0) (sym some.2) ∙ e)
