-- Two or three lexemes, or more than five, are no type whose values are looked at.
use Rattle.std.proofs.Common.{◌≡◌, ◌<◌, ◌≤◌, List, [], ◌∷◌, map, length, refl, arith}
use Rattle.cat_model.specs.FieldTypes.{type_of_lexemes}
use Rattle.stmt_refs.specs.declared.lexeme.Lexeme.{Lexeme}
use Rattle.stmt_refs.specs.Said.{said}
use Rattle.field_values.specs.declared.field_type.FieldType.TheVariants.{Opaque}
use Rattle.field_values.specs.Seen.{seen}

pub two_or_three : (xs : List Lexeme) → 2 ≤ length xs → length xs < 4 → Opaque ≡ seen (type_of_lexemes (map said xs))
two_or_three [] h k = absurd (omega arith)
two_or_three (a ∷ []) h k = absurd (omega arith)
two_or_three (a ∷ b ∷ []) h k = refl
two_or_three (a ∷ b ∷ c ∷ []) h k = refl
two_or_three (a ∷ b ∷ c ∷ d ∷ rest) h k = absurd (omega arith)

pub more_than_five : (xs : List Lexeme) → 6 ≤ length xs → Opaque ≡ seen (type_of_lexemes (map said xs))
more_than_five [] h = absurd (omega arith)
more_than_five (a ∷ []) h = absurd (omega arith)
more_than_five (a ∷ b ∷ []) h = absurd (omega arith)
more_than_five (a ∷ b ∷ c ∷ []) h = absurd (omega arith)
more_than_five (a ∷ b ∷ c ∷ d ∷ []) h = absurd (omega arith)
more_than_five (a ∷ b ∷ c ∷ d ∷ e ∷ []) h = absurd (omega arith)
more_than_five (a ∷ b ∷ c ∷ d ∷ e ∷ f ∷ rest) h = refl
