-- The spelling of statements about sequences: their clauses.
use Rattle.std.specs.{Prelude.ℕ, Prelude.ℤ, Prelude.pos, Prelude.negsuc, Prelude.Bool, Prelude.true, Prelude.false, Prelude.List, Prelude.[], Prelude.◌∷◌, Prelude.◌++◌, Prelude.if◌then◌else◌, Prelude.codes, Ordering.int_eq, Fmt.signed_decimal}
use Rattle.cat_model.specs.{declared.value.Sequence.Sequence, declared.constraint.SequenceKind.SequenceKind, declared.constraint.SequenceKind.TheVariants.SmallInt, declared.constraint.SequenceKind.TheVariants.Integer, declared.constraint.SequenceKind.TheVariants.BigInt}
use Rattle.ddl_spelling.specs.Paths.{joined, only_if}

abbrev pub falls : ℤ → Bool
falls (pos n) = false
falls (negsuc n) = true

-- the bounds of a type
abbrev pub least_of : SequenceKind → ℤ
least_of SmallInt = negsuc 32767
least_of Integer = negsuc 2147483647
least_of BigInt = negsuc 9223372036854775807

abbrev pub greatest_of : SequenceKind → ℤ
greatest_of SmallInt = pos 32767
greatest_of Integer = pos 2147483647
greatest_of BigInt = pos 9223372036854775807

-- what NO MINVALUE and NO MAXVALUE stand for: a rising sequence goes from 1 to the type's greatest, a falling one
-- from -1 to the type's least
unfoldable pub usual_min : SequenceKind → ℤ → ℤ
usual_min kind step = if falls step then least_of kind else pos 1

unfoldable pub usual_max : SequenceKind → ℤ → ℤ
usual_max kind step = if falls step then negsuc 0 else greatest_of kind

-- the type, but for bigint
abbrev pub type_words : SequenceKind → List ℕ
type_words SmallInt = codes "\n    AS smallint"
type_words Integer = codes "\n    AS integer"
type_words BigInt = []

-- a bound: without a number, where it is the usual one
unfoldable pub bound : Bool → List ℕ → List ℕ → ℤ → List ℕ
bound true without words n = without
bound false without words n = words ++ signed_decimal n

-- the least number and the greatest
abbrev pub min_text : SequenceKind → ℤ → ℤ → List ℕ
min_text kind step n = bound (int_eq n (usual_min kind step)) (codes "\n    NO MINVALUE") (codes "\n    MINVALUE ") n

abbrev pub max_text : SequenceKind → ℤ → ℤ → List ℕ
max_text kind step n = bound (int_eq n (usual_max kind step)) (codes "\n    NO MAXVALUE") (codes "\n    MAXVALUE ") n

-- a sequence's clauses, a line for each
unfoldable pub clauses_text : Sequence → List ℕ
clauses_text s = joined (
    type_words s.kind ∷ codes "\n    START WITH " ∷ signed_decimal s.start ∷ codes "\n    INCREMENT BY " ∷ signed_decimal s.step
    ∷ min_text s.kind s.step s.min ∷ max_text s.kind s.step s.max
    ∷ codes "\n    CACHE " ∷ signed_decimal s.cache ∷ only_if s.cycle (codes "\n    CYCLE") ∷ [])

abbrev pub truth_word : Bool → List ℕ
truth_word true = codes "true"
truth_word false = codes "false"
