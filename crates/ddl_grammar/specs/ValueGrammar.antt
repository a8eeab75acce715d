-- The grammar of a sequence's value: what stands behind SELECT pg_catalog.
-- The sequence's path stands in a literal: it is read from the tokens of the literal's text.
use Rattle.std.specs.Prelude.{◌≡◌, ℕ, Bool, true, false, Result, Ok, Err, ⊤, codes}
use Rattle.cat_model.specs.{declared.object.QName.QName}
use Rattle.ddl_parts.specs.{declared.fault.ReadError.ReadError, declared.fault.ReadError.TheVariants.Halted, declared.fault.ReadError.TheVariants.Memory, Lexemes.is_word, Parts.Part, Parts.one, Parts.mark, Parts.seen, Parts.choose, Shortened.path_value}

-- a path in a literal
abbrev pub literal_path : Part QName
literal_path = one path_value

-- ---- setval(..)

-- TRUE or FALSE
unfoldable pub truth : Part Bool
truth = choose (is_word (codes "true")) (seen (λ u. true) (mark (is_word (codes "true")))) (seen (λ u. false) (mark (is_word (codes "false"))))

-- ---- what the code answers

-- the path that is due, or a halt at the literal's place where none is
abbrev pub GivesPath : ℕ → Result QName ReadError → Result QName Bool → Type 0
GivesPath at (Ok q) due = due ≡ Ok q
GivesPath at (Err Memory) due = ⊤
GivesPath at (Err (Halted h)) due = (due ≡ Err h.long) × (h.at ≡ at)
