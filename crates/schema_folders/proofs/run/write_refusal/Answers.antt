use Rattle.std.proofs.Common.{◌≡◌, ℕ, List, [], ◌∷◌, ◌++◌, append_assoc, codes, decimal}
use Rattle.tool_words.specs.Messages.{cause_text}
use Rattle.schema_folders.specs.Run.{cause_of}
use Rattle.schema_folders.proofs.run.write_refusal.Goals as goal

-- the pieces that are written are those of the line
parts : (old a p b t e : List ℕ) → ((((old ++ a) ++ p) ++ b) ++ t) ++ e ≡ old ++ (a ++ p ++ b ++ t ++ e)
parts old a p b t e = simp append_assoc

pub returns : goal.returns
returns c =
    rw (c.in_ok-extend_from_slice-4.ensures.items, c.in_ok-write_cause.ensures, c.in_ok-extend_from_slice-3.ensures.items, c.in_ok-extend_from_slice-2.ensures.items, c.in_ok-extend_from_slice.ensures.items, c.as_bytes.ensures.value, c.format.ensures.text)
    (parts c.args.out.now.items (codes "psql: error: at ") (decimal c.args.at) (codes ": ") (cause_text (cause_of c.args.cause.now)) (10 ∷ []))
