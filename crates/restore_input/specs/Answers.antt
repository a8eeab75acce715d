-- What the code holds of what a restore reads.
use Rattle.std.specs.Prelude.{ℕ, List, map, Option, option_map}
use Rattle.std.specs.Global.{Vec}
use Rattle.restore_input.specs.declared.input.RestoreInput.{RestoreInput}
use Rattle.restore_input.specs.Inputs.{Input, input}

abbrev pub text_seen : Option (Vec ℕ) → Option (List ℕ)
text_seen text = option_map (λ rows. rows.items) text

abbrev pub texts_seen : List (Option (Vec ℕ)) → List (Option (List ℕ))
texts_seen texts = map text_seen texts

-- the entries, and the rows of each
abbrev pub input_seen : RestoreInput → Input
input_seen i = input i.entries.items (texts_seen i.texts.items)
