-- When a catalogue by names can stand for rows, said in names: each key with its value is in order by itself, what it
-- asks of other keys is met, and so is what holds of the whole.
use Rattle.std.specs.Prelude.{◌≡◌, Bool, true, false, Some}
use Rattle.std.specs.List.{AllByRecursion}
use Rattle.std.specs.FinMap.{get}
use Rattle.cat_model.specs.declared.key.Key.{Key}
use Rattle.cat_model.specs.declared.key.Key.TheVariants as key
use Rattle.cat_model.specs.declared.value.Value.{Value}
use Rattle.cat_model.specs.Values.{Named}
use Rattle.cat_sound.specs.Texts.{Texts}
use Rattle.cat_sound.specs.Asked.{Passes}
use Rattle.cat_sound.specs.Asks.{Ask, asks}
use Rattle.cat_sound.specs.Itself.{Itself}
use Rattle.cat_sound.specs.Beside.{IsBeside}

abbrev pub IsMet : Named → Ask → Type 0
IsMet named ask = Passes (get named ask.0) ask.1

pub record IsSoundAt (texts : Texts) (named : Named) (k : Key) (v : Value) : Type 0 where
  pub own : Itself texts k v
  pub others : AllByRecursion (IsMet named) (asks k v)

pub record IsSound (texts : Texts) (named : Named) : Type 0 where
  pub each : (k : Key) (v : Value) → get named k ≡ Some v → IsSoundAt texts named k v
  pub beside : IsBeside named

-- the key of a comment, which COMMENT can take out
abbrev pub is_comment : Key → Bool
is_comment (key.Comment o) = true
is_comment _ = false
