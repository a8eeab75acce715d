-- What the code found of what was said.
use Rattle.std.specs.Prelude.{ℕ, List, Option, Some, None, option_map, if◌then◌else◌}
use Rattle.command_line.specs.declared.options.Opt.{Opt}
use Rattle.command_line.specs.declared.reading.Said.{Said}
use Rattle.command_line.specs.declared.reading.Said.TheVariants as said
use Rattle.command_line.specs.Options.{is_same}
use Rattle.command_line.specs.declared.mentions.Mention.{Mention}
use Rattle.command_line.specs.Mentions.{Place}

abbrev pub place_of : Mention → Place
place_of m = record { word = m.word; value = m.value.now }

abbrev pub places_of : Option Mention → Option Place
places_of m = option_map place_of m

-- the mention of an option, or the one before
abbrev pub said_of : Opt → Option Place → Said → Option Place
said_of wanted before (said.Given word option value) = if is_same option wanted then Some (record { word = word; value = value.now }) else before
said_of wanted before (said.Other word text) = before

-- the value of an option, where this was said
abbrev pub value_said : Opt → Said → Option (List ℕ)
value_said wanted (said.Given word option value) = if is_same option wanted then Some value.now else None
value_said wanted (said.Other word text) = None
