-- What the engine holds: a catalogue by names, and the role that owns what is created.
use Rattle.std.specs.Coded.{Coded}
use Rattle.std.specs.FinMap.{code}
use Rattle.cat_model.specs.contracts.key.Key as key
use Rattle.cat_model.specs.contracts.value.Value as value
use Rattle.cat_model.specs.Values.{Bytes, Named}

pub record Held : Type 0 where
  pub named : Named
  pub boot : Bytes

abbrev pub named_code : Coded Named
named_code = code key.the_row.coded value.the_row.coded
