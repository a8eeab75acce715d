-- What a run leaves as it was, however far it came.
use Rattle.std.specs.Prelude.{◌≡◌, ◌≢◌, List, [], ◌∷◌, option_map}
use Rattle.dump_ports.specs.Tree.{text_at}
use Rattle.cat_model.specs.Values.{Bytes}
use Rattle.dump_tools.specs.Outputs.{World, Output, Stores, Patches, Writes, Tells, Takes}

-- the output makes and changes no file of this name
abbrev pub IsOther : Bytes → Output → Type 0
IsOther name (Stores file text) = name ≢ file
IsOther name (Patches file text) = name ≢ file
IsOther name (Writes text) = Unit {0}
IsOther name (Tells text) = Unit {0}
IsOther name (Takes text) = Unit {0}

-- none of these outputs does
abbrev pub AreOthers : Bytes → List Output → Type 0
AreOthers name [] = Unit {0}
AreOthers name (output ∷ outputs) = IsOther name output × AreOthers name outputs

-- what the name holds is what it held, where the files tell it
abbrev pub Keeps : Bytes → World → World → Type 0
Keeps name before after = option_map (λ tree. text_at tree name) after.tree ≡ option_map (λ tree. text_at tree name) before.tree

-- the output prints nothing
abbrev pub IsSilent : Output → Type 0
IsSilent (Stores file text) = Unit {0}
IsSilent (Patches file text) = Unit {0}
IsSilent (Writes text) = ⊥
IsSilent (Tells text) = Unit {0}
IsSilent (Takes text) = Unit {0}

abbrev pub AreSilent : List Output → Type 0
AreSilent [] = Unit {0}
AreSilent (output ∷ outputs) = IsSilent output × AreSilent outputs

-- the output takes nothing off standard input
abbrev pub TakesNone : Output → Type 0
TakesNone (Stores file text) = Unit {0}
TakesNone (Patches file text) = Unit {0}
TakesNone (Writes text) = Unit {0}
TakesNone (Tells text) = Unit {0}
TakesNone (Takes text) = ⊥

abbrev pub AllTakeNone : List Output → Type 0
AllTakeNone [] = Unit {0}
AllTakeNone (output ∷ outputs) = TakesNone output × AllTakeNone outputs
