-- How an answer of the code that adds rows agrees with what is due.
use Rattle.std.specs.Prelude.{◌≡◌, ℕ, List, [], ◌∷◌, ◌++◌, Option, Result, Ok, Err}
use Rattle.std.specs.Global.{Vec}
use Rattle.fmt_directory.specs.declared.fault.DirFault.{DirFault}
use Rattle.fmt_directory.specs.Answers.{IsDue}
use Rattle.restore_input.specs.Answers.{texts_seen}

-- rows were added and a number answered, as they are due; else a fault that is due
abbrev pub PutsText : List (Option (Vec ℕ)) → List (Option (Vec ℕ)) → Result ℕ DirFault → Result (Option (List ℕ) × ℕ) DirFault → Type 0
PutsText old new (Ok n) due = (text : Option (List ℕ)) × (due ≡ Ok (text, n)) × (texts_seen new ≡ texts_seen old ++ text ∷ [])
PutsText old new (Err fault) due = IsDue fault due
