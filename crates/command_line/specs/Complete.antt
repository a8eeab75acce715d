-- That what the words say is what the tool takes, and that nothing which is needed is missing.
use Rattle.std.specs.Prelude.{⊤, ℕ, List, IsSome, map}
use Rattle.command_line.specs.declared.lists.PatternWord.{PatternWord}
use Rattle.command_line.specs.declared.options.Tool.{Tool}
use Rattle.command_line.specs.declared.options.Tool.TheVariants.{PgDump, PgRestore, PgDumpall, Psql, PgCatcmp, PgClone, PgGen}
use Rattle.command_line.specs.declared.options.Opt.TheVariants as opt
use Rattle.command_line.specs.Options.{takes}
use Rattle.command_line.specs.Reading.{Reading, Done, Fails, Given, Other}
use Rattle.command_line.specs.Mentions.{last_of, other_of}
use Rattle.command_line.specs.Checks.{folder_place}
use Rattle.command_line.specs.Sayings.{TakesValue}

-- each option is one that the tool takes, with a value that it takes
abbrev pub SaysTaken : Tool → Reading → Type 0
SaysTaken tool Done = ⊤
SaysTaken tool (Fails at kind) = ⊤
SaysTaken tool (Given word option value later) = TakesValue (takes tool option) value × SaysTaken tool later
SaysTaken tool (Other word text later) = SaysTaken tool later

-- the folders, the files and the number that a tool needs
abbrev pub HasNeeded : Tool → Reading → Type 0
HasNeeded PgDump r = IsSome (folder_place r)
HasNeeded PgRestore r = ⊤
HasNeeded PgDumpall r = IsSome (last_of opt.Dbname r)
HasNeeded Psql r = IsSome (folder_place r)
HasNeeded PgCatcmp r = IsSome (other_of 0 r) × IsSome (other_of 1 r)
HasNeeded PgClone r = IsSome (other_of 0 r) × IsSome (other_of 1 r) × IsSome (last_of opt.File r)
HasNeeded PgGen r = IsSome (last_of opt.File r) × IsSome (last_of opt.Tables r)

-- the texts of patterns
abbrev pub texts_of : List PatternWord → List (List ℕ)
texts_of patterns = map (λ p. p.text) patterns
