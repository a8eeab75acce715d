-- What can be said with a tool's options, and words that say it.
use Rattle.std.specs.Prelude.{◌≡◌, ⊤, ℕ, ◌+◌, List, [], ◌∷◌, ◌++◌, None, codes}
use Rattle.command_line.specs.declared.options.Tool.{Tool}
use Rattle.command_line.specs.declared.options.Opt.{Opt}
use Rattle.command_line.specs.declared.options.Opt.TheVariants as opt
use Rattle.command_line.specs.declared.options.Takes.{Takes}
use Rattle.command_line.specs.declared.options.Takes.TheVariants.{Lacking, LeftOut, Flag, Value}
use Rattle.command_line.specs.Options.{tool_name, takes}
use Rattle.command_line.specs.Values.{value_fault}
use Rattle.command_line.specs.Reading.{Reading, Done, Given, Other}

-- an option with a value, which is empty where it takes none
pub record Saying : Type 0 where
  pub option : Opt
  pub value : List ℕ

-- a value that an option takes
abbrev pub TakesValue : Takes → List ℕ → Type 0
TakesValue Lacking value = ⊥
TakesValue LeftOut value = ⊥
TakesValue Flag value = value ≡ []
TakesValue (Value kind) value = value_fault kind value ≡ None

-- options that a tool takes, with values that they take
abbrev pub AreTaken : Tool → List Saying → Type 0
AreTaken tool [] = ⊤
AreTaken tool (saying ∷ sayings) = TakesValue (takes tool saying.option) saying.value × AreTaken tool sayings

-- a word for an option, apart from its value
abbrev pub word_for : Opt → List ℕ
word_for opt.Dbname = codes "-d"
word_for opt.File = codes "-f"
word_for opt.Format = codes "-F"
word_for opt.DataOnly = codes "-a"
word_for opt.SchemaOnly = codes "-s"
word_for opt.Schema = codes "-n"
word_for opt.ExcludeSchema = codes "-N"
word_for opt.Table = codes "-t"
word_for opt.ExcludeTable = codes "-T"
word_for opt.ExcludeTableData = codes "--exclude-table-data"
word_for opt.NoOwner = codes "-O"
word_for opt.NoPrivileges = codes "-x"
word_for opt.NoComments = codes "--no-comments"
word_for opt.Section = codes "--section"
word_for opt.StrictNames = codes "--strict-names"
word_for opt.Compress = codes "-Z"
word_for opt.List = codes "-l"
word_for opt.UseList = codes "-L"
word_for opt.Jobs = codes "-j"
word_for opt.SingleTransaction = codes "-1"
word_for opt.ExitOnError = codes "-e"
word_for opt.GlobalsOnly = codes "-g"
word_for opt.RolesOnly = codes "-r"
word_for opt.Variable = codes "-v"
word_for opt.Tables = codes "-n"
word_for opt.Create = codes "-C"
word_for opt.Clean = codes "-c"
word_for opt.IfExists = codes "--if-exists"
word_for opt.LargeObjects = codes "-b"
word_for opt.NoLargeObjects = codes "-B"

-- how many words an option with its value takes
abbrev pub width : Takes → ℕ
width (Value kind) = 2
width _ = 1

abbrev pub words_for : Takes → Saying → List (List ℕ)
words_for (Value kind) saying = word_for saying.option ∷ saying.value ∷ []
words_for _ saying = word_for saying.option ∷ []

-- words that say these options, and the other words behind `--`
abbrev pub spelled : Tool → List Saying → List (List ℕ) → List (List ℕ)
spelled tool [] others = codes "--" ∷ others
spelled tool (saying ∷ sayings) others = words_for (takes tool saying.option) saying ++ spelled tool sayings others

abbrev pub others_from : ℕ → List (List ℕ) → Reading
others_from at [] = Done
others_from at (text ∷ others) = Other at text (others_from (at + 1) others)

-- the same as it is read, from the word `at` on
abbrev pub said_from : Tool → ℕ → List Saying → List (List ℕ) → Reading
said_from tool at [] others = others_from (at + 1) others
said_from tool at (saying ∷ sayings) others =
    Given at saying.option saying.value (said_from tool (at + width (takes tool saying.option)) sayings others)

-- a whole command line
abbrev pub line_of : Tool → List Saying → List (List ℕ) → List (List ℕ)
line_of tool sayings others = tool_name tool ∷ spelled tool sayings others
