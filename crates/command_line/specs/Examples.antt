-- Worked examples of command lines.
-- 32 is a space, 45 is `-`, 47 is `/`.
use Rattle.std.specs.Prelude.{◌≡◌, ℕ, ◌==◌, List, [], ◌∷◌, ◌++◌, Option, Some, None, codes, if◌then◌else◌}
use Rattle.command_line.specs.declared.options.Tool.TheVariants.{PgDump}
use Rattle.command_line.specs.declared.options.Opt.TheVariants as opt
use Rattle.command_line.specs.declared.usage.UsageFault.{UsageFault}
use Rattle.command_line.specs.declared.usage.UsageKind.TheVariants.{NoCommand, UnknownCommand, OutOfProfile, UnknownOption, MissingValue, BadValue, ExtraWord, Excluded, MissingOption}
use Rattle.command_line.specs.Reading.{Done, Given, Other}
use Rattle.command_line.specs.Mentions.{values_of}
use Rattle.command_line.specs.Checks.{fault_at}
use Rattle.command_line.specs.Usage.{said_by, usage_of}

abbrev pub cut : List ℕ → List ℕ → List (List ℕ)
cut word [] = word ∷ []
cut word (b ∷ rest) = if b == 32 then word ∷ cut [] rest else cut (word ++ b ∷ []) rest

-- why a command line, its words with a space between, has no reading
abbrev pub fault : List ℕ → Option UsageFault
fault line = usage_of (cut [] line)

pub record WorkedExamples : Type 0 where
  pub no_words : usage_of [] ≡ Some (fault_at 0 NoCommand)
  pub no_tool : fault (codes "pg_dmp -Z") ≡ Some (fault_at 0 UnknownCommand)
  -- a value of its own word's letters, and of the next word
  pub values : said_by PgDump (cut [] (codes "pg_dump -Ofa -n b S")) ≡ Given 1 opt.NoOwner [] (Given 1 opt.File (codes "a") (Given 2 opt.Schema (codes "b") (Other 4 (codes "S") Done)))
  pub adds_up : values_of opt.Schema (said_by PgDump (cut [] (codes "pg_dump -na --schema=b S --schema c"))) ≡ codes "a" ∷ codes "b" ∷ codes "c" ∷ []
  pub letters : fault (codes "pg_dump -aOxf out S") ≡ None
  pub ends_options : fault (codes "pg_dump -a -- -s") ≡ None
  pub lone_dash : fault (codes "pg_restore -l -") ≡ None
  pub bad_letter : fault (codes "pg_dump -OqC S") ≡ Some (fault_at 1 UnknownOption)
  pub left_out : fault (codes "pg_dump S --clean=x") ≡ Some (fault_at 2 OutOfProfile)
  pub tar : fault (codes "pg_dump -F tar S") ≡ Some (fault_at 2 OutOfProfile)
  pub value_of_a_flag : fault (codes "pg_restore --no-owner= -l") ≡ Some (fault_at 1 BadValue)
  pub bad_pattern : fault (codes "pg_dump -n a.b.c S") ≡ Some (fault_at 2 BadValue)
  pub no_workers : fault (codes "pg_restore -j 0 -d D a") ≡ Some (fault_at 2 BadValue)
  pub many_workers : fault (codes "pg_restore -j 65 -d D a") ≡ Some (fault_at 2 BadValue)
  -- a value that is missing comes before a check
  pub no_value : fault (codes "pg_dump -a -s -f") ≡ Some (fault_at 4 MissingValue)
  -- the first word that fails
  pub extra_word : fault (codes "pg_dump S -d D") ≡ Some (fault_at 1 ExtraWord)
  pub extra_first : fault (codes "pg_gen D -n t") ≡ Some (fault_at 1 ExtraWord)
  -- the checks
  pub rows_and_schema : fault (codes "pg_dump -s -a -s S") ≡ Some (fault_at 3 Excluded)
  pub no_folder : fault (codes "psql -f s.sql") ≡ Some (fault_at 3 MissingOption)
  pub no_target : fault (codes "pg_restore a") ≡ Some (fault_at 2 MissingOption)
  pub one_transaction : fault (codes "pg_restore -j 2 -1 -d D a") ≡ Some (fault_at 3 Excluded)
  pub from_input : fault (codes "pg_restore -j 2 -d D") ≡ Some (fault_at 1 Excluded)
  pub ignored_workers : fault (codes "pg_restore -j 2 -e -l") ≡ None
  pub workers_of_a_script : fault (codes "pg_clone -F p -f x -j2 S D") ≡ Some (fault_at 5 Excluded)
  pub into_its_folder : fault (codes "pg_dump -f S/x S") ≡ Some (fault_at 1 BadValue)
