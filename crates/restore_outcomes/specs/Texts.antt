-- What pg_restore's words ask to be written of an archive: its list, or its script. Or the first refusal of the steps: the
-- archive is read, then the list file, and for a script the data files of a directory, in the order of the list.
use Rattle.std.specs.Prelude.{ℕ, List, Result, if◌then◌else◌}
use Rattle.dump_ports.specs.Tree.{Tree}
use Rattle.command_line.specs.declared.command.RestoreWords.{RestoreWords}
use Rattle.restore_texts.specs.declared.asked.Wish.{Wish}
use Rattle.restore_texts.specs.declared.asked.Wish.TheVariants as wish
use Rattle.restore_texts.specs.Texts.{custom_due, archive_due}
use Rattle.restore_words.specs.Words.{options_of, format_of}
use Rattle.tool_words.specs.declared.outcome.Outcome.{Outcome}
use Rattle.restore_outcomes.specs.Told.{told}

abbrev pub wish_of : RestoreWords → Wish
wish_of words = if words.list then wish.List else wish.Script

-- of the archive at a path: a folder with a file `toc.dat`, or a file
unfoldable pub path_text : RestoreWords → List ℕ → Tree → Result (List ℕ) Outcome
path_text words path tree = told (archive_due (wish_of words) (options_of words) words.use_list (format_of words.format) tree path)

-- of the custom archive that these bytes are
unfoldable pub input_text : RestoreWords → List ℕ → Tree → Result (List ℕ) Outcome
input_text words bytes tree = told (custom_due (wish_of words) (options_of words) words.use_list tree bytes)
