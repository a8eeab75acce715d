-- What is due of what a clone wrote, which is restored into another folder: what that folder is to stand for, and what is told,
-- or the first refusal of the steps. The script or the archive is read first, then the folder as an opening. Nothing is
-- restored before all is read.
use Rattle.std.specs.Prelude.{ℕ, Bool, true, false, List, [], Option, Some, None, Result, Ok, Err}
use Rattle.cat_model.specs.declared.words.What.TheVariants.{Unbuilt}
use Rattle.cat_model.specs.Values.{Bytes, Named}
use Rattle.cat_names.specs.Naming.{boot as boot_role}
use Rattle.command_line.specs.declared.values.Format.{Format}
use Rattle.command_line.specs.declared.values.Format.TheVariants.{Plain, Custom, Directory}
use Rattle.ddl_read.specs.fault.DdlFault.{DdlFault}
use Rattle.ddl_read.specs.located.Located.{Located}
use Rattle.ddl_read.specs.Reading.{statements_of}
use Rattle.dump_ports.specs.Tree.{Tree}
use Rattle.entry_choices.specs.declared.options.Options.{Options}
use Rattle.exports.specs.Exports.{Exported}
use Rattle.openings.specs.Openings.{export_named, opened_folder}
use Rattle.restore_folders.specs.declared.refusal.OnRefusal.TheVariants.{GoOn}
use Rattle.restore_folders.specs.Works.{Work, work_due, ending_of, answer_by}
use Rattle.restore_input.specs.Inputs.{Input, input_due}
use Rattle.restore_outcomes.specs.Told.{told}
use Rattle.restore_texts.specs.declared.asked.ArchiveFormat.{ArchiveFormat}
use Rattle.restore_texts.specs.declared.asked.ArchiveFormat.TheVariants as archive
use Rattle.schema_folders.specs.Run.{catalogue_after, refusals}
use Rattle.schema_folders.specs.Texts.{file_of}
use Rattle.tool_words.specs.declared.outcome.Limit.TheVariants.{Script as ScriptLimit}
use Rattle.tool_words.specs.declared.outcome.Outcome.{Outcome}
use Rattle.tool_words.specs.declared.outcome.Outcome.TheVariants.{BadScript, OutOfProfile}
use Rattle.tool_words.specs.Answers.{◌>>=◌}
use Rattle.clone_restores.specs.Lines.{report}

-- a restore that is to be carried out: the folder, what it holds before, what it is to stand for by names, what is told of what
-- was refused, and how many errors the answer counts
pub record Restoration : Type 0 where
  pub folder : Bytes
  pub opening : Exported
  pub left : Named
  pub told : Bytes
  pub errors : ℕ

-- its answer: Done where there were none, else their number
abbrev pub answer_of : Restoration → Outcome
answer_of plan = answer_by plan.errors None

-- ---- a script

-- what its statements make of an opening one after another, a refused one changing nothing; the answer counts none of them
abbrev pub script_made : Bytes → Bytes → List Located → Exported → Bytes → Restoration
script_made teller folder statements opening boot = record {
  folder = folder;
  opening = opening;
  left = catalogue_after boot statements (export_named opening);
  told = report teller (refusals boot statements (export_named opening));
  errors = 0;
}

-- the role that owns what is created is there in each opening
abbrev pub script_with : Bytes → Bytes → List Located → Exported → Option Bytes → Result Restoration Outcome
script_with teller folder statements opening None = Err (OutOfProfile Unbuilt)
script_with teller folder statements opening (Some boot) = Ok (script_made teller folder statements opening boot)

abbrev pub scripted : Result (List Located) DdlFault → Result (List Located) Outcome
scripted (Err fault) = Err (BadScript fault)
scripted (Ok statements) = Ok statements

-- the statements of a script
unfoldable pub script_read : Bytes → Result (List Located) Outcome
script_read text = scripted (statements_of text)

-- once the text of the script is read: its statements, then the folder
unfoldable pub text_due : Bytes → Bytes → Bytes → Tree → Result Restoration Outcome
text_due teller folder text tree = do
  statements ← script_read text
  opening ← opened_folder folder tree
  script_with teller folder statements opening (boot_role opening.cat)

abbrev pub script_limit : ℕ
script_limit = 268435456

unfoldable pub script_due : Bytes → Bytes → Bytes → Tree → Result Restoration Outcome
script_due teller folder path tree = file_of ScriptLimit script_limit path tree >>= λ text. text_due teller folder text tree

-- ---- an archive

-- what its entries make of an opening one after another; behind a refusal the next entry is tried
abbrev pub archive_plan : Bytes → Bytes → Work → Restoration
archive_plan teller folder work =
    let e = ending_of GoOn teller work in
    record { folder = folder; opening = work.opening; left = e.left; told = e.told; errors = e.errors }

-- all entries, with owners or without
abbrev pub all_options : Bool → Options
all_options owners = record {
  schema_only = false;
  data_only = false;
  schemas = [];
  not_schemas = [];
  tables = [];
  owners = owners;
  grants = true;
  comments = true;
  sections = record { pre = true; rows = true; post = true };
}

-- what is taken of it
unfoldable pub all_taken : Bool → Bytes → ArchiveFormat → Tree → Result Input Outcome
all_taken owners path format tree = told (input_due (all_options owners) None (Some format) tree path)

-- then the folder, and the entries as statements
unfoldable pub all_work : Bool → Bytes → Bytes → ArchiveFormat → Tree → Result Work Outcome
all_work owners folder path format tree = all_taken owners path format tree >>= λ taken. work_due owners folder taken tree

unfoldable pub archive_due : Bytes → Bool → Bytes → Bytes → ArchiveFormat → Tree → Result Restoration Outcome
archive_due teller owners folder path format tree = all_work owners folder path format tree >>= λ work. Ok (archive_plan teller folder work)

-- ---- what was written

-- what is due of what was written at a path, in this format, for this folder; each line that is told begins with the teller's
-- name
abbrev pub written_due : Bytes → Format → Bool → Bytes → Bytes → Tree → Result Restoration Outcome
written_due teller Plain owners folder path tree = script_due teller folder path tree
written_due teller Custom owners folder path tree = archive_due teller owners folder path archive.Custom tree
written_due teller Directory owners folder path tree = archive_due teller owners folder path archive.Directory tree
