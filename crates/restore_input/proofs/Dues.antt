-- What is due of a step, and of the whole.
use Rattle.std.proofs.Common.{◌≡◌, ℕ, List, Option, Result, Ok, Err, ap, sym, ◌∙◌}
use Rattle.dump_ports.specs.Tree.{Tree}
use Rattle.toc_parts.specs.Parts.{◌>>=◌}
use Rattle.toc_entry.specs.declared.entry.Entry.{Entry}
use Rattle.entry_choices.specs.declared.options.Options.{Options}
use Rattle.fmt_custom.specs.Customs.{Custom}
use Rattle.fmt_directory.specs.Directories.{Directory}
use Rattle.fmt_directory.specs.declared.fault.DirFault.{DirFault}
use Rattle.fmt_directory.specs.declared.fault.DirFault.TheVariants as dir
use Rattle.fmt_directory.specs.Answers as directory
use Rattle.restore_texts.specs.declared.fault.TextFault.{TextFault}
use Rattle.restore_texts.specs.declared.fault.TextFault.TheVariants.{Failed, Missing, TooLarge, Archive, List as BadList, Memory}
use Rattle.restore_texts.specs.Faults.{IsDue, IsFree}
use Rattle.restore_texts.specs.Texts.{places_due, in_directory}
use Rattle.restore_input.specs.Inputs.{custom_input, behind_custom, directory_input, behind_directory}

-- a fault that is due of a step is due of the whole
pub due_behind : {A B : Type 0} (fault : TextFault) (step : Result A TextFault) (whole : Result B TextFault) → ((f : TextFault) → step ≡ Err f → whole ≡ Err f) → IsDue fault step → IsDue fault whole
due_behind Failed step whole on due = tt
due_behind Memory step whole on due = tt
due_behind (Missing name) step whole on due = on (Missing name) due
due_behind (TooLarge what n) step whole on due = on (TooLarge what n) due
due_behind (Archive f) step whole on due = on (Archive f) due
due_behind (BadList f) step whole on due = on (BadList f) due

-- the same of a directory's steps
pub dir_due_behind : {A B : Type 0} (fault : DirFault) (step : Result A DirFault) (whole : Result B DirFault) → ((f : DirFault) → step ≡ Err f → whole ≡ Err f) → directory.IsDue fault step → directory.IsDue fault whole
dir_due_behind dir.Failed step whole on due = tt
dir_due_behind dir.Memory step whole on due = tt
dir_due_behind (dir.Missing name) step whole on due = on (dir.Missing name) due
dir_due_behind (dir.TooLarge n) step whole on due = on (dir.TooLarge n) due
dir_due_behind (dir.Archive f) step whole on due = on (dir.Archive f) due

-- what may come at any time is due
pub free_due : {B : Type 0} (fault : TextFault) (whole : Result B TextFault) → IsFree fault → IsDue fault whole
free_due Failed whole free = tt
free_due Memory whole free = tt
free_due (Missing name) whole free = absurd free
free_due (TooLarge what n) whole free = absurd free
free_due (Archive f) whole free = absurd free
free_due (BadList f) whole free = absurd free

-- ---- the places of entries, and what is taken at them

pub custom_places : (o : Options) (list : Option (List ℕ)) (tree : Tree) (custom : Custom) (es : List Entry) (r : Result (List ℕ) TextFault) → es ≡ custom.entries → places_due o es list tree ≡ r →
    behind_custom o list tree custom ≡ (r >>= λ places. Ok (custom_input custom places))
custom_places o list tree custom es r are due =
    ap (λ (s : Result (List ℕ) TextFault). s >>= λ places. Ok (custom_input custom places)) (ap (λ (xs : List Entry). places_due o xs list tree) (sym are) ∙ due)

pub directory_places : (o : Options) (list : Option (List ℕ)) (tree : Tree) (used : ℕ) (d : Directory) (es : List Entry) (r : Result (List ℕ) TextFault) → es ≡ d.entries → places_due o es list tree ≡ r →
    behind_directory o list tree used d ≡ (r >>= λ places. in_directory (directory_input d tree used places))
directory_places o list tree used d es r are due =
    ap (λ (s : Result (List ℕ) TextFault). s >>= λ places. in_directory (directory_input d tree used places)) (ap (λ (xs : List Entry). places_due o xs list tree) (sym are) ∙ due)
