-- Parts of a directory's script one after another.
use Rattle.std.proofs.Common.{◌≡◌, ℕ, ◌+◌, ◌<◌, Bool, List, [], ◌++◌, length, drop, get_or, Result, Ok, Err, ap, ◌∙◌, sym}
use Rattle.std.proofs.lemmas.List.{drop_more}
use Rattle.std.specs.List.{slice_get}
use Rattle.dump_ports.specs.Tree.{Tree}
use Rattle.toc_parts.specs.Parts.{◌>>=◌}
use Rattle.fmt_directory.specs.declared.fault.DirFault.{DirFault}
use Rattle.fmt_directory.specs.declared.fault.DirFault.TheVariants.{Failed, Missing, TooLarge, Archive, Memory}
use Rattle.fmt_directory.specs.Answers.{IsDue}
use Rattle.fmt_directory.specs.Directories.{Directory}
use Rattle.fmt_text.specs.Script.{script_end}
use Rattle.archive_scripts.specs.Scripts.{head_text}
use Rattle.archive_scripts.specs.Directories.{part_due, parts_due, directory_script}

-- a fault that is due of a step is due of the whole
pub due_behind : {A B : Type 0} (fault : DirFault) (step : Result A DirFault) (whole : Result B DirFault) → ((f : DirFault) → step ≡ Err f → whole ≡ Err f) → IsDue fault step → IsDue fault whole
due_behind Failed step whole on due = tt
due_behind Memory step whole on due = tt
due_behind (Missing name) step whole on due = on (Missing name) due
due_behind (TooLarge n) step whole on due = on (TooLarge n) due
due_behind (Archive f) step whole on due = on (Archive f) due

pub part_next : (owners : Bool) (d : Directory) (tree : Tree) (used : ℕ) (text : List ℕ) (places : List ℕ) (k : ℕ) (more : List ℕ) (n : ℕ) (new : List ℕ) (whole : Result (List ℕ) DirFault) →
    k < length places → part_due owners d tree used (slice_get d.entries (get_or places k 0)) ≡ Ok (more, n) → new ≡ text ++ more →
    parts_due owners d tree used text (drop k places) ≡ whole → parts_due owners d tree n new (drop (k + 1) places) ≡ whole
unfolding parts_due
part_next owners d tree used text places k more n new whole below due is so =
    ap (λ (t : List ℕ). parts_due owners d tree n t (drop (k + 1) places)) is
    ∙ sym (
    ap (parts_due owners d tree used text) (drop_more places k 0 below)
    ∙ ap (λ (r : Result (List ℕ × ℕ) DirFault). r >>= λ p. parts_due owners d tree p.1 (text ++ p.0) (drop (k + 1) places)) due
    )
    ∙ so

pub part_stops : (owners : Bool) (d : Directory) (tree : Tree) (used : ℕ) (text : List ℕ) (places : List ℕ) (k : ℕ) (f : DirFault) (whole : Result (List ℕ) DirFault) →
    k < length places → part_due owners d tree used (slice_get d.entries (get_or places k 0)) ≡ Err f →
    parts_due owners d tree used text (drop k places) ≡ whole → whole ≡ Err f
unfolding parts_due
part_stops owners d tree used text places k f whole below due so =
    sym so
    ∙ ap (parts_due owners d tree used text) (drop_more places k 0 below)
    ∙ ap (λ (r : Result (List ℕ × ℕ) DirFault). r >>= λ p. parts_due owners d tree p.1 (text ++ p.0) (drop (k + 1) places)) due

pub part_last : (owners : Bool) (d : Directory) (tree : Tree) (used : ℕ) (text : List ℕ) (places : List ℕ) (k : ℕ) (whole : Result (List ℕ) DirFault) →
    drop k places ≡ [] → parts_due owners d tree used text (drop k places) ≡ whole → whole ≡ Ok text
unfolding parts_due
part_last owners d tree used text places k whole ended so = sym so ∙ ap (parts_due owners d tree used text) ended

-- ---- the whole

pub script_stops : (owners : Bool) (d : Directory) (tree : Tree) (used : ℕ) (text : List ℕ) (places : List ℕ) (f : DirFault) → text ≡ head_text d.head → parts_due owners d tree used text places ≡ Err f → directory_script owners d tree used places ≡ Err f
unfolding directory_script
script_stops owners d tree used text places f front due =
    ap (λ (r : Result (List ℕ) DirFault). r >>= λ t. Ok (t ++ script_end)) (ap (λ (t : List ℕ). parts_due owners d tree used t places) (sym front) ∙ due)

pub script_ends : (owners : Bool) (d : Directory) (tree : Tree) (used : ℕ) (text : List ℕ) (places : List ℕ) (parts all : List ℕ) → text ≡ head_text d.head → parts_due owners d tree used text places ≡ Ok parts → all ≡ parts ++ script_end → directory_script owners d tree used places ≡ Ok all
unfolding directory_script
script_ends owners d tree used text places parts all front due is =
    ap (λ (r : Result (List ℕ) DirFault). r >>= λ t. Ok (t ++ script_end)) (ap (λ (t : List ℕ). parts_due owners d tree used t places) (sym front) ∙ due)
    ∙ ap (λ (t : List ℕ). Ok t) (sym is)
