-- Looking for the data files that are needed, one after another.
use Rattle.std.proofs.Common.{◌≡◌, ℕ, Bool, true, false, cond, nat_lt, List, ◌∷◌, length, Option, Some, None, option_map, refl, sym, ap}
use Rattle.dump_ports.specs.Tree.{Tree, text_at}
use Rattle.dump_files.specs.declared.stop.DumpStop.{DumpStop}
use Rattle.dump_files.specs.declared.stop.DumpStop.TheVariants.{Missing, TooLarge, ReadFault, BadRows, WriteFault, Memory}
use Rattle.dump_files.specs.declared.file.DataFile.{DataFile}
use Rattle.dump_files.specs.Stops.{most}
use Rattle.dump_files.specs.Needed.{first_missing, first_large, stop_by, unready, larger, IsDue, IsNoSize}

abbrev pub or_first : Option ℕ → Option ℕ → Option ℕ
or_first (Some size) later = Some size
or_first None later = later

-- what is due of the files that are left, where none before them is absent and the first that is too large has this size
abbrev pub unready_from : Tree → Option ℕ → List DataFile → Option DumpStop
unready_from tree large files = stop_by (first_missing tree files) (or_first large (first_large tree files))

pub looks_begin : (tree : Tree) (files : List DataFile) → unready tree files ≡ unready_from tree None files
unfolding unready
looks_begin tree files = refl

with_size : (large later : Option ℕ) (size : ℕ) (is_large : Bool) → nat_lt most size ≡ is_large → or_first large (cond is_large (Some size) later) ≡ or_first (larger large size) later
with_size (Some first) later size true e = refl
with_size (Some first) later size false e = refl
with_size None later size true e = ap (λ (b : Bool). or_first (cond b (Some size) None) later) (sym e)
with_size None later size false e = ap (λ (b : Bool). or_first (cond b (Some size) None) later) (sym e)

module _ (tree : Tree) (large : Option ℕ) (file : DataFile) (later : List DataFile) where
  pub looks_on : (size : ℕ) → option_map (λ (text : List ℕ). length text) (text_at tree file.name) ≡ Some size → unready_from tree large (file ∷ later) ≡ unready_from tree (larger large size) later
  looks_on size is = by (text_at tree file.name) refl is
    where
      by : (text : Option (List ℕ)) → text_at tree file.name ≡ text → option_map (λ (t : List ℕ). length t) text ≡ Some size → unready_from tree large (file ∷ later) ≡ unready_from tree (larger large size) later
      by None e none = absurd cc
      by (Some text) e some =
          let many : length text ≡ size = cc in
          rw (e, many) (ap (stop_by (first_missing tree later)) (with_size large (first_large tree later) size (nat_lt most size) refl))

  pub looks_absent : (stop : DumpStop) → IsNoSize file.name (text_at tree file.name) stop → IsDue (unready_from tree large (file ∷ later)) stop
  looks_absent (Missing name) p = rw p.1 (ap (λ (n : List ℕ). Some (Missing n)) (sym p.0))
  looks_absent ReadFault p = tt
  looks_absent Memory p = tt
  looks_absent (TooLarge n) p = absurd p
  looks_absent (BadRows table first) p = absurd p
  looks_absent WriteFault p = absurd p
