-- Reading the parts of `toc.dat` one after the other.
use Rattle.std.proofs.Common.{◌≡◌, ℕ, true, List, length, Option, Some, None, Ok, Err, refl, ap, ◌∙◌}
use Rattle.std.specs.Prelude.{MatchOption, ⊤}
use Rattle.toc_parts.specs.Parts.{◌>>=◌, raised_at}
use Rattle.toc_layout.specs.declared.fault.ArchiveFault.{ArchiveFault}
use Rattle.toc_layout.specs.declared.fault.ArchiveFault.TheVariants as faults
use Rattle.toc_layout.specs.Heads.{HeadFields, head_in}
use Rattle.fmt_directory.specs.Directories.{entries_behind, is_directory, of_format, toc_dat_in}

pub this_format : (folder bytes : List ℕ) (h : HeadFields) (rest : List ℕ) → raised_at faults.Head (head_in bytes) ≡ Ok (h, rest) → is_directory h.format ≡ true → toc_dat_in folder bytes ≡ entries_behind (length bytes) folder h rest
unfolding toc_dat_in
this_format folder bytes h rest e same = ap (λ r. r >>= λ x. of_format (length bytes) folder x.0 x.1) e ∙ rw same refl

pub fails : (folder bytes : List ℕ) (h : HeadFields) (rest : List ℕ) (fault : Option ArchiveFault) → raised_at faults.Head (head_in bytes) ≡ Ok (h, rest) → is_directory h.format ≡ true
    → MatchOption fault ⊤ (λ f. entries_behind (length bytes) folder h rest ≡ Err f) → MatchOption fault ⊤ (λ f. toc_dat_in folder bytes ≡ Err f)
fails folder bytes h rest None e same is = tt
fails folder bytes h rest (Some f) e same is = this_format folder bytes h rest e same ∙ is
