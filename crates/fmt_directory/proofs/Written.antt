-- The text that is written of a directory's head and entries reads as they.
use Rattle.std.proofs.Common.{◌≡◌, ℕ, true, false, List, [], ◌++◌, length, Ok, refl, ap, ◌∙◌, subst, append-nil}
use Rattle.toc_parts.specs.Parts.{◌>>=◌, raised_at}
use Rattle.toc_entry.specs.declared.entry.Entry.{Entry}
use Rattle.toc_layout.specs.declared.fault.ArchiveFault.TheVariants as faults
use Rattle.toc_layout.specs.Heads.{HeadFields, head, front, head_in, is_text_dump}
use Rattle.toc_layout.specs.Faults.{placed_head_fault}
use Rattle.toc_layout.specs.Values.{IsHead}
use Rattle.toc_layout.specs.Writable.{HeadCanBeWritten}
use Rattle.toc_layout.proofs.Fitting.{written_head}
use Rattle.toc_table.specs.Tables.{toc, placed_toc_fault}
use Rattle.toc_table.specs.Writing.{toc_text, TocFits}
use Rattle.toc_table.proofs.Written.{written_toc}
use Rattle.fmt_directory.specs.Directories.{ended_by, is_directory, toc_dat_in}
use Rattle.fmt_directory.proofs.Directories.{this_format}

-- a head begins with a P, and a script with a hyphen
no_script : (h : HeadFields) (rest : List ℕ) → is_text_dump (head.write h ++ rest) ≡ false
unfolding is_text_dump head front
no_script h rest = refl

head_is : (h : HeadFields) (rest : List ℕ) → IsHead h → HeadCanBeWritten h → head_in (head.write h ++ rest) ≡ Ok (h, rest)
head_is h rest value can = rw (no_script h rest) (ap (raised_at (placed_head_fault (length (head.write h ++ rest)))) (written_head h rest value can))

toc_is : (es : List Entry) → TocFits true es → (toc true).read (toc_text es) ≡ Ok (es, [])
toc_is es fits = subst (λ (text : List ℕ). (toc true).read text ≡ Ok (es, [])) (append-nil (toc_text es)) (written_toc true es [] fits)

pub written_toc_dat : (folder : List ℕ) (h : HeadFields) (es : List Entry) → IsHead h → HeadCanBeWritten h → is_directory h.format ≡ true → TocFits true es → toc_dat_in folder (head.write h ++ toc_text es) ≡ Ok (record { folder = folder; head = h; entries = es })
written_toc_dat folder h es value can same fits =
    let bytes : List ℕ = head.write h ++ toc_text es in
    this_format folder bytes h (toc_text es) (ap (raised_at faults.Head) (head_is h (toc_text es) value can)) same
    ∙ ap (λ t. raised_at (placed_toc_fault (length bytes)) t >>= λ t. ended_by (length bytes) (record { folder = folder; head = h; entries = t.0 }) (length t.1)) (toc_is es fits)
