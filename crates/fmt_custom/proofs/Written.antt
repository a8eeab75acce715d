-- A whole archive that is written is read.
use Rattle.std.proofs.Common.{◌≡◌, ℕ, ◌+◌, false, List, [], ◌++◌, length, None, Ok, refl, sym, ap, ◌∙◌, append_assoc, arith, length-append}
use Rattle.std.specs.List.{AllByRecursion}
use Rattle.std.proofs.lemmas.Bool.{eq-eqb}
use Rattle.toc_parts.specs.Parts.{raised_at}
use Rattle.toc_layout.specs.declared.fault.ArchiveFault.TheVariants as faults
use Rattle.toc_layout.specs.Faults.{placed_head_fault}
use Rattle.toc_layout.specs.Heads.{HeadFields, head, front, head_in, is_text_dump}
use Rattle.toc_layout.specs.Values.{IsHead}
use Rattle.toc_layout.specs.Writable.{HeadCanBeWritten}
use Rattle.toc_layout.proofs.Fitting.{written_head}
use Rattle.toc_table.specs.Tables.{lefts, placed_toc_fault, ids_with_rows}
use Rattle.toc_table.specs.Writing.{toc_text}
use Rattle.toc_table.proofs.Written.{written_toc}
use Rattle.fmt_custom.specs.Blocks.{placed_block_fault}
use Rattle.fmt_custom.specs.Customs.{raised_to, custom_in, pieces_of}
use Rattle.fmt_custom.specs.Stored.{Stored, entries_of, blocks_text, custom_text, first_place, blocks_at, custom_of, rows_of, CustomFits}
use Rattle.fmt_custom.proofs.Customs.{this_format, blocks_are}
use Rattle.fmt_custom.proofs.Ids.{AreBehind, all_ready}
use Rattle.fmt_custom.proofs.Rereading.{found_again, rows_again, no_fault, first_is_none}

-- a head begins with a P, and a script with a hyphen
no_script : (h : HeadFields) (rest : List ℕ) → is_text_dump (head.write h ++ rest) ≡ false
unfolding is_text_dump head front
no_script h rest = refl

head_is : (h : HeadFields) (rest : List ℕ) → IsHead h → HeadCanBeWritten h → head_in (head.write h ++ rest) ≡ Ok (h, rest)
head_is h rest value can = rw (no_script h rest) (ap (raised_at (placed_head_fault (length (head.write h ++ rest)))) (written_head h rest value can))

nothing_behind : AreBehind [] []
nothing_behind = record { none = λ k new. refl }

pub written_custom : (h : HeadFields) (ss : List Stored) → CustomFits h ss → custom_in (custom_text h ss) ≡ Ok (custom_of h ss)
written_custom h ss fits =
    let es = entries_of ss in
    let blocks = blocks_text ss in
    let bytes = custom_text h ss in
    let len = length bytes in
    let rest : List ℕ = toc_text es ++ blocks in
    let at = first_place h ss in
    let known = ids_with_rows [] es in
    let apart : bytes ≡ head.write h ++ rest = append_assoc (head.write h) (toc_text es) blocks in
    let all : at + length blocks ≡ len = sym (length-append (head.write h ++ toc_text es) blocks) in
    let found = blocks_at at [] ss in
    this_format bytes h rest (ap (λ (x : List ℕ). raised_at faults.Head (head_in x)) apart ∙ ap (raised_at faults.Head) (head_is h rest fits.head fits.can)) (eq-eqb h.format 1 fits.format)
    ∙ blocks_are len h rest es blocks found None (ap (raised_at (placed_toc_fault len)) (written_toc false es blocks fits.toc))
    (ap (raised_to (placed_block_fault len)) (found_again len known (length blocks) at [] [] ss (omega arith) all nothing_behind fits.toc.own (all_ready [] ss fits.toc.each fits.pieces)))
    (first_is_none found len ss (lefts false rest) (no_fault at [] [] ss nothing_behind fits.toc.own fits.offsets))

pub written_rows : (h : HeadFields) (ss : List Stored) → CustomFits h ss → AllByRecursion (λ (s : Stored). pieces_of s.entry.dump_id (custom_of h ss).found ≡ rows_of s) ss
written_rows h ss fits = rows_again (first_place h ss) [] [] ss nothing_behind fits.toc.own
