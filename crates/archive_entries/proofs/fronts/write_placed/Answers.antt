use Rattle.std.proofs.Common.{◌++◌, ℕ, length, pos, sym, ap, ◌∙◌, append_assoc}
use Rattle.toc_layout.specs.Entries.{whole}
use Rattle.toc_layout.specs.Heads.{head_seen, head as head_part}
use Rattle.toc_table.specs.Writing.{entries_text}
use Rattle.archive_entries.specs.Extras.{told}
use Rattle.archive_entries.proofs.ExtraLemmas.{grown, told_length}
use Rattle.archive_entries.proofs.fronts.write_placed.Goals as goal

pub returns : goal.returns
returns c =
    let es = c.args.entries.now in
    let top = head_part.write (head_seen c.args.head.now) in
    let count = whole.write (pos (length es)) in
    let whole_toc = entries_text (told es c.args.places.now) in
    grown c.write_placed_entries.result c.args.out.now.items (top ++ count) whole_toc _ c.write_top.new.out.items c.write_placed_entries.new.out.items c.in_ok-write_top.ensures
    (ap (λ (n : ℕ). top ++ (whole.write (pos n) ++ whole_toc)) (told_length es c.args.places.now) ∙ sym (append_assoc top count whole_toc)) c.write_placed_entries.ensures
