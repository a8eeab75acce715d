-- What pg_restore writes of a dump in the custom format.
use Rattle.std.proofs.Common.{◌≡◌, ℕ, ◌+◌, ◌<◌, ◌≤◌, Bool, false, cond, ◌^◌, ◌++◌, List, map, length, Option, Some, None, Ok, Err, sym, ap, subst, ◌∙◌, arith, length-append}
use Rattle.std.proofs.lemmas.Bool.{le-leb}
use Rattle.dump_ports.specs.Tree.{Tree, text_at}
use Rattle.toc_parts.specs.Parts.{◌>>=◌}
use Rattle.toc_entry.specs.declared.entry.Entry.{Entry}
use Rattle.toc_entry.specs.declared.head.Head.{Head}
use Rattle.toc_layout.specs.Heads.{head_seen}
use Rattle.entry_choices.specs.declared.options.Options.{Options}
use Rattle.fmt_custom.specs.Customs.{custom_in}
use Rattle.fmt_custom.specs.Stored.{entries_of, custom_of}
use Rattle.fmt_custom.proofs.Written.{written_custom, written_rows}
use Rattle.archive_scripts.specs.Scripts.{custom_rows}
use Rattle.archive_entries.specs.Extras.{unplaced}
use Rattle.dump_files.specs.declared.file.DataFile.{DataFile}
use Rattle.dump_plain.specs.Dumps.{plain_out}
use Rattle.fmt_custom.specs.Stored.{blocks_text}
use Rattle.fmt_custom.specs.Writing.{front_text}
use Rattle.dump_plain.specs.Dumps.{Output}
use Rattle.dump_archives.specs.Customs.{blocks_out, first_front, places_from, placed_entries, custom_front, custom_written}
use Rattle.dump_archives.proofs.BlockLemmas.{custom-is}
use Rattle.dump_archives.proofs.PlaceLemmas.{custom_as_long}
use Rattle.output_laws.proofs.PairLemmas.{says_archive, says_written}
use Rattle.restore_texts.specs.declared.asked.Wish.TheVariants as wish
use Rattle.restore_texts.specs.declared.asked.ArchiveFormat.{ArchiveFormat}
use Rattle.restore_texts.specs.declared.fault.TextLimit.TheVariants as limit
use Rattle.restore_texts.specs.declared.fault.TextFault.TheVariants as faults
use Rattle.restore_texts.specs.Texts.{file_by, file_due, in_archive, behind_custom, custom_due, directory_due, is_directory, file_text_due, archive_due}
use Rattle.archive_laws.specs.Restored.{bare, RowsAre, HaveRows, HasVersions, IsRestorable}
use Rattle.archive_laws.proofs.Fitting.{stored_of, have_pieces, stored_entries, rows_alike, unplaced_bare, unplaced_fits, told_bare, placed_fits, rows_held}
use Rattle.archive_laws.proofs.Scripts.{scripted, leaves_none_alike}

pub output_restored : (tree now : Tree) (head plain : Head) (entries : List Entry) (needed : List DataFile) (o : Options) → IsRestorable tree head entries needed o → HasVersions plain (head_seen head) → head.format ≡ 1
    → custom_due wish.Script o None now (custom_written tree None head entries needed) ≡ Ok (plain_out tree plain o.owners entries needed).text
unfolding custom_due
output_restored tree now head plain entries needed o is versions format =
    let written = map unplaced entries in
    let rows = rows_alike tree written entries needed (unplaced_bare entries) is.rows in
    let stored = stored_of tree written needed in
    let h = head_seen head in
    let are = stored_entries tree written needed rows in
    let fits = unplaced_fits tree h entries needed is.archive is.head_type is.entry_types rows format in
    let custom = custom_of h stored in
    let text = (says_written tree None head entries needed stored (have_pieces tree written needed rows)).1 in
    let same = ap (map bare) are ∙ unplaced_bare entries in
    let held = subst (λ (es : List Entry). RowsAre tree (custom_rows custom) es needed) (sym are) (rows_held tree custom.found written needed rows (written_rows h stored fits)) in
    ap (λ r. in_archive r >>= behind_custom wish.Script o None now) (ap custom_in text ∙ written_custom h stored fits)
    ∙ ap (λ (t : List ℕ). Ok t) (scripted tree custom plain entries needed o same held versions (leaves_none_alike o entries (entries_of stored) same is.all))

-- how long the blocks are
blocks_long : (tree : Tree) (head : Head) (entries : List Entry) (needed : List DataFile) → HaveRows tree entries needed → length (blocks_text (stored_of tree entries needed)) ≡ length (blocks_out tree entries needed).text
blocks_long tree head entries needed rows =
    let stored = stored_of tree entries needed in
    let h = head_seen head in
    let front = front_text h entries in
    let same : front ++ (blocks_out tree entries needed).text ≡ front ++ blocks_text stored =
    sym (ap (λ (x : Output). x.text) (custom-is tree head entries needed)) ∙ (says_archive tree head entries needed stored (have_pieces tree entries needed rows)).1
    ∙ ap (λ (es : List Entry). front_text h es ++ blocks_text stored) (stored_entries tree entries needed rows) in
    omega (arith, ap length same, length-append front (blocks_out tree entries needed).text, length-append front (blocks_text stored))

pub file_restored : (tree now : Tree) (name : List ℕ) (head plain : Head) (entries : List Entry) (needed : List DataFile) (o : Options) → IsRestorable tree head entries needed o → HasVersions plain (head_seen head) → head.format ≡ 1
    → length (custom_written tree (Some name) head entries needed) < 2 ^ 64
    → custom_due wish.Script o None now (custom_written tree (Some name) head entries needed) ≡ Ok (plain_out tree plain o.owners entries needed).text
unfolding custom_due
file_restored tree now name head plain entries needed o is versions format short =
    let written = placed_entries tree head entries needed in
    let alike = told_bare entries (places_from tree (length (first_front head entries)) entries needed) in
    let rows = rows_alike tree written entries needed alike is.rows in
    let stored = stored_of tree written needed in
    let h = head_seen head in
    let are = stored_entries tree written needed rows in
    let low : length (first_front head entries) + length (blocks_text (stored_of tree entries needed)) < 2 ^ 64 =
    omega (arith, short, length-append (custom_front tree head entries needed) (blocks_out tree entries needed).text, custom_as_long tree head entries needed, blocks_long tree head entries needed is.rows) in
    let fits = placed_fits tree head entries needed is.archive is.head_type is.entry_types is.rows format low in
    let custom = custom_of h stored in
    let text = (says_written tree (Some name) head entries needed stored (have_pieces tree written needed rows)).1 in
    let same = ap (map bare) are ∙ alike in
    let held = subst (λ (es : List Entry). RowsAre tree (custom_rows custom) es needed) (sym are) (rows_held tree custom.found written needed rows (written_rows h stored fits)) in
    ap (λ r. in_archive r >>= behind_custom wish.Script o None now) (ap custom_in text ∙ written_custom h stored fits)
    ∙ ap (λ (t : List ℕ). Ok t) (scripted tree custom plain entries needed o same held versions (leaves_none_alike o entries (entries_of stored) same is.all))

-- ---- from a path

in_file : (o : Options) (f : Option ArchiveFormat) (now : Tree) (path bytes : List ℕ) → text_at now path ≡ Some bytes → length bytes ≤ 268435456 → is_directory f path now ≡ false → archive_due wish.Script o None f now path ≡ custom_due wish.Script o None now bytes
unfolding file_text_due
in_file o f now path bytes there few no_folder =
    ap (λ (b : Bool). cond b (directory_due wish.Script o None now path) (file_due limit.Archive path now >>= custom_due wish.Script o None now)) no_folder
    ∙ ap (λ (t : Option (List ℕ)). file_by limit.Archive path t >>= custom_due wish.Script o None now) there
    ∙ ap (λ (b : Bool). cond b (Ok bytes) (Err (faults.TooLarge limit.Archive 268435457)) >>= custom_due wish.Script o None now) (le-leb (length bytes) 268435456 few)

pub path_restored : (tree now : Tree) (target : Option (List ℕ)) (path : List ℕ) (f : Option ArchiveFormat) (head plain : Head) (entries : List Entry) (needed : List DataFile) (o : Options) → IsRestorable tree head entries needed o → HasVersions plain (head_seen head) → head.format ≡ 1
    → text_at now path ≡ Some (custom_written tree target head entries needed) → length (custom_written tree target head entries needed) ≤ 268435456 → is_directory f path now ≡ false
    → archive_due wish.Script o None f now path ≡ Ok (plain_out tree plain o.owners entries needed).text
path_restored tree now None path f head plain entries needed o is versions format there few no_folder =
    in_file o f now path (custom_written tree None head entries needed) there few no_folder ∙ output_restored tree now head plain entries needed o is versions format
path_restored tree now (Some name) path f head plain entries needed o is versions format there few no_folder =
    in_file o f now path (custom_written tree (Some name) head entries needed) there few no_folder ∙ file_restored tree now name head plain entries needed o is versions format (omega (arith, few))
