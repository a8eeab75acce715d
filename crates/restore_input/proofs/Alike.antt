-- What a restore reads, and what its script is made of, fail alike.
use Rattle.std.proofs.Common.{◌≡◌, ℕ, Bool, true, false, List, [], ◌∷◌, ◌++◌, Option, Some, None, Result, Ok, Err, refl, ap, sym, ◌∙◌, if◌then◌else◌}
use Rattle.std.specs.List.{slice_get}
use Rattle.std.specs.Option.{option_map, option_to_list}
use Rattle.dump_ports.specs.Tree.{Tree, text_at}
use Rattle.toc_parts.specs.Parts.{◌>>=◌}
use Rattle.toc_entry.specs.declared.entry.Entry.{Entry}
use Rattle.toc_table.specs.Ids.{is_among}
use Rattle.toc_table.specs.Tables.{ids_with_rows}
use Rattle.entry_choices.specs.declared.options.Options.{Options}
use Rattle.list_files.specs.Lists.{entries_at}
use Rattle.fmt_custom.specs.Customs.{Custom, custom_in}
use Rattle.fmt_directory.specs.declared.fault.DirFault.{DirFault}
use Rattle.fmt_directory.specs.declared.fault.DirFault.TheVariants as dir
use Rattle.fmt_directory.specs.Directories.{Directory, directory_in, rows_name, found, text_by}
use Rattle.fmt_text.specs.Parts.{part}
use Rattle.fmt_text.specs.Script.{script_end}
use Rattle.archive_scripts.specs.Scripts.{head_text}
use Rattle.archive_scripts.specs.Directories.{rows_within, rows_len, counted, part_due, parts_due, directory_script, toc_len}
use Rattle.restore_texts.specs.declared.asked.Wish.TheVariants as wish
use Rattle.restore_texts.specs.declared.asked.ArchiveFormat.{ArchiveFormat}
use Rattle.restore_texts.specs.declared.fault.TextLimit.TheVariants as limit
use Rattle.restore_texts.specs.declared.fault.TextFault.{TextFault}
use Rattle.restore_texts.specs.declared.fault.TextFault.TheVariants as faults
use Rattle.restore_texts.specs.Faults.{of_directory}
use Rattle.restore_texts.specs.Texts.{file_due, places_due, in_archive, in_directory, is_directory, custom_due, directory_due, file_text_due, archive_due}
use Rattle.restore_input.specs.Inputs.{input, with_text, texts_due, directory_input, custom_input_due, directory_input_due, file_input_due, input_due, behind_directory}
use Rattle.restore_input.specs.Inputs as inputs
use Rattle.restore_texts.specs.Texts as texts
use Rattle.restore_input.specs.Laws.{fault_of}

-- steps behind one that fail alike make wholes that do
behind : {A B C : Type 0} (r : Result A TextFault) (f : A → Result B TextFault) (g : A → Result C TextFault) → ((x : A) → fault_of (f x) ≡ fault_of (g x)) → fault_of (r >>= f) ≡ fault_of (r >>= g)
behind (Ok x) f g alike = alike x
behind (Err fault) f g alike = refl

-- ---- directories

abbrev dir_fault : {A : Type 0} → Result A DirFault → Option DirFault
dir_fault (Ok x) = None
dir_fault (Err fault) = Some fault

told : {A : Type 0} (r : Result A DirFault) → fault_of (in_directory r) ≡ option_map of_directory (dir_fault r)
told (Ok x) = refl
told (Err fault) = refl

-- what is made of a value fails as it does
made : {A B : Type 0} (r : Result A DirFault) (f : A → B) → dir_fault (r >>= λ x. Ok (f x)) ≡ dir_fault r
made (Ok x) f = refl
made (Err fault) f = refl

abbrev Same : Bool → Directory → Tree → List ℕ → Type 0
Same owners d tree places = (used : ℕ) (text : List ℕ) → dir_fault (texts_due d tree used (entries_at d.entries places)) ≡ dir_fault (parts_due owners d tree used text places)

-- the part of an entry that is shown with its rows
abbrev part_of : (Option (List ℕ) → List ℕ) → Option (List ℕ) × ℕ → Result (List ℕ × ℕ) DirFault
part_of shown x = Ok (shown x.0, x.1)

at_rows : (owners : Bool) (d : Directory) (tree : Tree) (places text : List ℕ) (shown : Option (List ℕ) → List ℕ) (rows : Result (Option (List ℕ) × ℕ) DirFault) → Same owners d tree places →
    dir_fault (rows >>= λ x. with_text x.0 (texts_due d tree x.1 (entries_at d.entries places))) ≡ dir_fault (rows >>= part_of shown >>= λ p. parts_due owners d tree p.1 (text ++ p.0) places)
at_rows owners d tree places text shown (Ok x) same = made (texts_due d tree x.1 (entries_at d.entries places)) (λ (texts : List (Option (List ℕ))). x.0 ∷ texts) ∙ same x.1 (text ++ shown x.0)
at_rows owners d tree places text shown (Err fault) same = refl

at_place : (owners : Bool) (d : Directory) (tree : Tree) (places : List ℕ) (used : ℕ) (text : List ℕ) (o : Option Entry) → Same owners d tree places →
    dir_fault (texts_due d tree used (option_to_list o ++ entries_at d.entries places)) ≡ dir_fault (part_due owners d tree used o >>= λ p. parts_due owners d tree p.1 (text ++ p.0) places)
unfolding texts_due
at_place owners d tree places used text None same = same used (text ++ [])
at_place owners d tree places used text (Some e) same = at_rows owners d tree places text (part owners e) (rows_within d tree used e.dump_id) same

same_parts : (owners : Bool) (d : Directory) (tree : Tree) (places : List ℕ) → Same owners d tree places
unfolding texts_due parts_due
same_parts owners d tree [] = λ used text. refl
same_parts owners d tree (i ∷ places) = λ used text. at_place owners d tree places used text (slice_get d.entries i) (same_parts owners d tree places)

same_directory : (owners : Bool) (d : Directory) (tree : Tree) (used : ℕ) (places : List ℕ) → fault_of (in_directory (directory_input d tree used places)) ≡ fault_of (in_directory (directory_script owners d tree used places))
unfolding directory_script
same_directory owners d tree used places =
    told (directory_input d tree used places)
    ∙ ap (option_map of_directory)
    (made (texts_due d tree used (entries_at d.entries places)) (input (entries_at d.entries places))
    ∙ same_parts owners d tree places used (head_text d.head)
    ∙ sym (made (parts_due owners d tree used (head_text d.head) places) (λ (text : List ℕ). text ++ script_end)))
    ∙ sym (told (directory_script owners d tree used places))

-- ---- the whole

same_custom : (o : Options) (list : Option (List ℕ)) (tree : Tree) (bytes : List ℕ) → fault_of (custom_input_due o list tree bytes) ≡ fault_of (custom_due wish.Script o list tree bytes)
unfolding custom_input_due custom_due
same_custom o list tree bytes =
    behind (in_archive (custom_in bytes)) (inputs.behind_custom o list tree) (texts.behind_custom wish.Script o list tree)
    (λ (custom : Custom). behind (places_due o custom.entries list tree) (λ places. Ok (inputs.custom_input custom places)) (λ places. Ok (texts.custom_text wish.Script o custom places)) (λ places. refl))

same_folder : (o : Options) (list : Option (List ℕ)) (tree : Tree) (folder : List ℕ) → fault_of (directory_input_due o list tree folder) ≡ fault_of (directory_due wish.Script o list tree folder)
unfolding directory_input_due directory_due
same_folder o list tree folder =
    behind (in_directory (directory_in folder tree)) (inputs.behind_directory o list tree (toc_len folder tree)) (texts.behind_directory wish.Script o list tree (toc_len folder tree))
    (λ (d : Directory). behind (places_due o d.entries list tree) (λ places. in_directory (directory_input d tree (toc_len folder tree) places)) (λ places. in_directory (directory_script o.owners d tree (toc_len folder tree) places)) (λ places. same_directory o.owners d tree (toc_len folder tree) places))

same_file : (o : Options) (list : Option (List ℕ)) (tree : Tree) (path : List ℕ) → fault_of (file_input_due o list tree path) ≡ fault_of (file_text_due wish.Script o list tree path)
unfolding file_input_due file_text_due
same_file o list tree path = behind (file_due limit.Archive path tree) (custom_input_due o list tree) (λ bytes. custom_due wish.Script o list tree bytes) (same_custom o list tree)

by_format : (b : Bool) (o : Options) (list : Option (List ℕ)) (tree : Tree) (path : List ℕ) →
    fault_of (if b then directory_input_due o list tree path else file_input_due o list tree path) ≡ fault_of (if b then directory_due wish.Script o list tree path else file_text_due wish.Script o list tree path)
by_format true o list tree path = same_folder o list tree path
by_format false o list tree path = same_file o list tree path

pub same_faults : (o : Options) (list : Option (List ℕ)) (f : Option ArchiveFormat) (tree : Tree) (path : List ℕ) → fault_of (input_due o list f tree path) ≡ fault_of (archive_due wish.Script o list f tree path)
same_faults o list f tree path = by_format (is_directory f path tree) o list tree path

-- ---- a file that is absent

rows_absent : (d : Directory) (tree : Tree) (used id : ℕ) → is_among (ids_with_rows [] d.entries) id ≡ true → text_at tree (rows_name d.folder id) ≡ None → rows_within d tree used id ≡ Err (dir.Missing (rows_name d.folder id))
unfolding rows_within
rows_absent d tree used id has none =
    ap (λ (b : Bool). (if b then found (text_by (rows_name d.folder id) (text_at tree (rows_name d.folder id))) else Ok None) >>= λ rows. counted used (rows_len rows) >>= λ n. Ok (rows, n)) has
    ∙ ap (λ (o : Option (List ℕ)). found (text_by (rows_name d.folder id) o) >>= λ rows. counted used (rows_len rows) >>= λ n. Ok (rows, n)) none

first_absent : (d : Directory) (tree : Tree) (used : ℕ) (i : ℕ) (places : List ℕ) (e : Entry) → slice_get d.entries i ≡ Some e → is_among (ids_with_rows [] d.entries) e.dump_id ≡ true → text_at tree (rows_name d.folder e.dump_id) ≡ None →
    directory_input d tree used (i ∷ places) ≡ Err (dir.Missing (rows_name d.folder e.dump_id))
unfolding texts_due
first_absent d tree used i places e there has none =
    ap (λ (o : Option Entry). texts_due d tree used (option_to_list o ++ entries_at d.entries places) >>= λ texts. Ok (input (option_to_list o ++ entries_at d.entries places) texts)) there
    ∙ ap (λ (r : Result (Option (List ℕ) × ℕ) DirFault). (r >>= λ x. with_text x.0 (texts_due d tree x.1 (entries_at d.entries places))) >>= λ texts. Ok (input (e ∷ entries_at d.entries places) texts)) (rows_absent d tree used e.dump_id has none)

pub absent : (o : Options) (list : Option (List ℕ)) (tree : Tree) (folder : List ℕ) (d : Directory) (i : ℕ) (places : List ℕ) (e : Entry)
    → in_directory (directory_in folder tree) ≡ Ok d → places_due o d.entries list tree ≡ Ok (i ∷ places) → slice_get d.entries i ≡ Some e
    → is_among (ids_with_rows [] d.entries) e.dump_id ≡ true → text_at tree (rows_name d.folder e.dump_id) ≡ None
    → directory_input_due o list tree folder ≡ Err (faults.Missing (rows_name d.folder e.dump_id))
unfolding directory_input_due
absent o list tree folder d i places e archive chosen there has none =
    ap (λ (r : Result Directory TextFault). r >>= behind_directory o list tree (toc_len folder tree)) archive
    ∙ ap (λ (r : Result (List ℕ) TextFault). r >>= λ places. in_directory (directory_input d tree (toc_len folder tree) places)) chosen
    ∙ ap in_directory (first_absent d tree (toc_len folder tree) i places e there has none)
