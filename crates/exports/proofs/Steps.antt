-- How the steps of reading an export make the whole.
use Rattle.std.proofs.Common.{◌≡◌, ℕ, List, Option, Result, Ok, Err, None, Some, refl, ap, sym, subst, ◌∙◌}
use Rattle.dump_ports.specs.Tree.{Tree}
use Rattle.cat_model.specs.Values.{Bytes}
use Rattle.cat_rows.specs.declared.cell.Cell.{Cell}
use Rattle.cat_rows.specs.declared.catalogue.Catalogue.{Catalogue}
use Rattle.cat_names.specs.declared.fault.CatFault.{CatFault}
use Rattle.cat_names.specs.declared.fault.CheckError.{CheckError}
use Rattle.cat_names.specs.declared.fault.CheckError.TheVariants as check
use Rattle.cat_names.specs.DataSets.{TextsByOid}
use Rattle.cat_names.specs.Gives.{IsTableDue}
use Rattle.well_formed.specs.Catalogues.{catalogue_fault}
use Rattle.well_formed.specs.declared.check.WellFormed.{WellFormed}
use Rattle.table_rows.specs.declared.fault.ValuesFault.{ValuesFault}
use Rattle.table_rows.specs.declared.fault.CheckValuesError.{CheckValuesError}
use Rattle.table_rows.specs.declared.fault.CheckValuesError.TheVariants as values
use Rattle.table_rows.specs.Values.{values_fault, GivesCheck}
use Rattle.folder_io.specs.declared.fault.FolderFault.{FolderFault}
use Rattle.folder_io.specs.declared.fault.FolderFault.TheVariants as folders
use Rattle.folder_io.specs.Answers.{IsDue as IsFolderDue, CountsRead as CountsFolderRead}
use Rattle.folder_io.specs.Folders.{bytes_of, catalogue_of, catalogue_rows}
use Rattle.folder_rows.specs.Reading.{data_of}
use Rattle.tool_words.specs.declared.outcome.Outcome.{Outcome}
use Rattle.tool_words.specs.declared.outcome.Outcome.TheVariants as outcomes
use Rattle.tool_words.specs.Answers.{◌>>=◌, IsDue, Gives, CountsRead}
use Rattle.tool_words.proofs.Dues.{due_map}
use Rattle.tool_words.specs.Outcomes.{folder_outcome, fault_outcome, check_outcome, check_values_outcome}
use Rattle.exports.specs.Cells.{catalogue_with}
use Rattle.exports.specs.Exports.{Exported, told, well_formed, have_rows, formed_with, formed_of, texts_with, texts_of, held, export_with, export_of}
use Rattle.exports.proofs.Cells.{catalogue_is}

-- an outcome is due of itself
due_itself : (Y : Type 0) (o : Outcome) → IsDue {Y = Y} o (Err o)
due_itself Y outcomes.Done = refl
due_itself Y (outcomes.Usage word kind) = refl
due_itself Y outcomes.ReadFault = tt
due_itself Y outcomes.WriteFault = tt
due_itself Y (outcomes.Missing name) = refl
due_itself Y (outcomes.BadExport file line kind) = refl
due_itself Y (outcomes.BadScript fault) = refl
due_itself Y (outcomes.OutOfProfile what) = refl
due_itself Y (outcomes.TooLarge what n) = refl
due_itself Y (outcomes.Differs key) = refl
due_itself Y (outcomes.ScriptStopped stop) = refl
due_itself Y (outcomes.BadArchive fault) = refl
due_itself Y (outcomes.BadList fault) = refl
due_itself Y (outcomes.BadDefn entry fault) = refl
due_itself Y (outcomes.WithErrors errors) = refl
due_itself Y (outcomes.RestoreStopped stop) = refl
due_itself Y (outcomes.Loop path) = refl
due_itself Y (outcomes.NoMatch pattern) = refl
due_itself Y outcomes.Memory = tt

-- a fault of the folder that is due, told as its outcome, is due of what follows
pub told_due : {A B : Type 0} (fault : FolderFault) (due : Result A FolderFault) (next : A → Result B Outcome) → IsFolderDue fault due → IsDue {Y = B} (folder_outcome fault) (told due >>= next)
told_due folders.Failed due next d = tt
told_due (folders.Missing name) due next d = rw d refl
told_due (folders.BadExport file line kind) due next d = rw d refl
told_due (folders.TooLarge limit n) due next d = rw d refl
told_due folders.Memory due next d = tt

-- and so is its count
pub told_count : (fault : FolderFault) (before after : ℕ) → CountsFolderRead {X = TextsByOid} (Err fault) before after → CountsRead {X = Exported} (Err (folder_outcome fault)) before after
told_count folders.Failed before after c = c
told_count (folders.Missing name) before after c = c
told_count (folders.BadExport file line kind) before after c = c
told_count (folders.TooLarge limit n) before after c = c
told_count folders.Memory before after c = c

-- what an answer gives of one thing it gives of the same
pub gives_along : (r : Result Exported Outcome) (a b : Result Exported Outcome) → a ≡ b → Gives (λ export. export) r a → Gives (λ export. export) r b
gives_along r a b e = subst (Gives (λ (export : Exported). export) r) e

-- the catalogue was read
pub catalogue_read : (folder : Bytes) (tree : Tree) (cat : Catalogue) → catalogue_of folder tree ≡ Ok (catalogue_rows cat) → export_of folder tree ≡ export_with folder (bytes_of folder tree) cat tree
unfolding export_of
catalogue_read folder tree cat e =
    ap (λ r. told r >>= λ tables. export_with folder (bytes_of folder tree) (catalogue_with tables) tree) e
    ∙ ap (λ c. export_with folder (bytes_of folder tree) c tree) (catalogue_is cat)

pub tables_read : (folder : Bytes) (tree : Tree) (cat : Catalogue) → catalogue_of folder tree ≡ Ok (catalogue_rows cat) → texts_of folder tree ≡ texts_with folder (bytes_of folder tree) cat tree
unfolding texts_of
tables_read folder tree cat e =
    ap (λ r. told r >>= λ tables. texts_with folder (bytes_of folder tree) (catalogue_with tables) tree) e
    ∙ ap (λ c. texts_with folder (bytes_of folder tree) c tree) (catalogue_is cat)

-- the catalogue wasn't read
pub catalogue_refused : (folder : Bytes) (tree : Tree) (fault : FolderFault) → IsFolderDue fault (catalogue_of folder tree) → IsDue (folder_outcome fault) (texts_of folder tree)
unfolding texts_of
catalogue_refused folder tree fault d = told_due fault (catalogue_of folder tree) (λ tables. texts_with folder (bytes_of folder tree) (catalogue_with tables) tree) d

-- the same of the catalogue alone
pub formed_read : (folder : Bytes) (tree : Tree) (cat : Catalogue) → catalogue_of folder tree ≡ Ok (catalogue_rows cat) → formed_of folder tree ≡ formed_with cat
unfolding formed_of
formed_read folder tree cat e = ap (λ r. told r >>= λ tables. formed_with (catalogue_with tables)) e ∙ ap formed_with (catalogue_is cat)

pub formed_refused : (folder : Bytes) (tree : Tree) (fault : FolderFault) → IsFolderDue fault (catalogue_of folder tree) → IsDue (folder_outcome fault) (formed_of folder tree)
unfolding formed_of
formed_refused folder tree fault d = told_due fault (catalogue_of folder tree) (λ tables. formed_with (catalogue_with tables)) d

-- it isn't well-formed, or memory ran out
pub unformed_due : (cat : Catalogue) (error : CheckError) → IsTableDue error (catalogue_fault cat) → IsDue (check_outcome error) (formed_with cat)
unformed_due cat check.Memory d = tt
unformed_due cat (check.Fault fault) d = rw d (due_itself Catalogue (fault_outcome fault fault.kind))

-- what an answer gives of one thing it gives of the same
pub formed_along : (r : Result WellFormed Outcome) (a b : Result Catalogue Outcome) → a ≡ b → Gives (λ cat. cat) r a → Gives (λ cat. cat) r b
formed_along r a b e = subst (Gives (λ (cat : WellFormed). cat) r) e

-- the catalogue isn't well-formed, or memory ran out
pub check_due : (folder : Bytes) (used : ℕ) (cat : Catalogue) (tree : Tree) (error : CheckError) → IsTableDue error (catalogue_fault cat) → IsDue (check_outcome error) (texts_with folder used cat tree)
unfolding texts_with
check_due folder used cat tree check.Memory d = tt
check_due folder used cat tree (check.Fault fault) d = rw d (due_itself Exported (fault_outcome fault fault.kind))

abbrev made : Catalogue → TextsByOid → Exported
made cat rows = record { cat = cat; rows = rows }

-- the texts behind a catalogue that is well-formed
abbrev with_rows : Catalogue → Result TextsByOid FolderFault → Result Exported Outcome
with_rows cat read = told read >>= λ rows. Ok (made cat rows)

-- and an export, where this is what is wrong with them
abbrev held_with : Exported → Option ValuesFault → Result Exported Outcome
held_with texts found = have_rows found >>= λ done. Ok texts

texts_formed : (folder : Bytes) (used : ℕ) (cat : Catalogue) (tree : Tree) → catalogue_fault cat ≡ None → texts_with folder used cat tree ≡ with_rows cat (data_of folder used cat tree)
unfolding texts_with
texts_formed folder used cat tree none = ap (λ found. well_formed found >>= λ formed. with_rows cat (data_of folder used cat tree)) none

-- the data files weren't read
pub rows_due : (folder : Bytes) (used : ℕ) (cat : Catalogue) (tree : Tree) (fault : FolderFault) → catalogue_fault cat ≡ None → IsFolderDue fault (data_of folder used cat tree) → IsDue (folder_outcome fault) (texts_with folder used cat tree)
rows_due folder used cat tree fault none d =
    subst (IsDue (folder_outcome fault)) (sym (texts_formed folder used cat tree none))
    (told_due fault (data_of folder used cat tree) (λ rows. Ok (made cat rows)) d)

-- all is read
pub texts_read : (folder : Bytes) (used : ℕ) (cat : Catalogue) (tree : Tree) (rows : TextsByOid) → catalogue_fault cat ≡ None → data_of folder used cat tree ≡ Ok rows → texts_with folder used cat tree ≡ Ok (record { cat = cat; rows = rows })
texts_read folder used cat tree rows none e = texts_formed folder used cat tree none ∙ ap (with_rows cat) e

-- the texts don't hold rows of their tables, or memory ran out
pub values_due : (cat : Catalogue) (rows : TextsByOid) (error : CheckValuesError) → GivesCheck (Err error) (values_fault cat rows) → IsDue (check_values_outcome error) (held (record { cat = cat; rows = rows }))
values_due cat rows values.Memory d = tt
values_due cat rows (values.Fault fault) d = ap (held_with (made cat rows)) d

-- ---- an export is texts that hold rows

with_held : (cat : Catalogue) (found : Option CatFault) (read : Result TextsByOid FolderFault)
    → (well_formed found >>= λ formed. told read >>= λ rows. held_with (made cat rows) (values_fault cat rows)) ≡ ((well_formed found >>= λ formed. with_rows cat read) >>= held)
with_held cat (Some fault) read = refl
with_held cat None (Err fault) = refl
with_held cat None (Ok rows) = refl

export_held : (folder : Bytes) (used : ℕ) (cat : Catalogue) (tree : Tree) → export_with folder used cat tree ≡ (texts_with folder used cat tree >>= held)
unfolding export_with texts_with
export_held folder used cat tree = with_held cat (catalogue_fault cat) (data_of folder used cat tree)

behind_tables : (read : Result (List (List (List Cell))) FolderFault) (a b : Catalogue → Result Exported Outcome) → ((cat : Catalogue) → a cat ≡ (b cat >>= held))
    → (told read >>= λ tables. a (catalogue_with tables)) ≡ ((told read >>= λ tables. b (catalogue_with tables)) >>= held)
behind_tables (Err fault) a b same = refl
behind_tables (Ok tables) a b same = same (catalogue_with tables)

pub texts_lead : (folder : Bytes) (tree : Tree) → export_of folder tree ≡ (texts_of folder tree >>= held)
unfolding export_of texts_of
texts_lead folder tree =
    behind_tables (catalogue_of folder tree) (λ cat. export_with folder (bytes_of folder tree) cat tree) (λ cat. texts_with folder (bytes_of folder tree) cat tree)
    (λ cat. export_held folder (bytes_of folder tree) cat tree)

-- the texts were read
pub texts_held : (folder : Bytes) (tree : Tree) (texts : Exported) → texts_of folder tree ≡ Ok texts → export_of folder tree ≡ held texts
texts_held folder tree texts e = texts_lead folder tree ∙ ap (λ (r : Result Exported Outcome). r >>= held) e

-- they weren't
pub texts_refused : (outcome : Outcome) (folder : Bytes) (tree : Tree) → IsDue outcome (texts_of folder tree) → IsDue outcome (export_of folder tree)
texts_refused outcome folder tree due =
    due_map outcome (texts_of folder tree) (export_of folder tree) (λ o e. texts_lead folder tree ∙ ap (λ (r : Result Exported Outcome). r >>= held) e) due

-- all is read, and the texts hold rows
pub export_read : (folder : Bytes) (used : ℕ) (cat : Catalogue) (tree : Tree) (rows : TextsByOid) → catalogue_fault cat ≡ None → data_of folder used cat tree ≡ Ok rows → values_fault cat rows ≡ None → export_with folder used cat tree ≡ Ok (record { cat = cat; rows = rows })
export_read folder used cat tree rows none e f =
    export_held folder used cat tree
    ∙ ap (λ (r : Result Exported Outcome). r >>= held) (texts_read folder used cat tree rows none e)
    ∙ ap (held_with (made cat rows)) f
