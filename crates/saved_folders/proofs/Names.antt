-- Which file of a folder has which name, and what the files of a folder hold once they are written.
use Rattle.std.proofs.Common.{◌≡◌, ℕ, ◌<◌, ◌^◌, Bool, true, false, cond, ◌||◌, List, [], ◌∷◌, ◌++◌, map, drop, Option, Some, None, refl, sym, ap, ◌∙◌, codes, decimal, inl, inr, ◌⊎◌, arith}
use Rattle.std.specs.Ordering.{nat_cmp, eq_by_cmp, is_eq, ordering_then}
use Rattle.std.specs.declared.cmp.Ordering.{Ordering}
use Rattle.std.specs.declared.cmp.Ordering.TheVariants.{Less, Equal, Greater}
use Rattle.std.specs.Cmp.{nat_cmp_total, eq_by_cmp_equiv}
use Rattle.std.specs.Cmp.Lexicographic.{slice_cmp, nat_list_cmp_total}
use Rattle.std.specs.FinMap.{insert, get-insert, nat_cmp-IsAntisymmetric, slice_cmp-IsAntisymmetric}
use Rattle.std.specs.List.{list_any, AllByRecursion}
use Rattle.std.proofs.lemmas.Bool.{true≢false, false≢true}
use Rattle.std.proofs.lemmas.Cmp.{tied_itself}
use Rattle.std.proofs.lemmas.Fmt.{decimal_injective}
use Rattle.std.proofs.lemmas.List.{append_cancel_right}
use Rattle.dump_ports.specs.Tree.{Tree, text_at}
use Rattle.cat_rows.specs.declared.table.SysTable.{SysTable}
use Rattle.cat_rows.specs.declared.table.SysTable.TheVariants.{PgAuthid, PgAuthMembers, PgDatabase, PgNamespace, PgType, PgEnum, PgClass, PgAttribute, PgAttrdef, PgConstraint, PgIndex, PgSequence, PgRewrite, PgDescription, PgDepend}
use Rattle.cat_rows.specs.Kinds.{table_file}
use Rattle.folder_io.specs.declared.file.ExportFile.{ExportFile}
use Rattle.folder_io.specs.declared.file.ExportFile.TheVariants.{Marker, Table, Data}
use Rattle.folder_io.specs.Folders.{Bytes, all_tables, file_name, file_of}
use Rattle.saved_folders.specs.Files.{File, saved}

-- ---- names

-- whether two names are one
abbrev pub same : Bytes → Bytes → Bool
same a b = eq_by_cmp (slice_cmp nat_cmp) a b

equal : (o : Ordering) → is_eq o ≡ true → o ≡ Equal
equal Less e = absurd (true≢false (sym e))
equal Equal e = refl
equal Greater e = absurd (true≢false (sym e))

pub one_name : (a b : Bytes) → same a b ≡ true → a ≡ b
one_name a b e = slice_cmp-IsAntisymmetric nat_cmp-IsAntisymmetric a b (equal (slice_cmp nat_cmp a b) e)

pub itself : (a : Bytes) → same a a ≡ true
itself a = (eq_by_cmp_equiv nat_list_cmp_total).refl a

-- two paths in one folder are one where the names are
behind_front : (front a b : Bytes) → same (front ++ a) (front ++ b) ≡ same a b
behind_front [] a b = refl
behind_front (c ∷ front) a b = ap (λ o. is_eq (ordering_then o (slice_cmp nat_cmp (front ++ a) (front ++ b)))) (tied_itself nat_cmp_total c) ∙ behind_front front a b

pub in_folder : (folder : Bytes) (a b : ExportFile) → same (file_of folder a) (file_of folder b) ≡ same (file_name a) (file_name b)
in_folder folder a b = behind_front (folder ++ codes "/") (file_name a) (file_name b)

-- ---- the files of a folder

-- the first table of this file
abbrev table_in : Bytes → List SysTable → Option SysTable
table_in name [] = None
table_in name (table ∷ tables) = cond (same name (table_file table)) (Some table) (table_in name tables)

found : (table : SysTable) → table_in (table_file table) all_tables ≡ Some table
found PgAuthid = refl
found PgAuthMembers = refl
found PgDatabase = refl
found PgNamespace = refl
found PgType = refl
found PgEnum = refl
found PgClass = refl
found PgAttribute = refl
found PgAttrdef = refl
found PgConstraint = refl
found PgIndex = refl
found PgSequence = refl
found PgRewrite = refl
found PgDescription = refl
found PgDepend = refl

pub one_table : (a b : SysTable) → same (table_file a) (table_file b) ≡ true → a ≡ b
one_table a b e =
    let both : Some a ≡ Some b = sym (found a) ∙ ap (λ name. table_in name all_tables) (one_name (table_file a) (table_file b) e) ∙ found b in
    cc

-- a data file isn't that of a table, nor the marker, and the marker isn't that of a table
pub data_or_table : (oid : ℕ) (table : SysTable) → same (file_name (Data oid)) (file_name (Table table)) ≡ false
data_or_table oid PgAuthid = refl
data_or_table oid PgAuthMembers = refl
data_or_table oid PgDatabase = refl
data_or_table oid PgNamespace = refl
data_or_table oid PgType = refl
data_or_table oid PgEnum = refl
data_or_table oid PgClass = refl
data_or_table oid PgAttribute = refl
data_or_table oid PgAttrdef = refl
data_or_table oid PgConstraint = refl
data_or_table oid PgIndex = refl
data_or_table oid PgSequence = refl
data_or_table oid PgRewrite = refl
data_or_table oid PgDescription = refl
data_or_table oid PgDepend = refl

pub data_or_marker : (oid : ℕ) → same (file_name (Data oid)) (file_name Marker) ≡ false
data_or_marker oid = refl

pub marker_or_table : (table : SysTable) → same (file_name Marker) (file_name (Table table)) ≡ false
marker_or_table PgAuthid = refl
marker_or_table PgAuthMembers = refl
marker_or_table PgDatabase = refl
marker_or_table PgNamespace = refl
marker_or_table PgType = refl
marker_or_table PgEnum = refl
marker_or_table PgClass = refl
marker_or_table PgAttribute = refl
marker_or_table PgAttrdef = refl
marker_or_table PgConstraint = refl
marker_or_table PgIndex = refl
marker_or_table PgSequence = refl
marker_or_table PgRewrite = refl
marker_or_table PgDescription = refl
marker_or_table PgDepend = refl

pub flipped : (a b : Bytes) → same a b ≡ same b a
flipped a b = (eq_by_cmp_equiv nat_list_cmp_total).symm a b

-- the data files of two oids are apart
pub one_oid : (a b : ℕ) → a < 2 ^ 32 → b < 2 ^ 32 → same (file_name (Data a)) (file_name (Data b)) ≡ true → a ≡ b
one_oid a b small_a small_b e =
    let names : codes "data/" ++ decimal a ++ codes ".copy" ≡ codes "data/" ++ decimal b ++ codes ".copy" = one_name (file_name (Data a)) (file_name (Data b)) e in
    let ends : decimal a ++ codes ".copy" ≡ decimal b ++ codes ".copy" = ap (drop 5) names in
    decimal_injective a b (omega (arith, small_a)) (omega (arith, small_b)) (append_cancel_right (decimal a) (decimal b) (codes ".copy") ends)

-- ---- what files hold once they are written

-- whether one of the files has this name
abbrev pub has_name : Bytes → List File → Bool
has_name name files = list_any (λ file. same name file.name) files

-- each of the files that has this name has this text
abbrev pub Agree : Bytes → Bytes → List File → Type 0
Agree name text files = AllByRecursion (λ file. same name file.name ≡ true → file.text ≡ text) files

-- where some have the name and agree on the text, it is held
pub held : (files : List File) (tree : Tree) (name text : Bytes) → Agree name text files → (text_at tree name ≡ Some text) ⊎ (has_name name files ≡ true) → text_at (saved files tree) name ≡ Some text
held [] tree name text agree (inl is) = is
held [] tree name text agree (inr none) = absurd (false≢true none)
held (file ∷ files) tree name text agree there = held files (insert tree file.name file.text) name text agree.1 (by (same name file.name) refl there)
  where
    put : (b : Bool) → same name file.name ≡ b → text_at (insert tree file.name file.text) name ≡ cond b (Some file.text) (text_at tree name)
    put b is = get-insert nat_list_cmp_total tree file.name file.text name ∙ ap (λ (c : Bool). cond c (Some file.text) (text_at tree name)) is

    by : (b : Bool) → same name file.name ≡ b → (text_at tree name ≡ Some text) ⊎ (has_name name (file ∷ files) ≡ true) → (text_at (insert tree file.name file.text) name ≡ Some text) ⊎ (has_name name files ≡ true)
    by true is there = inl (put true is ∙ ap Some (agree.0 is))
    by false is (inl e) = inl (put false is ∙ e)
    by false is (inr e) = inr (ap (λ (c : Bool). c || has_name name files) (sym is) ∙ e)

-- ---- two lists of files

pub agree_both : (name text : Bytes) (xs ys : List File) → Agree name text xs → Agree name text ys → Agree name text (xs ++ ys)
agree_both name text [] ys one other = other
agree_both name text (x ∷ xs) ys one other = (one.0, agree_both name text xs ys one.1 other)

pub has_first : (name : Bytes) (xs ys : List File) → has_name name xs ≡ true → has_name name (xs ++ ys) ≡ true
has_first name [] ys e = absurd (false≢true e)
has_first name (x ∷ xs) ys e = by (same name x.name) (has_first name xs ys) e
  where
    by : (b : Bool) → (has_name name xs ≡ true → has_name name (xs ++ ys) ≡ true) → (b || has_name name xs) ≡ true → (b || has_name name (xs ++ ys)) ≡ true
    by true more e = refl
    by false more e = more e

pub has_second : (name : Bytes) (xs ys : List File) → has_name name ys ≡ true → has_name name (xs ++ ys) ≡ true
has_second name [] ys e = e
has_second name (x ∷ xs) ys e = by (same name x.name) (has_second name xs ys e)
  where
    by : (b : Bool) → has_name name (xs ++ ys) ≡ true → (b || has_name name (xs ++ ys)) ≡ true
    by true e = refl
    by false e = e

-- files of other names agree
pub others_agree : {A : Type 0} (file : A → File) (name text : Bytes) → ((x : A) → same name (file x).name ≡ false) → (xs : List A) → Agree name text (map file xs)
others_agree file name text apart [] = tt
others_agree file name text apart (x ∷ xs) = (λ e. absurd (true≢false (sym e ∙ apart x)), others_agree file name text apart xs)
