-- The tables by their numbers, and a catalogue whose tables are read one after another.
use Rattle.std.proofs.Common.{◌≡◌, ℕ, zero, suc, ◌+◌, ◌<◌, List, [], ◌∷◌, ◌++◌, length, take, map, get_or, ◌≤◌, refl, sym, ap, subst, ◌∙◌, arith, add-one}
use Rattle.std.proofs.Math.Seq.{take-suc}
use Rattle.std.proofs.lemmas.List.{map-append, take_all, length-map, get_or-map}
use Rattle.cat_rows.specs.declared.table.SysTable.{SysTable}
use Rattle.cat_rows.specs.declared.table.SysTable.TheVariants.{PgAuthid, PgAuthMembers, PgDatabase, PgNamespace, PgType, PgEnum, PgClass, PgAttribute, PgAttrdef, PgConstraint, PgIndex, PgSequence, PgRewrite, PgDescription, PgDepend}
use Rattle.cat_rows.specs.declared.cell.Cell.{Cell}
use Rattle.cat_rows.specs.declared.catalogue.Catalogue.{Catalogue}
use Rattle.cat_rows.specs.Catalogues.{rows_in, SameBut}
use Rattle.folder_io.specs.Folders.{TextOfTable, all_tables, catalogue_rows}

-- the number of a table in the order of the files
abbrev number : SysTable → ℕ
number PgAuthid = 0
number PgAuthMembers = 1
number PgDatabase = 2
number PgNamespace = 3
number PgType = 4
number PgEnum = 5
number PgClass = 6
number PgAttribute = 7
number PgAttrdef = 8
number PgConstraint = 9
number PgIndex = 10
number PgSequence = 11
number PgRewrite = 12
number PgDescription = 13
number PgDepend = 14

-- the tables are numbered one after another from n on
abbrev AreNumbered : ℕ → List SysTable → Type 0
AreNumbered n [] = Unit {0}
AreNumbered n (table ∷ tables) = (number table ≡ n) × AreNumbered (n + 1) tables

number_at : (n : ℕ) (tables : List SysTable) (i : ℕ) (table : SysTable) → AreNumbered n tables → i < length tables → get_or tables i table ≡ table → number table ≡ n + i
number_at n [] i table h l e = let no : ⊥ = omega (arith, l) in elim no [ ]
number_at n (first ∷ tables) zero table h l e = let here : n ≡ n + 0 = omega arith in ap number (sym e) ∙ h.0 ∙ here
number_at n (first ∷ tables) (suc i) table h l e =
    let fits : i < length tables = omega (arith, l) in
    let shift : n + 1 + i ≡ n + suc i = omega arith in
    number_at (n + 1) tables i table h.1 fits e ∙ shift

all_numbered : AreNumbered 0 all_tables
all_numbered = (refl, (refl, (refl, (refl, (refl, (refl, (refl, (refl, (refl, (refl, (refl, (refl, (refl, (refl, (refl, tt)))))))))))))))

-- the rows of the tables before this one in a catalogue, and those of this one in the other
abbrev up_to : SysTable → Catalogue → Catalogue → List (List (List Cell))
up_to table new cat = take (number table) (catalogue_rows cat) ++ rows_in table new ∷ []

-- a table that is put behind those before it
put : (table : SysTable) (old new : Catalogue) → SameBut table old new → take (number table + 1) (catalogue_rows new) ≡ take (number table) (catalogue_rows old) ++ rows_in table new ∷ []
put PgAuthid old new e = ap (up_to PgAuthid new) e
put PgAuthMembers old new e = ap (up_to PgAuthMembers new) e
put PgDatabase old new e = ap (up_to PgDatabase new) e
put PgNamespace old new e = ap (up_to PgNamespace new) e
put PgType old new e = ap (up_to PgType new) e
put PgEnum old new e = ap (up_to PgEnum new) e
put PgClass old new e = ap (up_to PgClass new) e
put PgAttribute old new e = ap (up_to PgAttribute new) e
put PgAttrdef old new e = ap (up_to PgAttrdef new) e
put PgConstraint old new e = ap (up_to PgConstraint new) e
put PgIndex old new e = ap (up_to PgIndex new) e
put PgSequence old new e = ap (up_to PgSequence new) e
put PgRewrite old new e = ap (up_to PgRewrite new) e
put PgDescription old new e = ap (up_to PgDescription new) e
put PgDepend old new e = ap (up_to PgDepend new) e

-- the same by the table's index
pub put_at : (i : ℕ) (table : SysTable) (old new : Catalogue) → i < length all_tables → get_or all_tables i table ≡ table → SameBut table old new
    → take (i + 1) (catalogue_rows new) ≡ take i (catalogue_rows old) ++ rows_in table new ∷ []
put_at i table old new l t e =
    let plain : 0 + i ≡ i = omega arith in
    subst (λ n. take (n + 1) (catalogue_rows new) ≡ take n (catalogue_rows old) ++ rows_in table new ∷ []) (number_at 0 all_tables i table all_numbered l t ∙ plain) (put table old new e)

-- ---- the texts of the tables

-- the texts of the first tables with that of the next one
pub next_table : (i : ℕ) (texts : List TextOfTable) (text : TextOfTable) (table : SysTable) → i < length all_tables → get_or all_tables i table ≡ table → text.table ≡ table
    → map (λ text. text.table) texts ≡ take i all_tables → map (λ text. text.table) (texts ++ text ∷ []) ≡ take (i + 1) all_tables
next_table i texts text table l t is so_far =
    map-append (λ text. text.table) texts (text ∷ [])
    ∙ ap (λ tables. tables ++ text.table ∷ []) so_far
    ∙ ap (λ x. take i all_tables ++ x ∷ []) (is ∙ sym t)
    ∙ sym (take-suc all_tables i table l)
    ∙ ap (λ n. take n all_tables) (sym (add-one i))

-- where these are the texts of all tables: how many there are, and the table at an index
pub as_many : (texts : List TextOfTable) → map (λ text. text.table) texts ≡ all_tables → length texts ≡ length all_tables
as_many texts are = sym (length-map texts (λ text. text.table)) ∙ ap length are

pub table_at : (i : ℕ) (texts : List TextOfTable) (text : TextOfTable) → map (λ text. text.table) texts ≡ all_tables → i < length texts → get_or texts i text ≡ text
    → get_or all_tables i text.table ≡ text.table
table_at i texts text are l t =
    ap (λ tables. get_or tables i text.table) (sym are) ∙ get_or-map (λ text. text.table) texts i text text.table l ∙ ap (λ text. text.table) t

-- all of a catalogue's tables
pub all_rows : (i : ℕ) (texts : List TextOfTable) (cat : Catalogue) → map (λ text. text.table) texts ≡ all_tables → length texts ≤ i → take i (catalogue_rows cat) ≡ catalogue_rows cat
all_rows i texts cat are l = take_all i (catalogue_rows cat) (subst (λ n. n ≤ i) (as_many texts are) l)
