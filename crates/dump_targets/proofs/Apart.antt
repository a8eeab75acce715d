-- What is outside of a folder is none of its data files.
use Rattle.std.proofs.Common.{◌≡◌, ◌≢◌, ℕ, Bool, true, false, ◌&&◌, List, [], ◌∷◌, ◌++◌, map, Option, Some, None, Result, Ok, Err, refl, sym, ap, subst, ◌∙◌}
use Rattle.std.proofs.lemmas.Bool.{eq-eqb, true≢false}
use Rattle.std.proofs.lemmas.List.{append_assoc}
use Rattle.std.proofs.Math.Seq.{drop-append_seam}
use Rattle.std.specs.Prelude.{nat_eq, codes, decimal}
use Rattle.std.specs.List.{starts_with}
use Rattle.dump_ports.specs.Tree.{Tree}
use Rattle.cat_model.specs.Values.{Bytes}
use Rattle.cat_rows.specs.declared.catalogue.Catalogue.{Catalogue}
use Rattle.obj_graph.specs.declared.select.Select.{Select}
use Rattle.toc_entry.specs.declared.entry.Entry.{Entry}
use Rattle.command_line.specs.Checks.{lies_in}
use Rattle.folder_io.specs.Folders.{path}
use Rattle.dump_toc.specs.Toc.{toc}
use Rattle.dump_choices.specs.declared.data.TableData.{TableData}
use Rattle.dump_choices.specs.Data.{table_data}
use Rattle.dump_files.specs.declared.stop.DumpStop.{DumpStop}
use Rattle.dump_files.specs.Needed.{unready}
use Rattle.dump_plain.specs.Stops.{AreApart}
use Rattle.dump_plans.specs.Outcomes.{toc_told, ready_told}
use Rattle.dump_plans.specs.Plans.{Dumping, data_path, data_file, data_files, dumping_with, entries_due, dumping_of}
use Rattle.tool_words.specs.declared.outcome.Outcome.{Outcome}
use Rattle.tool_words.specs.Answers.{◌>>=◌}
use Rattle.fmt_directory.specs.Directories.{toc_name, rows_name}
use Rattle.dump_directory.specs.Files.{IsBeyond, AreBeyond}
use Rattle.dump_outputs.specs.declared.form.DumpForm.{DumpForm}
use Rattle.dump_outputs.specs.declared.form.DumpForm.TheVariants.{Script, Custom, Directory}
use Rattle.dump_outputs.specs.Forms.{IsClear}
use Rattle.dump_targets.specs.Targets.{IsOutside, IsFormOutside}

starts : (xs ys : List ℕ) → starts_with nat_eq (xs ++ ys) xs ≡ true
starts [] ys = refl
starts (x ∷ xs) ys = rw (eq-eqb x x refl) (starts xs ys)

both : (a b : Bool) → a ≡ true → b ≡ true → a && b ≡ true
both true b e f = f
both false b e f = cc

slash_first : (rest : List ℕ) → starts_with nat_eq (codes "/" ++ rest) (codes "/") ≡ true
slash_first rest = refl

behind : (folder rest : List ℕ) → lies_in folder (folder ++ (codes "/" ++ rest)) ≡ true
behind folder rest =
    both (starts_with nat_eq (folder ++ (codes "/" ++ rest)) folder) _ (starts folder (codes "/" ++ rest))
    (ap (λ xs. starts_with nat_eq xs (codes "/")) (drop-append_seam folder (codes "/" ++ rest)) ∙ slash_first rest)

inside : (folder name : Bytes) → lies_in folder (path folder name) ≡ true
inside folder name = ap (lies_in folder) (append_assoc folder (codes "/") name) ∙ behind folder name

-- a file in the folder isn't one outside of it
other : (folder target name : Bytes) → lies_in folder target ≡ false → target ≢ path folder name
other folder target name out e = true≢false (sym (inside folder name) ∙ sym (ap (lies_in folder) e) ∙ out)

apart : (folder : Bytes) (target : Option Bytes) (rows : List TableData) → IsOutside folder target → AreApart target (map (data_file folder) rows)
apart folder target [] h = tt
apart folder None (one ∷ rows) h = (tt, apart folder None rows h)
apart folder (Some name) (one ∷ rows) h = (other folder name _ h, apart folder (Some name) rows h)

-- ---- files of an archive in a folder have other names

not_nil : (b : List ℕ) (t : ℕ) → [] ≡ b ++ t ∷ [] → ⊥
not_nil [] t e = cc
not_nil (x ∷ b) t e = cc

other_end : (a b : List ℕ) (y t : ℕ) → (y ≡ t → ⊥) → a ++ y ∷ [] ≡ b ++ t ∷ [] → ⊥
other_end [] [] y t n e = let h : y ≡ t = cc in n h
other_end [] (x ∷ b) y t n e = let h : [] ≡ b ++ t ∷ [] = cc in not_nil b t h
other_end (x ∷ a) [] y t n e = let h : [] ≡ a ++ y ∷ [] = cc in not_nil a y h
other_end (x ∷ a) (z ∷ b) y t n e = let h : a ++ y ∷ [] ≡ b ++ t ∷ [] = cc in other_end a b y t n h

-- 121 is `y`, 116 is `t`
differ : ◌≡◌ {A = ℕ} 121 116 → ⊥
differ e = true≢false (sym (eq-eqb 121 116 e))

abbrev data_front : Bytes → ℕ → List ℕ
data_front folder table = (folder ++ codes "/") ++ ((codes "data/" ++ decimal table) ++ codes ".cop")

data_end : (folder : Bytes) (table : ℕ) → data_path folder table ≡ data_front folder table ++ 121 ∷ []
data_end folder table =
    let front = codes "data/" ++ decimal table in
    sym (append_assoc (folder ++ codes "/") (front ++ codes ".cop") (121 ∷ []) ∙ ap (λ l. (folder ++ codes "/") ++ l) (append_assoc front (codes ".cop") (121 ∷ [])))

toc_end : (folder : Bytes) → toc_name folder ≡ (folder ++ codes "/toc.da") ++ 116 ∷ []
toc_end folder = sym (append_assoc folder (codes "/toc.da") (116 ∷ []))

rows_end : (folder : Bytes) (id : ℕ) → rows_name folder id ≡ (folder ++ (codes "/" ++ (decimal id ++ codes ".da"))) ++ 116 ∷ []
rows_end folder id =
    sym (append_assoc folder (codes "/" ++ (decimal id ++ codes ".da")) (116 ∷ []) ∙ ap (λ l. folder ++ (codes "/" ++ l)) (append_assoc (decimal id) (codes ".da") (116 ∷ [])))

one_beyond : (folder from : Bytes) (table : ℕ) → IsBeyond folder (data_path from table)
one_beyond folder from table = (
  λ e. other_end (data_front from table) (folder ++ codes "/toc.da") 121 116 differ (sym (data_end from table) ∙ e ∙ toc_end folder),
  λ id e. other_end (data_front from table) (folder ++ (codes "/" ++ (decimal id ++ codes ".da"))) 121 116 differ (sym (data_end from table) ∙ e ∙ rows_end folder id),
)

beyond : (folder from : Bytes) (rows : List TableData) → AreBeyond folder (map (data_file from) rows)
beyond folder from [] = tt
beyond folder from (one ∷ rows) = (one_beyond folder from one.table, beyond folder from rows)

-- ---- the files of a dump

clear : (folder : Bytes) (form : DumpForm) (rows : List TableData) → IsFormOutside folder form → IsClear form (map (data_file folder) rows)
unfolding IsClear
clear folder (Script target owners) rows h = apart folder target rows h
clear folder (Custom target) rows h = apart folder target rows h
clear folder (Directory name) rows h = beyond name folder rows

files_clear : (folder : Bytes) (form : DumpForm) (cat : Catalogue) (entries : List Entry) → IsFormOutside folder form → IsClear form (data_files folder cat entries)
unfolding data_files
files_clear folder form cat entries h = clear folder form (table_data cat entries) h

ready_clear : (form : DumpForm) (whole : Dumping) (found : Option DumpStop) (dump : Dumping) → IsClear form whole.files → ready_told whole found ≡ Ok dump → IsClear form dump.files
ready_clear form whole None dump h e = subst (λ (d : Dumping). IsClear form d.files) (inner whole dump e) h
  where
    inner : (x y : Dumping) → ◌≡◌ {A = Result Dumping Outcome} (Ok x) (Ok y) → x ≡ y
    inner x y e = cc
ready_clear form whole (Some stop) dump h e = cc

pub dumping_clear : (folder : Bytes) (form : DumpForm) (select : Select) (cat : Catalogue) (tree : Tree) (dump : Dumping) → IsFormOutside folder form → dumping_of folder select cat tree ≡ Ok dump → IsClear form dump.files
unfolding dumping_of
dumping_clear folder form select cat tree dump h e = by (toc_told (toc cat select)) e
  where
    by : (entries : Result (List Entry) Outcome) → (entries >>= entries_due folder cat tree) ≡ Ok dump → IsClear form dump.files
    by (Err refusal) f = cc
    by (Ok entries) f =
        let files = data_files folder cat entries in
        ready_clear form (dumping_with entries files) (unready tree files) dump (files_clear folder form cat entries h) f
