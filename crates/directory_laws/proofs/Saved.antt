-- Files of distinct names that are written stand there in the end.
use Rattle.std.proofs.Common.{◌≡◌, ◌≢◌, ℕ, Bool, true, cond, List, [], ◌∷◌, Some, option_map, sym, ap, subst, ◌∙◌}
use Rattle.std.proofs.lemmas.Bool.{false_from_ne_true}
use Rattle.std.proofs.lemmas.Map.Text.{is_eq-slice_cmp}
use Rattle.std.specs.Cmp.Lexicographic.{slice_cmp, nat_list_cmp_total, nat_list_eq_equiv, bytes_decides}
use Rattle.std.specs.FinMap.{get, insert, get-insert}
use Rattle.std.specs.Ordering.{nat_cmp, eq_by_cmp}
use Rattle.dump_ports.specs.Tree.{Tree, text_at}
use Rattle.dump_directory.specs.Files.{Written, saved}
use Rattle.dump_directory.specs.Directories.{AllApart}
use Rattle.dump_files.specs.Outlets.{Outside, outputs}
use Rattle.directory_laws.specs.Stored.{AreStored}

same_name : (q k : List ℕ) → eq_by_cmp (slice_cmp nat_cmp) q k ≡ true → q ≡ k
same_name q k e = (bytes_decides q k).0 (sym (is_eq-slice_cmp q k) ∙ e)

there : (t : Tree) (name text : List ℕ) → text_at (insert t name text) name ≡ Some text
there t name text =
    get-insert nat_list_cmp_total t name text name
    ∙ ap (λ (b : Bool). cond b (Some text) (get t name)) (is_eq-slice_cmp name name ∙ nat_list_eq_equiv.refl name)

elsewhere : (t : Tree) (name other text : List ℕ) → name ≢ other → text_at (insert t name text) other ≡ text_at t other
elsewhere t name other text differs =
    get-insert nat_list_cmp_total t name text other
    ∙ ap (λ (b : Bool). cond b (Some text) (get t other)) (false_from_ne_true (eq_by_cmp (slice_cmp nat_cmp) other name) (λ same. differs (sym (same_name other name same))))

kept : (files : List Written) (o : Outside) (t now : Tree) (name text : List ℕ) → o.tree ≡ Some t → text_at t name ≡ Some text → AllApart files name → (saved files o).tree ≡ Some now → text_at now name ≡ Some text
kept [] o t now name text told holds apart ends = let same : t ≡ now = cc in subst (λ (x : Tree). text_at x name ≡ Some text) same holds
kept (file ∷ files) o t now name text told holds apart ends =
    kept files (outputs (Some file.name) file.text o) (insert t file.name file.text) now name text (ap (option_map (λ (x : Tree). insert x file.name file.text)) told)
    (elsewhere t file.name name file.text apart.0 ∙ holds) apart.1 ends

-- no two of them have one name
abbrev pub Distinct : List Written → Type 0
Distinct [] = Unit {0}
Distinct (file ∷ files) = AllApart files file.name × Distinct files

pub stand : (files : List Written) (o : Outside) (t now : Tree) → o.tree ≡ Some t → Distinct files → (saved files o).tree ≡ Some now → AreStored now files
stand [] o t now told distinct ends = tt
stand (file ∷ files) o t now told distinct ends =
    let next = outputs (Some file.name) file.text o in
    let here = insert t file.name file.text in
    let is : next.tree ≡ Some here = ap (option_map (λ (x : Tree). insert x file.name file.text)) told in
    (kept files next here now file.name file.text is (there t file.name file.text) distinct.0 ends, stand files next here now is distinct.1 ends)
