-- The folders of the examples: which of their files is found by a name.
use Rattle.std.proofs.Common.{◌≡◌, cond, List, [], ◌∷◌, Option, Some, None, ap, ◌∙◌}
use Rattle.std.specs.Ordering.{nat_cmp, eq_by_cmp}
use Rattle.std.specs.Cmp.Lexicographic.{slice_cmp, nat_list_cmp_total}
use Rattle.std.specs.FinMap.{get-empty, get-insert}
use Rattle.dump_ports.specs.Tree.{text_at}
use Rattle.folder_io.specs.Folders.{Bytes}
use Rattle.folder_io.specs.Examples.{File, tree_of}

-- the text of the first file of this name
abbrev pub first_of : List File → Bytes → Option Bytes
first_of [] name = None
first_of (file ∷ files) name = cond (eq_by_cmp (slice_cmp nat_cmp) name file.name) (Some file.text) (first_of files name)

-- it is the one that is found
pub found : (files : List File) (name : Bytes) → text_at (tree_of files) name ≡ first_of files name
found [] name = get-empty (slice_cmp nat_cmp) name
found (file ∷ files) name =
    get-insert nat_list_cmp_total (tree_of files) file.name file.text name
    ∙ ap (λ o. cond (eq_by_cmp (slice_cmp nat_cmp) name file.name) (Some file.text) o) (found files name)
