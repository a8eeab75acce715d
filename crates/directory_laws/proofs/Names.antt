-- The names of a folder's files are apart.
use Rattle.std.proofs.Common.{◌≡◌, ◌≢◌, ℕ, ◌<◌, ◌^◌, List, ◌++◌, decimal, codes, subst, arith}
use Rattle.std.proofs.lemmas.Fmt.{decimal_injective, decimal_is_IsNumeral}
use Rattle.std.proofs.lemmas.List.{append_cancel_left, append_cancel_right}
use Rattle.std.specs.Str.Parse.{IsNumeral}
use Rattle.fmt_directory.specs.Directories.{toc_name, rows_name}

behind_folder : (folder : List ℕ) (i : ℕ) (rest : List ℕ) → rows_name folder i ≡ folder ++ (codes "/" ++ (rest ++ codes ".dat")) → decimal i ≡ rest
behind_folder folder i rest e =
    append_cancel_right (decimal i) rest (codes ".dat")
    (append_cancel_left (codes "/") (decimal i ++ codes ".dat") (rest ++ codes ".dat")
    (append_cancel_left folder (codes "/" ++ (decimal i ++ codes ".dat")) (codes "/" ++ (rest ++ codes ".dat")) e))

-- those of rows by their dump ids
pub rows_apart : (folder : List ℕ) (i j : ℕ) → i < 2 ^ 64 → j < 2 ^ 64 → i < j → rows_name folder j ≢ rows_name folder i
rows_apart folder i j low high less e = let same = decimal_injective j i high low (behind_folder folder j (decimal i) e) in omega (arith, same, less)

-- no number begins with a letter
no_word : IsNumeral 10 (codes "toc") → ⊥
no_word numeral = omega (arith, numeral.1.0)

-- and `toc.dat` is none of them
pub toc_apart : (folder : List ℕ) (i : ℕ) → i < 2 ^ 64 → rows_name folder i ≢ toc_name folder
toc_apart folder i low e = no_word (subst (IsNumeral 10) (behind_folder folder i (codes "toc") e) (decimal_is_IsNumeral i low).0)
