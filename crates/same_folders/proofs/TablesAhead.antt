-- One table more of those whose data files are tried.
use Rattle.std.proofs.Common.{◌≡◌, ℕ, suc, zero, ◌+◌, ◌<◌, ◌≤◌, List, [], ◌∷◌, length, drop, get_or, sym, ap, subst, ◌∙◌, add-one, drop-cons, arith}
use Rattle.std.specs.List.{AllByRecursion, sum_by}
use Rattle.std.proofs.lemmas.List.Sums.{sum_by-cons}
use Rattle.dump_ports.specs.Tree.{Tree}
use Rattle.cat_model.specs.Values.{Bytes}
use Rattle.folder_io.specs.declared.file.ExportFile.TheVariants.{Data}
use Rattle.folder_io.specs.declared.fault.FolderLimit.TheVariants.{DataFile, Folder}
use Rattle.folder_io.specs.Folders.{file_length, most_bytes}
use Rattle.same_folders.specs.Streams.{HoldLines, IsAlike}

split_at : (oids : List ℕ) (i oid : ℕ) → i < length oids → oid ≡ get_or oids i oid → drop i oids ≡ oid ∷ drop (i + 1) oids
split_at oids i oid below is = rw add-one (drop-cons oids i oid below) ∙ ap (λ (x : ℕ). x ∷ drop (i + 1) oids) (sym is)

pub next_held : (first second : Bytes) (tree : Tree) (used len sum : ℕ) (oids : List ℕ) (i oid : ℕ) → i < length oids → oid ≡ get_or oids i oid → IsAlike first second tree oid len → len ≤ most_bytes DataFile → sum ≡ used + len
    → HoldLines first second tree sum (drop (i + 1) oids) → HoldLines first second tree used (drop i oids)
next_held first second tree used len sum oids i oid below is alike limited total rest =
    let more : sum_by (λ o. file_length first tree (Data o)) (oid ∷ drop (i + 1) oids) ≡ file_length first tree (Data oid) + sum_by (λ o. file_length first tree (Data o)) (drop (i + 1) oids) =
    sum_by-cons (λ o. file_length first tree (Data o)) oid (drop (i + 1) oids) in
    subst (HoldLines first second tree used) (sym (split_at oids i oid below is)) (record {
      same = (alike.same, rest.same);
      limited = (subst (λ (n : ℕ). n ≤ most_bytes DataFile) (sym alike.many) limited, rest.limited);
      fits = omega (arith, more, alike.many, total, rest.fits);
    })

pub next_all : (P : ℕ → Type 0) (oids : List ℕ) (i oid : ℕ) → i < length oids → oid ≡ get_or oids i oid → P oid → AllByRecursion P (drop (i + 1) oids) → AllByRecursion P (drop i oids)
next_all P oids i oid below is one rest = subst (AllByRecursion P) (sym (split_at oids i oid below is)) (one, rest)

pub nothing_left : (first second : Bytes) (tree : Tree) (used : ℕ) → used ≤ most_bytes Folder → HoldLines first second tree used []
nothing_left first second tree used small = record { same = tt; limited = tt; fits = omega (arith, small) }

-- what is so of all is so of the one at a place
pub at_place : (P : ℕ → Type 0) (oids : List ℕ) (i oid : ℕ) → i < length oids → oid ≡ get_or oids i oid → AllByRecursion P oids → P oid
at_place P [] i oid below is all = absurd (omega arith)
at_place P (o ∷ oids) zero oid below is all = subst P (sym is) all.0
at_place P (o ∷ oids) (suc i) oid below is all = at_place P oids i oid (omega arith) is all.1
