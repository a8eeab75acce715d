-- Data files read one after another: what is read so far, and what is left to read.
use Rattle.std.proofs.Common.{◌≡◌, ℕ, ◌+◌, ◌<◌, ◌≤◌, Bool, true, false, cond, List, [], ◌∷◌, ◌++◌, length, drop, get_or, Option, Some, Result, Ok, Err, refl, sym, ap, ◌∙◌, add-one}
use Rattle.std.specs.List.{AllByRecursion}
use Rattle.std.specs.declared.cmp.Ordering.{Ordering}
use Rattle.std.specs.declared.cmp.Ordering.TheVariants.{Less, Equal, Greater}
use Rattle.std.specs.Ordering.{nat_cmp, is_eq, eq_by_cmp}
use Rattle.std.specs.Cmp.{nat_cmp_total}
use Rattle.std.specs.FinMap.{empty, insert, find, from_entries, get-insert, get-from_entries, same_map, nat_cmp-IsAntisymmetric}
use Rattle.std.proofs.Math.Seq.{drop-cons}
use Rattle.std.proofs.lemmas.Bool.{true≢false}
use Rattle.std.proofs.lemmas.List.{drop_all, append_assoc, append-nil}
use Rattle.dump_ports.specs.Tree.{Tree}
use Rattle.cat_names.specs.DataSets.{TextsByOid}
use Rattle.folder_io.specs.declared.fault.FolderFault.{FolderFault}
use Rattle.folder_io.specs.Answers.{◌>>=◌}
use Rattle.folder_io.specs.Folders.{Bytes}
use Rattle.folder_rows.specs.Reading.{data_text, total_of, texts_from, rows_from}

-- an oid and its text
abbrev pub Entry : Type 0
Entry = ℕ × Bytes

-- ---- texts by their oids

equal : (o : Ordering) → is_eq o ≡ true → o ≡ Equal
equal Less e = absurd (true≢false (sym e))
equal Equal e = refl
equal Greater e = absurd (true≢false (sym e))

pub same_oid : (a b : ℕ) → eq_by_cmp nat_cmp a b ≡ true → a ≡ b
same_oid a b e = nat_cmp-IsAntisymmetric a b (equal (nat_cmp a b) e)

-- each text is the one of its oid
abbrev pub AreTexts : (ℕ → Result Bytes FolderFault) → List Entry → Type 0
AreTexts text entries = AllByRecursion (λ e. text e.0 ≡ Ok e.1) entries

texts_push : (text : ℕ → Result Bytes FolderFault) (entries : List Entry) (oid : ℕ) (bytes : Bytes) → AreTexts text entries → text oid ≡ Ok bytes → AreTexts text (entries ++ (oid, bytes) ∷ [])
texts_push text [] oid bytes are is = (is, tt)
texts_push text (e ∷ es) oid bytes are is = (are.0, texts_push text es oid bytes are.1 is)

-- an entry behind others that agree with it is found as if it stood in front of them
find_push : (text : ℕ → Result Bytes FolderFault) (entries : List Entry) (oid : ℕ) (bytes : Bytes) (q : ℕ) → AreTexts text entries → text oid ≡ Ok bytes
    → find nat_cmp q (entries ++ (oid, bytes) ∷ []) ≡ cond (eq_by_cmp nat_cmp q oid) (Some bytes) (find nat_cmp q entries)
find_push text [] oid bytes q are is = refl
find_push text (e ∷ es) oid bytes q are is =
    ap (λ (o : Option Bytes). cond (eq_by_cmp nat_cmp q e.0) (Some e.1) o) (find_push text es oid bytes q are.1 is)
    ∙ by (eq_by_cmp nat_cmp q e.0) (eq_by_cmp nat_cmp q oid) refl refl
  where
    by : (b c : Bool) → eq_by_cmp nat_cmp q e.0 ≡ b → eq_by_cmp nat_cmp q oid ≡ c → cond b (Some e.1) (cond c (Some bytes) (find nat_cmp q es)) ≡ cond c (Some bytes) (cond b (Some e.1) (find nat_cmp q es))
    by true true here there =
        let both : Ok e.1 ≡ Ok bytes = sym are.0 ∙ ap text (sym (same_oid q e.0 here) ∙ same_oid q oid there) ∙ is in
        cc
    by true false here there = refl
    by false true here there = refl
    by false false here there = refl

pub put_text : (text : ℕ → Result Bytes FolderFault) (entries : List Entry) (oid : ℕ) (bytes : Bytes) → AreTexts text entries → text oid ≡ Ok bytes
    → ◌≡◌ {A = TextsByOid} (insert (from_entries entries) oid bytes) (from_entries (entries ++ (oid, bytes) ∷ []))
put_text text entries oid bytes are is =
    same_map nat_cmp_total nat_cmp-IsAntisymmetric _ _ (λ q.
    get-insert nat_cmp_total (from_entries entries) oid bytes q
    ∙ ap (λ (o : Option Bytes). cond (eq_by_cmp nat_cmp q oid) (Some bytes) o) (get-from_entries nat_cmp_total entries q)
    ∙ sym (get-from_entries nat_cmp_total (entries ++ (oid, bytes) ∷ []) q ∙ find_push text entries oid bytes q are is))

-- ---- going over the tables

module _ (folder : Bytes) (tree : Tree) where
  -- behind the texts so far come those that are left
  abbrev joined : List Entry → Result (List Entry) FolderFault → Result (List Entry) FolderFault
  joined entries due = due >>= λ texts. Ok (entries ++ texts)

  -- what is read so far, where this many bytes are used and these tables are left
  pub record IsRead (used : ℕ) (tables : List ℕ) (rows : TextsByOid) (bytes : ℕ) (left : List ℕ) : Type 0 where
    pub entries : List Entry
    pub rows_are : rows ≡ from_entries entries
    pub texts_are : AreTexts (data_text folder tree) entries
    pub goes_on : texts_from folder tree used tables ≡ joined entries (texts_from folder tree bytes left)

  pub begins : (used : ℕ) (tables : List ℕ) (rows : TextsByOid) → rows ≡ empty → IsRead used tables rows used tables
  begins used tables rows none = record {
    entries = [];
    rows_are = none ∙ same_map nat_cmp_total nat_cmp-IsAntisymmetric _ _ (λ q. refl);
    texts_are = tt;
    goes_on = by (texts_from folder tree used tables);
  }
    where
      by : (due : Result (List Entry) FolderFault) → due ≡ joined [] due
      by (Ok texts) = refl
      by (Err fault) = refl

  module _ (used : ℕ) (tables : List ℕ) (rows : TextsByOid) (bytes : ℕ) (i : ℕ) (read : IsRead used tables rows bytes (drop i tables)) where
    -- the table at the index is the first that is left
    abbrev oid : ℕ
    oid = get_or tables i 0

    behind : List Entry → Result Bytes FolderFault → Result (List Entry) FolderFault
    behind entries due = joined entries (due >>= λ text. total_of (bytes + length text) >>= λ done. texts_from folder tree (bytes + length text) (drop (i + 1) tables) >>= λ texts. Ok ((oid, text) ∷ texts))

    next : i < length tables → texts_from folder tree used tables ≡ behind read.entries (data_text folder tree oid)
    unfolding texts_from behind
    next within = read.goes_on ∙ ap (λ l. joined read.entries (texts_from folder tree bytes l)) (drop-cons tables i 0 within ∙ ap (λ n. oid ∷ drop n tables) (sym (add-one i)))

    pub no_text : i < length tables → (fault : FolderFault) → data_text folder tree oid ≡ Err fault → rows_from folder tree used tables ≡ Err fault
    unfolding rows_from behind
    no_text within fault is = ap (λ r. r >>= λ texts. Ok (from_entries texts)) (next within ∙ ap (behind read.entries) is)

    pub too_much : i < length tables → (text : Bytes) (fault : FolderFault) → data_text folder tree oid ≡ Ok text → total_of (bytes + length text) ≡ Err fault → rows_from folder tree used tables ≡ Err fault
    unfolding rows_from behind
    too_much within text fault is past =
        ap (λ r. r >>= λ texts. Ok (from_entries texts)) (next within ∙ ap (behind read.entries) is ∙ ap (λ t. joined read.entries (t >>= λ done. texts_from folder tree (bytes + length text) (drop (i + 1) tables) >>= λ texts. Ok ((oid, text) ∷ texts))) past)

    pub goes_on : i < length tables → (text : Bytes) (done : Unit {0}) (more : TextsByOid) → data_text folder tree oid ≡ Ok text → total_of (bytes + length text) ≡ Ok done → more ≡ insert rows oid text → IsRead used tables more (bytes + length text) (drop (i + 1) tables)
    unfolding behind
    goes_on within text done more is fits put = record {
      entries = read.entries ++ (oid, text) ∷ [];
      rows_are = put ∙ ap (λ (m : TextsByOid). insert m oid text) read.rows_are ∙ put_text (data_text folder tree) read.entries oid text read.texts_are is;
      texts_are = texts_push (data_text folder tree) read.entries oid text read.texts_are is;
      goes_on =
          next within
          ∙ ap (behind read.entries) is
          ∙ ap (λ t. joined read.entries (t >>= λ done. texts_from folder tree (bytes + length text) (drop (i + 1) tables) >>= λ texts. Ok ((oid, text) ∷ texts))) fits
          ∙ by (texts_from folder tree (bytes + length text) (drop (i + 1) tables));
    }
      where
        by : (due : Result (List Entry) FolderFault) → joined read.entries (due >>= λ texts. Ok ((oid, text) ∷ texts)) ≡ joined (read.entries ++ (oid, text) ∷ []) due
        by (Ok texts) = ap Ok (sym (append_assoc read.entries ((oid, text) ∷ []) texts))
        by (Err fault) = refl

    pub ended : length tables ≤ i → rows_from folder tree used tables ≡ Ok rows
    unfolding texts_from rows_from
    ended past =
        ap (λ r. r >>= λ texts. Ok (from_entries texts)) (read.goes_on ∙ ap (λ l. joined read.entries (texts_from folder tree bytes l)) (drop_all i tables past))
        ∙ ap (λ (l : List Entry). Ok (from_entries l)) (append-nil read.entries)
        ∙ ap Ok (sym read.rows_are)
