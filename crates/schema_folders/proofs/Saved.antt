-- A folder that is written file by file: what is written so far, and what stands where the writing ends on its way.
use Rattle.std.proofs.Common.{◌≡◌, ℕ, ◌+◌, ◌<◌, ◌≤◌, List, [], ◌∷◌, ◌++◌, length, take, drop, map, get_or, Option, Some, None, option_map, refl, sym, ap, subst, ◌∙◌, add-one, inl}
use Rattle.std.specs.FinMap.{insert}
use Rattle.std.proofs.Math.Seq.{drop-cons, take-suc, take_all}
use Rattle.std.proofs.lemmas.List.{append_assoc, take-append-drop}
use Rattle.dump_ports.specs.Tree.{Tree, TakesPrefix}
use Rattle.cat_rows.specs.declared.table.SysTable.{SysTable}
use Rattle.cat_rows.specs.declared.table.SysTable.TheVariants.{PgAuthid}
use Rattle.cat_rows.specs.Kinds.{table_file}
use Rattle.cat_model.specs.Values.{Bytes}
use Rattle.schema_folders.specs.Texts.{path}
use Rattle.schema_folders.specs.Folder.{all_tables, plain_text, table_written, table_files}
use Rattle.saved_folders.specs.Files.{File, saved, IsCut, PartSaved}

pub saved-append : (xs ys : List File) (tree : Tree) → saved (xs ++ ys) tree ≡ saved ys (saved xs tree)
saved-append [] ys tree = refl
saved-append (x ∷ xs) ys tree = saved-append xs ys (insert tree x.name x.text)

map-append : {A B : Type 0} (f : A → B) (xs ys : List A) → map f (xs ++ ys) ≡ map f xs ++ map f ys
map-append f [] ys = refl
map-append f (x ∷ xs) ys = ap (λ l. f x ∷ l) (map-append f xs ys)

through : (f g : Tree → Tree) (o : Option Tree) → option_map g (option_map f o) ≡ option_map (λ t. g (f t)) o
through f g None = refl
through f g (Some t) = refl

same_after : (f g : Tree → Tree) → ((t : Tree) → f t ≡ g t) → (o : Option Tree) → option_map f o ≡ option_map g o
same_after f g h None = refl
same_after f g h (Some t) = ap Some (h t)

-- the files of the first tables
abbrev pub first_files : Bytes → Bytes → ℕ → List File
first_files folder namespaces i = map (table_written folder namespaces) (take i all_tables)

-- a further file is written
pub one_saved : (folder namespaces : Bytes) (i : ℕ) (table : SysTable) (start before after : Option Tree) (file name text : Bytes) → i < length all_tables → get_or all_tables i PgAuthid ≡ table → file ≡ table_file table → name ≡ path folder file → text ≡ plain_text namespaces table
    → before ≡ option_map (saved (first_files folder namespaces i)) start → after ≡ option_map (λ tree. insert tree name text) before → after ≡ option_map (saved (first_files folder namespaces (i + 1))) start
one_saved folder namespaces i table start before after file name text l t f n x b a =
    let files = first_files folder namespaces i in
    a
    ∙ ap (λ o. option_map (λ tree. insert tree name text) o) b
    ∙ through (saved files) (λ tree. insert tree name text) start
    ∙ same_after (λ tree. insert (saved files tree) name text) (saved (first_files folder namespaces (i + 1))) (λ tree.
    ap (λ q. insert (saved files tree) q text) (n ∙ ap (λ q. path folder q) f)
    ∙ ap (λ q. insert (saved files tree) (path folder (table_file table)) q) x
    ∙ sym (saved-append files (table_written folder namespaces table ∷ []) tree)
    ∙ ap (λ q. saved q tree) (more i l t)) start
  where
    more : (i : ℕ) → i < length all_tables → get_or all_tables i PgAuthid ≡ table → first_files folder namespaces i ++ table_written folder namespaces table ∷ [] ≡ first_files folder namespaces (i + 1)
    more i l t =
        sym (map-append (table_written folder namespaces) (take i all_tables) (table ∷ []))
        ∙ ap (λ tables. map (table_written folder namespaces) tables) (ap (λ d. take i all_tables ++ d ∷ []) (sym t) ∙ sym (take-suc all_tables i PgAuthid l) ∙ ap (λ k. take k all_tables) (sym (add-one i)))

-- nothing is cut
pub cut_none : (later : List File) (before after : Option Tree) → after ≡ before → IsCut later before after
cut_none [] before after e = e
cut_none (file ∷ later) before after e = inl e

-- the writing ended before the file of a table, or on it
pub ended_before : (folder namespaces : Bytes) (i : ℕ) (start before : Option Tree) → before ≡ option_map (saved (first_files folder namespaces i)) start → PartSaved (table_files folder namespaces) start before
unfolding table_files
ended_before folder namespaces i start before b = record {
  whole = first_files folder namespaces i;
  later = map (table_written folder namespaces) (drop i all_tables);
  split =
      ap (λ tables. map (table_written folder namespaces) tables) (sym (take-append-drop i all_tables))
      ∙ map-append (table_written folder namespaces) (take i all_tables) (drop i all_tables);
  cut = cut_none (map (table_written folder namespaces) (drop i all_tables)) _ before b;
}

pub ended_on : (folder namespaces : Bytes) (i : ℕ) (table : SysTable) (start before after : Option Tree) (file name text : Bytes) → i < length all_tables → get_or all_tables i PgAuthid ≡ table → file ≡ table_file table → name ≡ path folder file → text ≡ plain_text namespaces table
    → before ≡ option_map (saved (first_files folder namespaces i)) start → TakesPrefix (λ part tree. insert tree name part) text before after → PartSaved (table_files folder namespaces) start after
unfolding table_files
ended_on folder namespaces i table start before after file name text l t f n x b p = record {
  whole = first_files folder namespaces i;
  later = table_written folder namespaces table ∷ map (table_written folder namespaces) (drop (i + 1) all_tables);
  split =
      ap (λ tables. map (table_written folder namespaces) tables) (sym (take-append-drop i all_tables) ∙ ap (λ tables. take i all_tables ++ tables) (from i l t))
      ∙ map-append (table_written folder namespaces) (take i all_tables) (table ∷ drop (i + 1) all_tables);
  cut = rw (sym b) (rw (sym x) (rw (sym f) (rw (sym n) p)));
}
  where
    from : (i : ℕ) → i < length all_tables → get_or all_tables i PgAuthid ≡ table → drop i all_tables ≡ table ∷ drop (i + 1) all_tables
    from i l t = rw (add-one, drop-cons all_tables i PgAuthid, t) refl

-- the files of all tables are written
pub tables_saved : (folder namespaces : Bytes) (i : ℕ) (start before : Option Tree) → length all_tables ≤ i → before ≡ option_map (saved (first_files folder namespaces i)) start → before ≡ option_map (saved (table_files folder namespaces)) start
unfolding table_files
tables_saved folder namespaces i start before l b = b ∙ ap (λ tables. option_map (saved (map (table_written folder namespaces) tables)) start) (take_all i all_tables l)

-- one file alone
pub ended_alone : (file : File) (before after : Option Tree) → TakesPrefix (λ part tree. insert tree file.name part) file.text before after → PartSaved (file ∷ []) before after
ended_alone file before after p = record { whole = []; later = file ∷ []; split = refl; cut = rw (unchanged before) p }
  where
    unchanged : (o : Option Tree) → option_map (saved []) o ≡ o
    unchanged None = refl
    unchanged (Some t) = refl

cut_further : (later more : List File) (before after : Option Tree) → IsCut later before after → IsCut (later ++ more) before after
cut_further [] more before after e = cut_none more before after e
cut_further (file ∷ later) more before after p = p

-- the writing of the first of two lists ended on its way
pub part_of_front : (xs ys : List File) (before after : Option Tree) → PartSaved xs before after → PartSaved (xs ++ ys) before after
part_of_front xs ys before after p = record {
  whole = p.whole;
  later = p.later ++ ys;
  split = ap (λ files. files ++ ys) p.split ∙ append_assoc p.whole p.later ys;
  cut = cut_further p.later ys _ after p.cut;
}

-- the first of two lists is written, and the writing of the second ended on its way
pub part_of_rest : (xs ys : List File) (before between after : Option Tree) → between ≡ option_map (saved xs) before → PartSaved ys between after → PartSaved (xs ++ ys) before after
part_of_rest xs ys before between after b p = record {
  whole = xs ++ p.whole;
  later = p.later;
  split = ap (λ files. xs ++ files) p.split ∙ sym (append_assoc xs p.whole p.later);
  cut =
      subst (λ o. IsCut p.later o after)
      (ap (λ o. option_map (saved p.whole) o) b
      ∙ through (saved xs) (saved p.whole) before
      ∙ same_after _ _ (λ tree. sym (saved-append xs p.whole tree)) before)
      p.cut;
}

-- both lists are written
pub both_saved : (xs ys : List File) (before between after : Option Tree) → between ≡ option_map (saved xs) before → after ≡ option_map (saved ys) between → after ≡ option_map (saved (xs ++ ys)) before
both_saved xs ys before between after b a =
    a ∙ ap (λ o. option_map (saved ys) o) b ∙ through (saved xs) (saved ys) before ∙ same_after _ _ (λ tree. sym (saved-append xs ys tree)) before
