-- Files that are written one after another: what is written so far, and what stands where the writing ends on its way.
use Rattle.std.proofs.Common.{◌≡◌, ℕ, ◌+◌, ◌<◌, ◌≤◌, List, [], ◌∷◌, ◌++◌, length, take, drop, map, get_or, Option, Some, None, option_map, refl, sym, ap, subst, ◌∙◌, add-one, inl}
use Rattle.std.specs.FinMap.{insert}
use Rattle.std.proofs.Math.Seq.{take-suc, take_all}
use Rattle.std.proofs.lemmas.List.{append_assoc, map-append, take-append-drop}
use Rattle.dump_ports.specs.Tree.{Tree, TakesPrefix}
use Rattle.saved_folders.specs.Files.{File, saved, IsCut, PartSaved}

pub saved-append : (xs ys : List File) (tree : Tree) → saved (xs ++ ys) tree ≡ saved ys (saved xs tree)
saved-append [] ys tree = refl
saved-append (x ∷ xs) ys tree = saved-append xs ys (insert tree x.name x.text)

through : (f g : Tree → Tree) (o : Option Tree) → option_map g (option_map f o) ≡ option_map (λ t. g (f t)) o
through f g None = refl
through f g (Some t) = refl

same_after : (f g : Tree → Tree) → ((t : Tree) → f t ≡ g t) → (o : Option Tree) → option_map f o ≡ option_map g o
same_after f g h None = refl
same_after f g h (Some t) = ap Some (h t)

unchanged : (o : Option Tree) → option_map (saved []) o ≡ o
unchanged None = refl
unchanged (Some t) = refl

-- ---- two lists of files

-- both lists are written
pub both_saved : (xs ys : List File) (before between after : Option Tree) → between ≡ option_map (saved xs) before → after ≡ option_map (saved ys) between → after ≡ option_map (saved (xs ++ ys)) before
both_saved xs ys before between after b a =
    a ∙ ap (λ o. option_map (saved ys) o) b ∙ through (saved xs) (saved ys) before ∙ same_after _ _ (λ tree. sym (saved-append xs ys tree)) before

-- nothing is cut
cut_none : (later : List File) (before after : Option Tree) → after ≡ before → IsCut later before after
cut_none [] before after e = e
cut_none (file ∷ later) before after e = inl e

cut_further : (later more : List File) (before after : Option Tree) → IsCut later before after → IsCut (later ++ more) before after
cut_further [] more before after e = cut_none more before after e
cut_further (file ∷ later) more before after p = p

-- the writing of the first of two lists ended on its way
pub part_of_front : (xs ys : List File) (before after : Option Tree) → PartSaved xs before after → PartSaved (xs ++ ys) before after
part_of_front xs ys before after p = record {
  whole = p.whole;
  later = p.later ++ ys;
  split = ap (λ files. files ++ ys) p.split ∙ append_assoc p.whole p.later ys;
  cut = cut_further p.later ys _ after p.cut;
}

-- the first of two lists is written, and the writing of the second ended on its way
pub part_of_rest : (xs ys : List File) (before between after : Option Tree) → between ≡ option_map (saved xs) before → PartSaved ys between after → PartSaved (xs ++ ys) before after
part_of_rest xs ys before between after b p = record {
  whole = xs ++ p.whole;
  later = p.later;
  split = ap (λ files. xs ++ files) p.split ∙ sym (append_assoc xs p.whole p.later);
  cut =
      subst (λ o. IsCut p.later o after)
      (ap (λ o. option_map (saved p.whole) o) b
      ∙ through (saved xs) (saved p.whole) before
      ∙ same_after _ _ (λ tree. sym (saved-append xs p.whole tree)) before)
      p.cut;
}

-- ---- one file

-- its name couldn't be made
pub not_begun : (file : File) (before : Option Tree) → PartSaved (file ∷ []) before before
not_begun file before = record { whole = []; later = file ∷ []; split = refl; cut = inl (sym (unchanged before)) }

pub ended_alone : (file : File) (before after : Option Tree) → TakesPrefix (λ part tree. insert tree file.name part) file.text before after → PartSaved (file ∷ []) before after
ended_alone file before after p = record { whole = []; later = file ∷ []; split = refl; cut = rw (unchanged before) p }

-- ---- a file for each of these

module _ {A : Type 0} (file : A → File) (xs : List A) where
  -- those of the first ones
  abbrev pub first : ℕ → List File
  first i = map file (take i xs)

  one_more : (i : ℕ) (x : A) → i < length xs → get_or xs i x ≡ x → first i ++ file x ∷ [] ≡ first (i + 1)
  one_more i x l t =
      sym (map-append file (take i xs) (x ∷ []))
      ∙ ap (map file) (ap (λ d. take i xs ++ d ∷ []) (sym t) ∙ sym (take-suc xs i x l) ∙ ap (λ k. take k xs) (sym (add-one i)))

  -- all of them: the first ones, this one, and those behind it
  parted : (i : ℕ) (x : A) → i < length xs → get_or xs i x ≡ x → map file xs ≡ (first i ++ file x ∷ []) ++ map file (drop (i + 1) xs)
  parted i x l t =
      ap (map file) (sym (take-append-drop (i + 1) xs))
      ∙ map-append file (take (i + 1) xs) (drop (i + 1) xs)
      ∙ ap (λ files. files ++ map file (drop (i + 1) xs)) (sym (one_more i x l t))

  -- nothing is written yet
  pub none_saved : (start : Option Tree) → start ≡ option_map (saved (first 0)) start
  none_saved start = sym (unchanged start)

  -- a further file is written
  pub more_saved : (i : ℕ) (x : A) (start before after : Option Tree) → i < length xs → get_or xs i x ≡ x → before ≡ option_map (saved (first i)) start → after ≡ option_map (saved (file x ∷ [])) before
      → after ≡ option_map (saved (first (i + 1))) start
  more_saved i x start before after l t b a =
      both_saved (first i) (file x ∷ []) start before after b a ∙ ap (λ files. option_map (saved files) start) (one_more i x l t)

  -- the writing ended on this file
  pub ended_on : (i : ℕ) (x : A) (start before after : Option Tree) → i < length xs → get_or xs i x ≡ x → before ≡ option_map (saved (first i)) start → PartSaved (file x ∷ []) before after
      → PartSaved (map file xs) start after
  ended_on i x start before after l t b p =
      subst (λ files. PartSaved files start after) (sym (parted i x l t))
      (part_of_front (first i ++ file x ∷ []) (map file (drop (i + 1) xs)) start after (part_of_rest (first i) (file x ∷ []) start before after b p))

  -- all files are written
  pub all_saved : (i : ℕ) (start before : Option Tree) → length xs ≤ i → before ≡ option_map (saved (first i)) start → before ≡ option_map (saved (map file xs)) start
  all_saved i start before l b = b ∙ ap (λ l. option_map (saved (map file l)) start) (take_all i xs l)

-- ---- a file for what each of these stands for

both_maps : {A B C : Type 0} (f : A → B) (g : B → C) (xs : List A) → map (λ x. g (f x)) xs ≡ map g (map f xs)
both_maps f g [] = refl
both_maps f g (x ∷ xs) = ap (λ l. g (f x) ∷ l) (both_maps f g xs)

module _ {A B : Type 0} (put : A → B) (file : B → File) (xs : List A) where
  pub put_ended_on : (i : ℕ) (x : A) (start before after : Option Tree) → i < length xs → get_or xs i x ≡ x → before ≡ option_map (saved (first (λ x. file (put x)) xs i)) start → PartSaved (file (put x) ∷ []) before after
      → PartSaved (map file (map put xs)) start after
  put_ended_on i x start before after l t b p = subst (λ files. PartSaved files start after) (both_maps put file xs) (ended_on (λ x. file (put x)) xs i x start before after l t b p)

  pub put_all_saved : (i : ℕ) (start before : Option Tree) → length xs ≤ i → before ≡ option_map (saved (first (λ x. file (put x)) xs i)) start → before ≡ option_map (saved (map file (map put xs))) start
  put_all_saved i start before l b = all_saved (λ x. file (put x)) xs i start before l b ∙ ap (λ files. option_map (saved files) start) (both_maps put file xs)
