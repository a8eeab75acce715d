-- One call that puts bytes out, behind those that are out.
use Rattle.std.proofs.Common.{◌≡◌, ℕ, ◌≤◌, List, [], ◌++◌, length, take, drop, Option, Some, None, option_map, refl, sym, ap, ◌∙◌, append_assoc, append-nil, inl, inr}
use Rattle.std.specs.FinMap.{insert}
use Rattle.std.proofs.lemmas.List.{take-append-drop}
use Rattle.dump_ports.specs.Tree.{Tree, appended, TakesPrefix}
use Rattle.dump_ports.proofs.Seen.{appended_to}
use Rattle.dump_files.specs.Outlets.{Outside, outside, outputs, IsCut}

behind_text : (bytes more : List ℕ) (o : Option (List ℕ)) → option_map (λ text. text ++ more) (option_map (λ text. text ++ bytes) o) ≡ option_map (λ text. text ++ (bytes ++ more)) o
behind_text bytes more None = refl
behind_text bytes more (Some text) = ap Some (append_assoc text bytes more)

behind_file : (name bytes more : List ℕ) (o : Option Tree) → option_map (appended name more) (option_map (λ tree. insert tree name bytes) o) ≡ option_map (λ tree. insert tree name (bytes ++ more)) o
behind_file name bytes more None = refl
behind_file name bytes more (Some t) = ap Some (appended_to t name bytes more)

none_behind : (o : Option (List ℕ)) → option_map (λ text. text ++ []) o ≡ o
none_behind None = refl
none_behind (Some text) = ap Some (append-nil text)

module _ (bytes more : List ℕ) (before now : Outside) (tree : Option Tree) (written : Option (List ℕ)) where
  -- on standard output
  pub more_printed : now ≡ outputs None bytes before → tree ≡ now.tree → written ≡ option_map (λ text. text ++ more) now.written → outside tree written ≡ outputs None (bytes ++ more) before
  more_printed e t w =
      ap (λ (x : Option Tree). outside x written) (t ∙ ap (λ (o : Outside). o.tree) e)
      ∙ ap (outside before.tree) (w ∙ ap (λ (o : Outside). option_map (λ text. text ++ more) o.written) e ∙ behind_text bytes more before.written)

  -- in a file
  pub more_stored : (name : List ℕ) → now ≡ outputs (Some name) bytes before → tree ≡ option_map (appended name more) now.tree → written ≡ now.written → outside tree written ≡ outputs (Some name) (bytes ++ more) before
  more_stored name e t w =
      ap (λ (x : Option Tree). outside x written) (t ∙ ap (λ (o : Outside). option_map (appended name more) o.tree) e ∙ behind_file name bytes more before.tree)
      ∙ ap (outside (option_map (λ tree. insert tree name (bytes ++ more)) before.tree)) (w ∙ ap (λ (o : Outside). o.written) e)

-- some first part of the bytes is behind those that were out
cut_behind : (target : Option (List ℕ)) (bytes more : List ℕ) (n : ℕ) (before after : Outside) → after ≡ outputs target (bytes ++ take n more) before → IsCut target (bytes ++ more) before after
cut_behind target bytes more n before after e =
    (bytes ++ take n more, drop n more, ap (λ (l : List ℕ). bytes ++ l) (sym (take-append-drop n more)) ∙ sym (append_assoc bytes (take n more) (drop n more)), e)

pub cut_printed : (bytes more : List ℕ) (before now : Outside) (tree : Option Tree) (written : Option (List ℕ)) → now ≡ outputs None bytes before → tree ≡ now.tree
    → ((n : ℕ) × (n ≤ length more) × (written ≡ option_map (λ text. text ++ take n more) now.written)) → IsCut None (bytes ++ more) before (outside tree written)
cut_printed bytes more before now tree written e t p = cut_behind None bytes more p.0 before (outside tree written) (more_printed bytes (take p.0 more) before now tree written e t p.2)

pub cut_stored : (name bytes more : List ℕ) (before now : Outside) (tree : Option Tree) (written : Option (List ℕ)) → now ≡ outputs (Some name) bytes before → written ≡ now.written
    → TakesPrefix (appended name) more now.tree tree → IsCut (Some name) (bytes ++ more) before (outside tree written)
cut_stored name bytes more before now tree written e w (inl t) = (bytes, more, refl, ap (λ (x : Option Tree). outside x written) t ∙ ap (outside now.tree) w ∙ e)
cut_stored name bytes more before now tree written e w (inr p) = cut_behind (Some name) bytes more p.0 before (outside tree written) (more_stored bytes (take p.0 more) before now tree written name e p.2 w)

-- ---- a dump that is begun

pub begun_out : (before : Outside) → before ≡ outputs None [] before
begun_out before = ap (outside before.tree) (sym (none_behind before.written))
