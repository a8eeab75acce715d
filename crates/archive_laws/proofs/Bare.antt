-- Entries without what they tell of the place of their rows.
use Rattle.std.proofs.Common.{◌≡◌, List, [], ◌∷◌, ◌++◌, map, reverse, refl, sym, ap, ◌∙◌}
use Rattle.std.proofs.lemmas.List.{reverse-append, map-append}
use Rattle.toc_entry.specs.declared.entry.Entry.{Entry}
use Rattle.archive_laws.specs.Restored.{bare}

-- ---- lists that are alike

pub first_bare : (w e : Entry) (ws es : List Entry) → map bare (w ∷ ws) ≡ map bare (e ∷ es) → bare w ≡ bare e
first_bare w e ws es h = cc

pub rest_bare : (w e : Entry) (ws es : List Entry) → map bare (w ∷ ws) ≡ map bare (e ∷ es) → map bare ws ≡ map bare es
rest_bare w e ws es h = cc

pub reverse_bare : (es : List Entry) → reverse (map bare es) ≡ map bare (reverse es)
reverse_bare [] = refl
reverse_bare (e ∷ es) =
    reverse-append (bare e ∷ []) (map bare es)
    ∙ ap (λ (l : List Entry). l ++ bare e ∷ []) (reverse_bare es)
    ∙ sym (map-append bare (reverse es) (e ∷ []))
    ∙ ap (map bare) (sym (reverse-append (e ∷ []) es))
