-- Which entries a restore takes doesn't go by the place of their rows.
use Rattle.std.proofs.Common.{◌≡◌, ℕ, ◌+◌, ◌==◌, Bool, true, false, List, [], ◌∷◌, map, reverse, take, length, cond, Option, Some, None, option_and_then, refl, sym, ap, ◌∙◌}
use Rattle.std.specs.List.{filter, range_with_len}
use Rattle.std.proofs.lemmas.List.{take-map, length-map}
use Rattle.toc_entry.specs.declared.entry.Entry.{Entry}
use Rattle.entry_choices.specs.declared.options.Options.{Options}
use Rattle.entry_choices.specs.Choices.{first_dependency, section_by, section_among, takes, is_taken_among, is_first_taken, wanted, wanted_places}
use Rattle.archive_laws.specs.Restored.{bare}
use Rattle.archive_laws.proofs.Bare.{reverse_bare}

and_then_same : {A B : Type 0} (f g : A → Option B) → ((x : A) → f x ≡ g x) → (o : Option A) → option_and_then f o ≡ option_and_then g o
and_then_same f g h None = refl
and_then_same f g h (Some x) = h x

pick : {A : Type 0} (b : Bool) (x y v w : A) → x ≡ v → y ≡ w → elim b as (λ _. A) [ true ↦ x | false ↦ y ] ≡ elim b as (λ _. A) [ true ↦ v | false ↦ w ]
pick true x y v w e f = e
pick false x y v w e f = f

section_bare : (before : List Entry) (id : ℕ) → section_among (map bare before) id ≡ section_among before id
unfolding section_among
section_bare [] id = refl
section_bare (e ∷ before) id =
    pick (e.dump_id == id) _ _ _ _
    (ap (λ (s : Option ℕ). Some (section_by s e)) (and_then_same (section_among (map bare before)) (section_among before) (section_bare before) (first_dependency e)))
    (section_bare before id)

section_behind_bare : (before : List Entry) (e : Entry) → section_by (option_and_then (section_among (map bare before)) (first_dependency e)) e ≡ section_by (option_and_then (section_among before) (first_dependency e)) e
section_behind_bare before e = ap (λ (s : Option ℕ). section_by s e) (and_then_same (section_among (map bare before)) (section_among before) (section_bare before) (first_dependency e))

taken_bare : (o : Options) (before : List Entry) (id : ℕ) → is_taken_among o (map bare before) id ≡ is_taken_among o before id
unfolding is_taken_among
taken_bare o [] id = refl
taken_bare o (e ∷ before) id =
    pick (e.dump_id == id) _ _ _ _
    (ap (λ (s : ℕ). Some (takes o s (option_and_then (is_taken_among o (map bare before)) (first_dependency e)) e)) (section_behind_bare before e)
    ∙ ap (λ (t : Option Bool). Some (takes o (section_by (option_and_then (section_among before) (first_dependency e)) e) t e)) (and_then_same (is_taken_among o (map bare before)) (is_taken_among o before) (taken_bare o before) (first_dependency e)))
    (taken_bare o before id)

first_taken_bare : (o : Options) (before : List Entry) → is_first_taken o (map bare before) ≡ is_first_taken o before
first_taken_bare o [] = refl
first_taken_bare o (e ∷ before) =
    ap (λ (s : ℕ). takes o s (option_and_then (is_taken_among o (map bare before)) (first_dependency e)) e) (section_behind_bare before e)
    ∙ ap (λ (t : Option Bool). takes o (section_by (option_and_then (section_among before) (first_dependency e)) e) t e) (and_then_same (is_taken_among o (map bare before)) (is_taken_among o before) (taken_bare o before) (first_dependency e))

wanted_bare : (o : Options) (es : List Entry) (i : ℕ) → wanted o (map bare es) i ≡ wanted o es i
unfolding wanted
wanted_bare o es i =
    ap (λ (l : List Entry). is_first_taken o (reverse l)) (take-map bare (i + 1) es)
    ∙ ap (is_first_taken o) (reverse_bare (take (i + 1) es))
    ∙ first_taken_bare o (reverse (take (i + 1) es))

-- alike entries are wanted alike
pub wanted_alike : (o : Options) (ws es : List Entry) (i : ℕ) → map bare ws ≡ map bare es → wanted o ws i ≡ wanted o es i
wanted_alike o ws es i h = sym (wanted_bare o ws i) ∙ ap (λ (l : List Entry). wanted o l i) h ∙ wanted_bare o es i

filter_same : (p q : ℕ → Bool) → ((i : ℕ) → p i ≡ q i) → (places : List ℕ) → filter p places ≡ filter q places
filter_same p q h [] = refl
filter_same p q h (i ∷ places) =
    ap (λ (b : Bool). cond b (i ∷ filter p places) (filter p places)) (h i)
    ∙ ap (λ (l : List ℕ). cond (q i) (i ∷ l) l) (filter_same p q h places)

pub places_alike : (o : Options) (es ws : List Entry) → map bare ws ≡ map bare es → wanted_places o ws ≡ wanted_places o es
places_alike o es ws h =
    filter_same (wanted o ws) (wanted o es) (λ i. wanted_alike o ws es i h) (range_with_len 0 (length ws))
    ∙ ap (λ (n : ℕ). filter (wanted o es) (range_with_len 0 n)) (sym (length-map ws bare) ∙ ap length h ∙ length-map es bare)
