-- One more word behind those that stand with commas.
use Rattle.std.proofs.Common.{◌≡◌, ℕ, Bool, true, false, List, [], ◌∷◌, ◌++◌, refl, ap, ◌∙◌, append_assoc, ◌+◌, ◌<◌, length, take, get_or, ◌&&◌, ◌||◌, codes}
use Rattle.std.proofs.{lemmas.Grind.flat_map-append, lemmas.List.append-nil, lemmas.List.take_more}
use Rattle.std.specs.List.{flat_map}
use Rattle.ddl_spelling.specs.{Paths.only_if, RightsText.word_there, RightsText.with_commas}
use Rattle.ddl_write.specs.declared.rights.Right.{Right}

pub no_commas : with_commas [] ≡ []
unfolding with_commas
no_commas = refl

-- whether there is a word
pub any_word : List (List ℕ) → Bool
any_word [] = false
any_word (word ∷ words) = true

pub no_word : any_word [] ≡ false
unfolding any_word
no_word = refl

pub any_more : (words : List (List ℕ)) (has : Bool) (word : List ℕ) → any_word (words ++ word_there has word) ≡ (any_word words || has)
unfolding any_word
any_more [] false word = refl
any_more [] true word = refl
any_more (first ∷ more) false word = refl
any_more (first ∷ more) true word = refl

pub one_more : (words : List (List ℕ)) (has : Bool) (word : List ℕ)
    → with_commas (words ++ word_there has word) ≡ with_commas words ++ (only_if (any_word words && has) (codes ",") ++ only_if has word)
unfolding with_commas any_word
one_more [] false word = refl
one_more [] true word = append-nil word
one_more (first ∷ more) false word = rw (flat_map-append (λ (w : List ℕ). codes "," ++ w) more []) (simp append_assoc)
one_more (first ∷ more) true word = rw (flat_map-append (λ (w : List ℕ). codes "," ++ w) more (word ∷ [])) (simp (append_assoc, append-nil))

-- the words of the rights that are there
abbrev pub words_of : List Right → List (List ℕ)
words_of rights = flat_map (λ right. word_there right.0 right.1.now) rights

pub words_with : (rights : List Right) (right : Right) → words_of (rights ++ right ∷ []) ≡ words_of rights ++ word_there right.0 right.1.now
words_with rights right =
    flat_map-append (λ (r : Right). word_there r.0 r.1.now) rights (right ∷ []) ∙ ap (λ (l : List (List ℕ)). words_of rights ++ l) (append-nil (word_there right.0 right.1.now))

pub words_at : (rights : List Right) (i : ℕ) (d : Right) → i < length rights → words_of (take (i + 1) rights) ≡ words_of (take i rights) ++ word_there (get_or rights i d).0 (get_or rights i d).1.now
words_at rights i d below = ap words_of (take_more rights i d below) ∙ words_with (take i rights) (get_or rights i d)

pub one_right_at : (rights : List Right) (i : ℕ) (d : Right) → i < length rights
    → with_commas (words_of (take (i + 1) rights))
    ≡ with_commas (words_of (take i rights)) ++ (only_if (any_word (words_of (take i rights)) && (get_or rights i d).0) (codes ",") ++ only_if (get_or rights i d).0 (get_or rights i d).1.now)
one_right_at rights i d below = ap with_commas (words_at rights i d below) ∙ one_more (words_of (take i rights)) (get_or rights i d).0 (get_or rights i d).1.now

pub any_right_at : (rights : List Right) (i : ℕ) (d : Right) → i < length rights
    → any_word (words_of (take (i + 1) rights)) ≡ (any_word (words_of (take i rights)) || (get_or rights i d).0)
any_right_at rights i d below = ap any_word (words_at rights i d below) ∙ any_more (words_of (take i rights)) (get_or rights i d).0 (get_or rights i d).1.now
