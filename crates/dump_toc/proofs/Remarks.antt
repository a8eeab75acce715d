-- What rows give one after another, seen through a function, behind what was there.
use Rattle.std.proofs.Common.{◌≡◌, ℕ, ◌+◌, ◌<◌, ◌≤◌, List, [], ◌∷◌, ◌++◌, length, map, take, Option, Some, None, refl, sym, ap, append_assoc, ◌∙◌}
use Rattle.std.proofs.Math.ListN.{get_or}
use Rattle.std.proofs.lemmas.List.{take_all, map-append, append-nil}
use Rattle.std.proofs.lemmas.Grind.{flat_map-append}
use Rattle.std.proofs.lemmas.List.Elements.{filter_map-append}
use Rattle.std.specs.List.{filter_map, flat_map}
use Rattle.std.specs.Option.{option_to_list}
use denote.Ref.{Bor}
use Rattle.dump_rows.proofs.Seen.{seen, seen_more}

one_given : {A B : Type 0} (f : A → Option B) (a : A) (o : Option B) → o ≡ f a → option_to_list o ≡ filter_map f (a ∷ [])
one_given {A} {B} f a o e = ap option_to_list e ∙ by (f a) refl
  where
    by : (p : Option B) → f a ≡ p → option_to_list p ≡ filter_map f (a ∷ [])
    by None is = rw is refl
    by (Some b) is = rw is refl

pub remarks_none : {A D : Type 0} (f : List A → List D) (es : List D) → f [] ≡ [] → es ≡ es ++ f []
remarks_none f es none = sym (append-nil es) ∙ ap (λ more. es ++ more) (sym none)

pub remarks_more : {A B D : Type 0} (g : B → D) (f : A → Option B) (es before after : List D) (o : Option B) (rows : List (Bor A)) (i : ℕ) (row : Bor A) → before ≡ es ++ map g (filter_map f (seen (take i rows))) → after ≡ before ++ map g (option_to_list o) → o ≡ f row.now → i < length rows → row ≡ get_or rows i row → after ≡ es ++ map g (filter_map f (seen (take (i + 1) rows)))
remarks_more g f es before after o rows i row so added e h is =
    added
    ∙ ap (λ b. b ++ map g (option_to_list o)) so
    ∙ append_assoc es (map g (filter_map f (seen (take i rows)))) (map g (option_to_list o))
    ∙ ap (λ more. es ++ more)
    (sym (map-append g (filter_map f (seen (take i rows))) (option_to_list o))
    ∙ ap (map g)
    (ap (λ more. filter_map f (seen (take i rows)) ++ more) (one_given f row.now o e)
    ∙ sym (filter_map-append f (seen (take i rows)) (row.now ∷ []))
    ∙ ap (filter_map f) (sym (seen_more rows i row h is))))

pub remarks_all : {A B D : Type 0} (g : B → D) (f : A → Option B) (es all : List D) (rows : List (Bor A)) (i : ℕ) → all ≡ es ++ map g (filter_map f (seen (take i rows))) → length rows ≤ i → all ≡ es ++ map g (filter_map f (seen rows))
remarks_all g f es all rows i so h = so ∙ ap (λ rs. es ++ map g (filter_map f (seen rs))) (take_all i rows h)

pub lists_more : {A B D : Type 0} (g : B → D) (f : A → List B) (es before after : List D) (rows : List (Bor A)) (i : ℕ) (row : Bor A) → before ≡ es ++ map g (flat_map f (seen (take i rows))) → after ≡ before ++ map g (f row.now) → i < length rows → row ≡ get_or rows i row → after ≡ es ++ map g (flat_map f (seen (take (i + 1) rows)))
lists_more g f es before after rows i row so added h is =
    added
    ∙ ap (λ b. b ++ map g (f row.now)) so
    ∙ append_assoc es (map g (flat_map f (seen (take i rows)))) (map g (f row.now))
    ∙ ap (λ more. es ++ more)
    (sym (map-append g (flat_map f (seen (take i rows))) (f row.now))
    ∙ ap (map g)
    (ap (λ more. flat_map f (seen (take i rows)) ++ more) (sym (append-nil (f row.now)))
    ∙ sym (flat_map-append f (seen (take i rows)) (row.now ∷ []))
    ∙ ap (flat_map f) (sym (seen_more rows i row h is))))

pub lists_all : {A B D : Type 0} (g : B → D) (f : A → List B) (es all : List D) (rows : List (Bor A)) (i : ℕ) → all ≡ es ++ map g (flat_map f (seen (take i rows))) → length rows ≤ i → all ≡ es ++ map g (flat_map f (seen rows))
lists_all g f es all rows i so h = so ∙ ap (λ rs. es ++ map g (flat_map f (seen rs))) (take_all i rows h)

-- one list and another one behind it
pub both_lists : {B D : Type 0} (g : B → D) (es middle all : List D) (xs ys : List B) → middle ≡ es ++ map g xs → all ≡ middle ++ map g ys → all ≡ es ++ map g (xs ++ ys)
both_lists g es middle all xs ys one two =
    two ∙ ap (λ m. m ++ map g ys) one ∙ append_assoc es (map g xs) (map g ys) ∙ ap (λ more. es ++ more) (sym (map-append g xs ys))
