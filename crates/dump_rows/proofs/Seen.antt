-- Rows behind references, one after another.
use Rattle.std.proofs.Common.{◌≡◌, ℕ, ◌+◌, ◌<◌, ◌≤◌, Bool, List, [], ◌∷◌, ◌++◌, length, map, take, Option, Some, None, refl, sym, ap, ◌∙◌}
use Rattle.std.proofs.Math.ListN.{get_or}
use Rattle.std.proofs.lemmas.List.{take_more, take_all, map-append, flat_map_more}
use Rattle.std.proofs.lemmas.List.Elements.{filter_map-append, filter-append}
use Rattle.std.specs.List.{filter, filter_map, flat_map}
use Rattle.std.specs.Option.{option_to_list}
use denote.Ref.{Bor}

-- what references point at
abbrev pub seen : {A : Type 0} → List (Bor A) → List A
seen rows = map (λ r. r.now) rows

-- up to a place, and the row there
pub seen_more : {A : Type 0} (rows : List (Bor A)) (i : ℕ) (row : Bor A) → i < length rows → row ≡ get_or rows i row → seen (take (i + 1) rows) ≡ seen (take i rows) ++ row.now ∷ []
seen_more rows i row h is = ap seen (take_more rows i row h ∙ ap (λ r. take i rows ++ r ∷ []) (sym is)) ∙ map-append (λ r. r.now) (take i rows) (row ∷ [])

one_given : {A B : Type 0} (f : A → Option B) (a : A) (o : Option B) → o ≡ f a → option_to_list o ≡ filter_map f (a ∷ [])
one_given {A} {B} f a o e = ap option_to_list e ∙ by (f a) refl
  where
    by : (p : Option B) → f a ≡ p → option_to_list p ≡ filter_map f (a ∷ [])
    by None is = rw is refl
    by (Some b) is = rw is refl

-- ---- at most one from each row

pub some_more : {A B : Type 0} (f : A → Option B) (before after : List B) (o : Option B) (rows : List (Bor A)) (i : ℕ) (row : Bor A) → before ≡ filter_map f (seen (take i rows)) → after ≡ before ++ option_to_list o → o ≡ f row.now → i < length rows → row ≡ get_or rows i row → after ≡ filter_map f (seen (take (i + 1) rows))
some_more f before after o rows i row so added e h is =
    added
    ∙ ap (λ b. b ++ option_to_list o) so
    ∙ ap (λ more. filter_map f (seen (take i rows)) ++ more) (one_given f row.now o e)
    ∙ sym (filter_map-append f (seen (take i rows)) (row.now ∷ []))
    ∙ ap (filter_map f) (sym (seen_more rows i row h is))

pub some_all : {A B : Type 0} (f : A → Option B) (all : List B) (rows : List (Bor A)) (i : ℕ) → all ≡ filter_map f (seen (take i rows)) → length rows ≤ i → all ≡ filter_map f (seen rows)
some_all f all rows i so h = so ∙ ap (λ rs. filter_map f (seen rs)) (take_all i rows h)

-- ---- one from each row

pub each_more : {A B : Type 0} (f : A → B) (before after : List B) (b : B) (rows : List (Bor A)) (i : ℕ) (row : Bor A) → before ≡ map f (seen (take i rows)) → after ≡ before ++ b ∷ [] → b ≡ f row.now → i < length rows → row ≡ get_or rows i row → after ≡ map f (seen (take (i + 1) rows))
each_more f before after b rows i row so added e h is =
    added
    ∙ ap (λ bs. bs ++ b ∷ []) so
    ∙ ap (λ x. map f (seen (take i rows)) ++ x ∷ []) e
    ∙ sym (map-append f (seen (take i rows)) (row.now ∷ []))
    ∙ ap (map f) (sym (seen_more rows i row h is))

pub each_all : {A B : Type 0} (f : A → B) (all : List B) (rows : List (Bor A)) (i : ℕ) → all ≡ map f (seen (take i rows)) → length rows ≤ i → all ≡ map f (seen rows)
each_all f all rows i so h = so ∙ ap (λ rs. map f (seen rs)) (take_all i rows h)

-- ---- a list from each row, behind others

pub lists_more : {A B : Type 0} (f : A → List B) (es before after : List B) (rows : List (Bor A)) (i : ℕ) (row : Bor A) → before ≡ es ++ flat_map f (seen (take i rows)) → after ≡ before ++ f row.now → i < length rows → row ≡ get_or rows i row → after ≡ es ++ flat_map f (seen (take (i + 1) rows))
lists_more f es before after rows i row so added h is =
    added
    ∙ ap (λ b. b ++ f row.now) so
    ∙ flat_map_more f es (seen (take i rows)) row.now
    ∙ ap (λ rs. es ++ flat_map f rs) (sym (seen_more rows i row h is))

pub lists_all : {A B : Type 0} (f : A → List B) (es all : List B) (rows : List (Bor A)) (i : ℕ) → all ≡ es ++ flat_map f (seen (take i rows)) → length rows ≤ i → all ≡ es ++ flat_map f (seen rows)
lists_all f es all rows i so h = so ∙ ap (λ rs. es ++ flat_map f (seen rs)) (take_all i rows h)

-- ---- those of the rows that pass

pub kept_more : {A : Type 0} (p : A → Bool) (before after : List A) (rows : List (Bor A)) (i : ℕ) (row : Bor A) → before ≡ filter p (seen (take i rows)) → after ≡ before ++ filter p (row.now ∷ []) → i < length rows → row ≡ get_or rows i row → after ≡ filter p (seen (take (i + 1) rows))
kept_more p before after rows i row so added h is =
    added
    ∙ ap (λ b. b ++ filter p (row.now ∷ [])) so
    ∙ sym (filter-append p (seen (take i rows)) (row.now ∷ []))
    ∙ ap (filter p) (sym (seen_more rows i row h is))

pub kept_all : {A : Type 0} (p : A → Bool) (all : List A) (rows : List (Bor A)) (i : ℕ) → all ≡ filter p (seen (take i rows)) → length rows ≤ i → all ≡ filter p (seen rows)
kept_all p all rows i so h = so ∙ ap (λ rs. filter p (seen rs)) (take_all i rows h)
