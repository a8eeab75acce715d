-- Entries that rows give one after another.
use Rattle.std.proofs.Common.{◌≡◌, ℕ, ◌+◌, ◌<◌, ◌≤◌, List, [], ◌∷◌, ◌++◌, length, take, sym, ap, ◌∙◌}
use Rattle.std.proofs.Math.ListN.{get_or}
use Rattle.std.proofs.lemmas.List.{take_more, take_all, flat_map_more, append-nil}
use Rattle.std.specs.List.{flat_map}

-- before the first row
pub row_none : {R E : Type 0} (f : R → List E) (es : List E) (rows : List R) → es ≡ es ++ flat_map f (take 0 rows)
row_none f es rows = sym (append-nil es)

-- with the entries of one row more
pub row_more : {R E : Type 0} (f : R → List E) (es before after : List E) (rows : List R) (i : ℕ) (row : R) → before ≡ es ++ flat_map f (take i rows) → after ≡ before ++ f row → i < length rows → row ≡ get_or rows i row → after ≡ es ++ flat_map f (take (i + 1) rows)
row_more {R} {E} f es before after rows i row so added h is =
    added
    ∙ ap (λ (all : List E). all ++ f row) so
    ∙ flat_map_more f es (take i rows) row
    ∙ ap (λ rs. es ++ flat_map f rs) (ap (λ r. take i rows ++ r ∷ []) is ∙ sym (take_more rows i row h))

-- the same where the row is read at its place
pub row_at : {R E : Type 0} (f : R → List E) (es before after : List E) (rows : List R) (i : ℕ) (d : R) → before ≡ es ++ flat_map f (take i rows) → after ≡ before ++ f (get_or rows i d) → i < length rows → after ≡ es ++ flat_map f (take (i + 1) rows)
row_at {R} {E} f es before after rows i d so added h =
    added
    ∙ ap (λ (all : List E). all ++ f (get_or rows i d)) so
    ∙ flat_map_more f es (take i rows) (get_or rows i d)
    ∙ ap (λ rs. es ++ flat_map f rs) (sym (take_more rows i d h))

-- behind the last row
pub rows_all : {R E : Type 0} (f : R → List E) (es all : List E) (rows : List R) (i : ℕ) → all ≡ es ++ flat_map f (take i rows) → length rows ≤ i → all ≡ es ++ flat_map f rows
rows_all f es all rows i so h = so ∙ ap (λ rs. es ++ flat_map f rs) (take_all i rows h)
