-- Names are distinct where each is new behind those before it.
use Rattle.std.proofs.Common.{◌≡◌, ℕ, ◌+◌, ◌<◌, Bool, true, false, not, ◌&&◌, ◌||◌, List, [], ◌∷◌, ◌++◌, length, take, drop, get_or, refl, sym, ap, ◌∙◌}
use Rattle.std.proofs.Math.Bool.{or-false}
use Rattle.std.proofs.lemmas.List.{take_more, drop_more}
use Rattle.std.specs.List.{list_any, list_all}
use Rattle.std.specs.Ordering.{eq_by_cmp}
use Rattle.std.proofs.lemmas.Cmp.{eq_by_cmp_equiv}
use Rattle.std.specs.Cmp.Lexicographic.{nat_list_cmp_total}
use Rattle.std.proofs.lemmas.Map.Text.{is_eq-slice_cmp}
use Rattle.std.proofs.lemmas.List.Folds.{list_any-append}
use Rattle.cat_model.specs.Lexemes.{same_text}
use Rattle.cat_model.specs.Tables.{distinct}
use Rattle.cat_model.specs.Values.{Bytes, bytes_cmp}

abbrev pub same_name : Bytes → Bytes → Bool
same_name = eq_by_cmp bytes_cmp

-- whether one of the names is this one
abbrev pub has_name : List Bytes → Bytes → Bool
has_name names name = list_any (same_name name) names

-- each name is new behind those before it
abbrev pub fresh_behind : List Bytes → List Bytes → Bool
fresh_behind before [] = true
fresh_behind before (x ∷ xs) = not (has_name before x) && fresh_behind (before ++ x ∷ []) xs

abbrev all_new : List Bytes → List Bytes → Bool
all_new before xs = list_all (λ x. not (has_name before x)) xs

same_name_is : (a b : Bytes) → same_name a b ≡ same_text a b
same_name_is a b = is_eq-slice_cmp a b

turned : (a b : Bytes) → same_name a b ≡ same_name b a
turned a b = (eq_by_cmp_equiv nat_list_cmp_total).symm a b

all_nothing : (xs : List Bytes) → all_new [] xs ≡ true
all_nothing [] = refl
all_nothing (x ∷ xs) = all_nothing xs

one_more : (b s o : Bool) → not (b || (s || false)) && o ≡ not b && (not s && o)
one_more true s o = refl
one_more false true o = refl
one_more false false o = refl

apart : (b s o n : Bool) → not b && (not s && (o && not n)) ≡ (not b && o) && not (s || n)
apart true s o n = refl
apart false true o n = by o
  where
    by : (p : Bool) → false ≡ p && false
    by true = refl
    by false = refl
apart false false o n = refl

-- names are new behind one more where they are new and none of them is it
more_new : (before : List Bytes) (x : Bytes) (xs : List Bytes) → all_new (before ++ x ∷ []) xs ≡ all_new before xs && not (list_any (same_text x) xs)
more_new before x [] = refl
more_new before x (y ∷ ys) =
    ap (λ b. not b && all_new (before ++ x ∷ []) ys) (list_any-append (same_name y) before (x ∷ []))
    ∙ one_more (has_name before y) (same_name y x) (all_new (before ++ x ∷ []) ys)
    ∙ ap (λ b. not (has_name before y) && (not b && all_new (before ++ x ∷ []) ys)) (turned y x ∙ same_name_is x y)
    ∙ ap (λ o. not (has_name before y) && (not (same_text x y) && o)) (more_new before x ys)
    ∙ apart (has_name before y) (same_text x y) (all_new before ys) (list_any (same_text x) ys)

regrouped : (n a s d : Bool) → n && ((a && not s) && d) ≡ (n && a) && (not s && d)
regrouped true true s d = refl
regrouped true false s d = refl
regrouped false a s d = refl

fresh_is : (before xs : List Bytes) → fresh_behind before xs ≡ all_new before xs && distinct xs
fresh_is before [] = refl
fresh_is before (x ∷ xs) =
    ap (λ o. not (has_name before x) && o) (fresh_is (before ++ x ∷ []) xs)
    ∙ ap (λ o. not (has_name before x) && (o && distinct xs)) (more_new before x xs)
    ∙ regrouped (not (has_name before x)) (all_new before xs) (list_any (same_text x) xs) (distinct xs)

pub distinct_is : (xs : List Bytes) → distinct xs ≡ fresh_behind [] xs
distinct_is xs = sym (fresh_is [] xs ∙ ap (λ b. b && distinct xs) (all_nothing xs))

-- ---- at a place

-- the names so far, with the one at the place
pub one_name_more : (xs : List Bytes) (i : ℕ) (x name : Bytes) → i < length xs → x ≡ get_or xs i x → has_name (take (i + 1) xs) name ≡ has_name (take i xs) name || same_name name x
one_name_more xs i x name lt is =
    ap (λ ys. has_name ys name) (take_more xs i x lt ∙ ap (λ y. take i xs ++ y ∷ []) (sym is))
    ∙ list_any-append (same_name name) (take i xs) (x ∷ [])
    ∙ ap (λ b. has_name (take i xs) name || b) (or-false (same_name name x))

at_name : (xs : List Bytes) (i : ℕ) (x : Bytes) (b : Bool) → i < length xs → x ≡ get_or xs i x → has_name (take i xs) x ≡ b
    → fresh_behind (take i xs) (drop i xs) ≡ not b && fresh_behind (take i xs ++ x ∷ []) (drop (i + 1) xs)
at_name xs i x b lt is e =
    ap (fresh_behind (take i xs)) (drop_more xs i x lt ∙ ap (λ y. y ∷ drop (i + 1) xs) (sym is))
    ∙ ap (λ b. not b && fresh_behind (take i xs ++ x ∷ []) (drop (i + 1) xs)) e

-- a name that was there before makes them not distinct
pub repeated : (xs : List Bytes) (i : ℕ) (x : Bytes) → i < length xs → x ≡ get_or xs i x → has_name (take i xs) x ≡ true → fresh_behind (take i xs) (drop i xs) ≡ false
repeated xs i x lt is e = at_name xs i x true lt is e

pub passed : (xs : List Bytes) (i : ℕ) (x : Bytes) → i < length xs → x ≡ get_or xs i x → has_name (take i xs) x ≡ false → fresh_behind (take i xs) (drop i xs) ≡ fresh_behind (take (i + 1) xs) (drop (i + 1) xs)
passed xs i x lt is e =
    at_name xs i x false lt is e
    ∙ ap (λ ys. fresh_behind ys (drop (i + 1) xs)) (sym (take_more xs i x lt ∙ ap (λ y. take i xs ++ y ∷ []) (sym is)))
