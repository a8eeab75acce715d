-- Lists with something between their items, by the first and the rest.
use Rattle.std.proofs.Common.{◌≡◌, ℕ, ◌<◌, ◌-◌, ◌++◌, List, [], ◌∷◌, length, map, take, drop, get_or, codes, sym, ap, ◌∙◌, arith}
use Rattle.std.proofs.{lemmas.List.Folds.flat_map-map, lemmas.Grind.flat_map-append, lemmas.List.take_all}
use Rattle.std.specs.List.{flat_map}
use Rattle.sql_lex.specs.Written.{written_name}
use Rattle.ddl_spelling.specs.{Paths.listed, Tables.in_lines}

-- all but the first item
abbrev pub rest : {A : Type 0} → List A → List A
rest xs = take (length xs - 1) (drop 1 xs)

pub rest_of : {A : Type 0} (x : A) (xs : List A) → xs ≡ rest (x ∷ xs)
rest_of x xs = sym (take_all (length (x ∷ xs) - 1) xs (omega arith))

abbrev pub names_text : List ℕ → List (List ℕ) → List ℕ
names_text first more = (codes "(" ++ written_name first) ++ flat_map (λ n. codes ", " ++ written_name n) more ++ codes ")"

pub listed_at : (names : List (List ℕ)) (first : List ℕ) → 0 < length names → first ≡ get_or names 0 first → listed names ≡ names_text first (rest names)
unfolding listed
listed_at [] first some is = absurd (omega arith)
listed_at (name ∷ names) first some is = ap (names_text name) (rest_of name names) ∙ ap (λ (n : List ℕ). names_text n (rest (name ∷ names))) (sym is)

-- the text of what follows the first line
abbrev pub more_lines : {A : Type 0} → (A → List ℕ) → List A → List ℕ
more_lines f xs = flat_map (λ x. codes ",\n    " ++ f x) xs

pub more_of : {A : Type 0} (f : A → List ℕ) (xs : List A) → flat_map (λ line. codes ",\n    " ++ line) (map f xs) ≡ more_lines f xs
more_of f xs = flat_map-map (λ line. codes ",\n    " ++ line) f xs

abbrev pub lines_text : List ℕ → List ℕ → List ℕ
lines_text first more = (codes "\n    " ++ first) ++ more

pub lines_at : {A : Type 0} (f : A → List ℕ) (xs : List A) (first : A) → 0 < length xs → first ≡ get_or xs 0 first → in_lines (map f xs) ≡ lines_text (f first) (more_lines f (rest xs))
lines_at f [] first some is = absurd (omega arith)
lines_at {A} f (x ∷ xs) first some is =
    ap (lines_text (f x)) (more_of f xs ∙ ap (more_lines f) (rest_of x xs)) ∙ ap (λ (y : A). lines_text (f y) (more_lines f (rest (x ∷ xs)))) (sym is)

pub both_lines_at : {A B : Type 0} (f : A → List ℕ) (g : B → List ℕ) (xs : List A) (ys : List B) (first : A) → 0 < length xs → first ≡ get_or xs 0 first
    → in_lines (map f xs ++ map g ys) ≡ lines_text (f first) (more_lines f (rest xs) ++ more_lines g ys)
both_lines_at f g [] ys first some is = absurd (omega arith)
both_lines_at {A} f g (x ∷ xs) ys first some is =
    ap (lines_text (f x)) (flat_map-append (λ (line : List ℕ). codes ",\n    " ++ line) (map f xs) (map g ys) ∙ ap (λ (l : List ℕ). l ++ flat_map (λ line. codes ",\n    " ++ line) (map g ys)) (more_of f xs)
    ∙ ap (λ (l : List ℕ). more_lines f xs ++ l) (more_of g ys)
    ∙ ap (λ (l : List A). more_lines f l ++ more_lines g ys) (rest_of x xs))
    ∙ ap (λ (y : A). lines_text (f y) (more_lines f (rest (x ∷ xs)) ++ more_lines g ys)) (sym is)
