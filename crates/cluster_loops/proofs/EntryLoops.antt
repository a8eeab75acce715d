-- Entries whose keys and values are read one by one, in a loop that adds the row of each entry that has one.
use Rattle.std.proofs.Common.{◌≡◌, ℕ, zero, suc, ◌+◌, ◌<◌, List, [], ◌∷◌, ◌++◌, length, map, take, Option, filter_map, option_to_list, refl, sym, ap₂, subst, ◌∙◌, arith, Bor}
use Rattle.std.specs.List.{AllByRecursion}
use Rattle.std.proofs.Math.ListN.{get_or}
use Rattle.std.specs.Map.Iter.{deref_pair}
use Rattle.cat_model.specs.declared.key.Key.{Key}
use Rattle.cat_model.specs.declared.value.Value.{Value}
use Rattle.cat_names.specs.Naming.{Entry}
use Rattle.map_export.specs.Making.{IsRowOf, AreSaid}
use Rattle.map_export.proofs.Loops.{loop_more}

-- ---- what holds of each entry

pub all_at : {X E : Type 0} (P : E → Type 0) (g : X → E) (xs : List X) (i : ℕ) (x : X) → i < length xs → x ≡ get_or xs i x → AllByRecursion P (map g xs) → P (g x)
all_at P g [] i x within is all = absurd (omega arith)
all_at P g (y ∷ xs) zero x within is all = subst (λ z. P (g z)) (sym is) all.0
all_at P g (y ∷ xs) (suc i) x within is all = all_at P g xs i x (omega arith) is all.1

-- ---- the key and the value of an entry that are read one by one

abbrev pub Read : Type 0
Read = Bor Key × Bor Value

abbrev pub seen : Read → Entry
seen = deref_pair {K = Key} {X = Value}

same_at : {X : Type 0} (xs : List X) (i : ℕ) (x y : X) → i < length xs → get_or xs i x ≡ get_or xs i y
same_at [] i x y within = absurd (omega arith)
same_at (z ∷ xs) zero x y within = refl
same_at (z ∷ xs) (suc i) x y within = same_at xs i x y (omega arith)

-- the key and the value at a place
abbrev pub read_at : List Read → ℕ → Read → Read → Entry
read_at xs i x y = ((get_or xs i x).0.now, (get_or xs i y).1.now)

pub entry_at : (xs : List Read) (i : ℕ) (x y : Read) → i < length xs → x ≡ get_or xs i x → read_at xs i x y ≡ seen x
entry_at xs i x y within is =
    let first : get_or xs i x ≡ x = sym is in
    let second : get_or xs i y ≡ x = same_at xs i y x within ∙ sym is in
    ap₂ (λ (a b : Read). (a.0.now, b.1.now)) first second

-- what holds of each entry holds of the one that is read
pub read_good : (P : Entry → Type 0) (xs : List Read) (i : ℕ) (x y : Read) → i < length xs → x ≡ get_or xs i x → AllByRecursion P (map seen xs) → P (read_at xs i x y)
read_good P xs i x y within is all = subst P (sym (entry_at xs i x y within is)) (all_at P seen xs i x within is all)

-- one more entry, that has one row at most
pub one_more : {T R : Type 0} (Says : T → R → Type 0) (xs : List Read) (i : ℕ) (x y : Read) (rows after : List R) → i < length xs → x ≡ get_or xs i x → (f : Entry → Option T) (row : Option R) → AreSaid Says (filter_map f (map seen (take i xs))) rows → IsRowOf Says (f (read_at xs i x y)) row → after ≡ rows ++ option_to_list row → AreSaid Says (filter_map f (map seen (take (i + 1) xs))) after
one_more Says xs i x y rows after within is f row said more added =
    loop_more Says f seen xs i x rows after row within is said (subst (λ (e : Entry). IsRowOf Says (f e) row) (entry_at xs i x y within is) more) added
