-- The roles that have rights, one item after another, and in order once they are sorted.
use Rattle.std.proofs.Common.{◌≡◌, ℕ, ◌+◌, ◌<◌, ◌≤◌, Bool, List, [], ◌∷◌, ◌++◌, length, map, take, Option, Some, None, refl, sym, ap, ◌∙◌, inl, inr}
use Rattle.std.proofs.Math.ListN.{get_or}
use Rattle.std.proofs.lemmas.Bool.{cases_Bool}
use Rattle.std.proofs.lemmas.List.{take_more, take_all}
use Rattle.std.proofs.lemmas.List.Elements.{filter_map-append}
use Rattle.std.proofs.lemmas.Cmp.{nat_list_cmp_total}
use Rattle.std.proofs.lemmas.List.Sorted.{ranks_by}
use Rattle.std.specs.List.{filter, filter_map}
use Rattle.std.specs.List.Sorted.{IsSortedBy, ties}
use Rattle.std.specs.Cmp.{IsStrictWeakOrder}
use Rattle.std.specs.Option.{option_to_list}
use Rattle.dep_sort.specs.FirstOrder.{placed, in_order}
use Rattle.dep_sort.proofs.InOrder.{sort_gives}
use Rattle.dump_grants.specs.declared.items.RoleItem.{RoleItem}
use Rattle.dump_grants.specs.Holders.{name_less}
use Rattle.dump_grants.specs.Seen.{role_seen}

one_given : {A B : Type 0} (f : A → Option B) (a : A) (o : Option B) → o ≡ f a → option_to_list o ≡ filter_map f (a ∷ [])
one_given {A} {B} f a o e = ap option_to_list e ∙ by (f a) refl
  where
    by : (p : Option B) → f a ≡ p → option_to_list p ≡ filter_map f (a ∷ [])
    by None is = rw is refl
    by (Some b) is = rw is refl

pub given_more : {A B : Type 0} (f : A → Option B) (before after : List B) (o : Option B) (xs : List A) (i : ℕ) (x : A) → before ≡ filter_map f (take i xs) → after ≡ before ++ option_to_list o → o ≡ f x → i < length xs → x ≡ get_or xs i x → after ≡ filter_map f (take (i + 1) xs)
given_more f before after o xs i x so added e h is =
    added
    ∙ ap (λ b. b ++ option_to_list o) so
    ∙ ap (λ more. filter_map f (take i xs) ++ more) (one_given f x o e)
    ∙ sym (filter_map-append f (take i xs) (x ∷ []))
    ∙ ap (filter_map f) (ap (λ y. take i xs ++ y ∷ []) is ∙ sym (take_more xs i x h))

pub given_all : {A B : Type 0} (f : A → Option B) (all : List B) (xs : List A) (i : ℕ) → all ≡ filter_map f (take i xs) → length xs ≤ i → all ≡ filter_map f xs
given_all f all xs i so h = so ∙ ap (filter_map f) (take_all i xs h)

-- ---- order

abbrev pub less : RoleItem → RoleItem → Bool
less a b = name_less (role_seen a) (role_seen b)

pub role_order : IsStrictWeakOrder less
role_order = ranks_by nat_list_cmp_total (λ (r : RoleItem). r.name.now)

map_placed : {X Y : Type 0} (f : X → Y) (below : Y → Y → Bool) (x : X) (ys : List X) → map f (placed (λ a b. below (f a) (f b)) x ys) ≡ placed below (f x) (map f ys)
unfolding placed
map_placed f below x [] = refl
map_placed {X} {Y} f below x (y ∷ ys) =
    elim (cases_Bool (below (f y) (f x))) [
      | inl is ↦ rw is (ap (λ (l : List Y). f y ∷ l) (map_placed f below x ys))
      | inr isnt ↦ rw isnt refl
    ]

map_in_order : {X Y : Type 0} (f : X → Y) (below : Y → Y → Bool) (xs : List X) → map f (in_order (λ a b. below (f a) (f b)) xs) ≡ in_order below (map f xs)
unfolding in_order
map_in_order f below [] = refl
map_in_order f below (x ∷ xs) = map_placed f below x (in_order (λ a b. below (f a) (f b)) xs) ∙ ap (placed below (f x)) (map_in_order f below xs)

pub roles_are : (roles sorted : List RoleItem) → IsSortedBy less sorted → ((z : RoleItem) → filter (ties less z) sorted ≡ filter (ties less z) roles) → map role_seen sorted ≡ in_order name_less (map role_seen roles)
roles_are roles sorted rising stable = ap (map role_seen) (sort_gives less role_order roles sorted rising stable) ∙ map_in_order role_seen name_less roles
