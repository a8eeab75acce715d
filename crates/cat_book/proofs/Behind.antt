-- What is seen behind one row more.
use Rattle.std.proofs.Common.{◌≡◌, Bool, true, false, ◌||◌, List, [], ◌∷◌, ◌++◌, filter_map, Option, refl, sym, ap, subst, ◌∙◌}
use Rattle.std.specs.List.{list_any}
use Rattle.std.proofs.lemmas.List.Folds.{list_any-append}
use Rattle.std.proofs.lemmas.List.Elements.{filter_map-append}
use Rattle.std.specs.Ordering.{nat_cmp}
use Rattle.cat_names.specs.Indexed.{AreKeys}
use Rattle.cat_book.specs.Rules.{Rules, Keys, name_cmp, place_cmp}
use Rattle.cat_book.specs.Seen.{AreSeen}
use Rattle.cat_book.specs.Sets.{HoldsSeen, seen_name}
use Rattle.cat_book.specs.declared.seen.Seen.{Seen}

or_false : (a b : Bool) → (a || b) ≡ (a || (b || false))
or_false true b = refl
or_false false true = refl
or_false false false = refl

-- what rows give, with one more behind them
one_more : {R K : Type 0} (f : R → Option K) (before : List R) (row : R) (k : Option K) → f row ≡ k → filter_map f before ++ filter_map (λ o. o) (k ∷ []) ≡ filter_map f (before ++ row ∷ [])
one_more f before row k e = ap (λ o. filter_map f before ++ filter_map (λ x. x) (o ∷ [])) (sym e) ∙ sym (filter_map-append f before (row ∷ []))

any_more : {R : Type 0} (f : R → Bool) (before : List R) (row : R) (b : Bool) → f row ≡ b → (list_any f before || b) ≡ list_any f (before ++ row ∷ [])
any_more f before row b e = ap (λ x. list_any f before || x) (sym e) ∙ or_false (list_any f before) (f row) ∙ sym (list_any-append f before (row ∷ []))

pub seen_more : {C R : Type 0} (rules : Rules C R) (before : List R) (row : R) (keys : Keys) (seen more : Seen)
    → rules.keys row ≡ keys
    → AreSeen rules before seen
    → AreKeys nat_cmp more.oids (filter_map (λ r. (rules.keys r).oid) before ++ filter_map (λ o. o) (keys.oid ∷ []))
    → HoldsSeen seen_name name_cmp more.names (filter_map (λ r. (rules.keys r).name) before ++ filter_map (λ o. o) (keys.name ∷ []))
    → AreKeys place_cmp more.places (filter_map (λ r. (rules.keys r).place) before ++ filter_map (λ o. o) (keys.place ∷ []))
    → more.is_marked ≡ (seen.is_marked || keys.is_marked)
    → AreSeen rules (before ++ row ∷ []) more
seen_more rules before row keys seen more same are oids names places mark = record {
  oids = subst (AreKeys nat_cmp more.oids) (one_more (λ r. (rules.keys r).oid) before row keys.oid (ap (λ k. k.oid) same)) oids;
  names = subst (HoldsSeen seen_name name_cmp more.names) (one_more (λ r. (rules.keys r).name) before row keys.name (ap (λ k. k.name) same)) names;
  places = subst (AreKeys place_cmp more.places) (one_more (λ r. (rules.keys r).place) before row keys.place (ap (λ k. k.place) same)) places;
  is_marked = mark ∙ ap (λ b. b || keys.is_marked) are.is_marked ∙ any_more (λ r. (rules.keys r).is_marked) before row keys.is_marked (ap (λ k. k.is_marked) same);
}
