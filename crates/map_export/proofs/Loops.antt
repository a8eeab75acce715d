-- A loop over entries that adds the row of each, where it has one.
use Rattle.std.proofs.Common.{◌≡◌, ℕ, ◌+◌, ◌<◌, ◌≤◌, List, [], ◌∷◌, ◌++◌, length, map, take, Option, Some, None, option_to_list, filter_map, sym, ap, subst, ◌∙◌}
use Rattle.std.specs.List.{cons_option}
use Rattle.std.proofs.Math.ListN.{get_or}
use Rattle.std.proofs.lemmas.List.{take_all, map_more}
use Rattle.std.proofs.lemmas.List.Elements.{filter_map-append}
use Rattle.map_export.specs.Making.{IsRowOf, AreSaid}

module _ {T R : Type 0} (Says : T → R → Type 0) where
  pub said_append : (ts us : List T) (rs ss : List R) → AreSaid Says ts rs → AreSaid Says us ss → AreSaid Says (ts ++ us) (rs ++ ss)
  said_append [] us [] ss a b = b
  said_append [] us (r ∷ rs) ss a b = absurd a
  said_append (t ∷ ts) us [] ss a b = absurd a
  said_append (t ∷ ts) us (r ∷ rs) ss a b = (a.0, said_append ts us rs ss a.1 b)

  pub said_option : (o : Option T) (p : Option R) → IsRowOf Says o p → AreSaid Says (cons_option o []) (option_to_list p)
  said_option None None h = tt
  said_option None (Some row) h = absurd h
  said_option (Some t) None h = absurd h
  said_option (Some t) (Some row) h = (h, tt)

  module _ {X E : Type 0} (f : E → Option T) (g : X → E) (xs : List X) where
    pub loop_more : (i : ℕ) (x : X) (rows after : List R) (row : Option R) → i < length xs → x ≡ get_or xs i x → AreSaid Says (filter_map f (map g (take i xs))) rows → IsRowOf Says (f (g x)) row → after ≡ rows ++ option_to_list row → AreSaid Says (filter_map f (map g (take (i + 1) xs))) after
    loop_more i x rows after row within is said more added =
        let things : filter_map f (map g (take (i + 1) xs)) ≡ filter_map f (map g (take i xs)) ++ cons_option (f (g x)) [] =
        ap (filter_map f) (map_more g xs i x within ∙ ap (λ (y : X). map g (take i xs) ++ g y ∷ []) (sym is)) ∙ filter_map-append f (map g (take i xs)) (g x ∷ []) in
        subst (λ (ts : List T). AreSaid Says ts after) (sym things)
        (subst (AreSaid Says (filter_map f (map g (take i xs)) ++ cons_option (f (g x)) [])) (sym added)
        (said_append (filter_map f (map g (take i xs))) (cons_option (f (g x)) []) rows (option_to_list row) said (said_option (f (g x)) row more)))

    pub loop_end : (i : ℕ) (rows : List R) → length xs ≤ i → AreSaid Says (filter_map f (map g (take i xs))) rows → AreSaid Says (filter_map f (map g xs)) rows
    loop_end i rows all said = subst (λ (ys : List X). AreSaid Says (filter_map f (map g ys)) rows) (take_all i xs all) said
