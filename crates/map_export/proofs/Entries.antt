-- Rows of what the entries of a map say, one of each that says something, stand for all that the map has.
use Rattle.std.proofs.Common.{◌≡◌, inl, inr, Bool, true, false, ◌&&◌, true≢false, T as Is, List, [], ◌∷◌, Option, Some, None, filter_map, refl, sym, ap, subst, ◌∙◌}
use Rattle.std.proofs.lemmas.Option.{none-some}
use Rattle.std.specs.Cmp.{IsTotalOrder, tied_itself}
use Rattle.std.specs.FinMap.{FinMap, entries, entries_sorted, is_sorted}
use Rattle.std.specs.FinMap.Entries.{below_all}
use Rattle.std.specs.List.{cons_option}
use Rattle.std.specs.declared.cmp.Ordering.{Ordering}
use Rattle.std.specs.declared.cmp.Ordering.TheVariants.{Less, Equal}
use Rattle.std.specs.Ordering.{is_lt}
use Rattle.cat_sound.proofs.Lists.{IsIn}
use Rattle.named_tables.specs.Standing.{AreRowsOf}
use Rattle.map_export.specs.Making.{AreSaid}
use Rattle.map_export.proofs.Making.{Made, none_of, one_of, of_all, OfEntry, HasKey, AreApartKeys}

-- ---- keys that are apart

and_true : (a b : Bool) → a && b ≡ true → (a ≡ true) × (b ≡ true)
and_true true b e = (refl, e)
and_true false b e = absurd (true≢false (sym e))

is_less : (o : Ordering) → is_lt o ≡ true → o ≡ Less
is_less Less e = refl
is_less o e = cc

module _ {K V : Type 0} {R : K → K → Ordering} (total : IsTotalOrder R) where
  below_apart : (x : K) (es : List (K × V)) → below_all R x es ≡ true → HasKey es x → ⊥
  below_apart x [] e has = has
  below_apart x (f ∷ es) e (inl is) =
      let less : R x f.0 ≡ Less = is_less (R x f.0) (and_true (is_lt (R x f.0)) (below_all R x es) e).0 in
      let both : Less ≡ Equal = sym less ∙ ap (R x) (sym is) ∙ tied_itself total x in
      cc
  below_apart x (f ∷ es) e (inr later) = below_apart x es (and_true (is_lt (R x f.0)) (below_all R x es) e).1 later

  sorted_apart : (es : List (K × V)) → is_sorted R es ≡ true → AreApartKeys es
  sorted_apart [] e = tt
  sorted_apart (f ∷ es) e =
      let parts = and_true (below_all R f.0 es) (is_sorted R es) e in
      (below_apart f.0 es parts.0, sorted_apart es parts.1)

  pub apart_keys : (m : FinMap R V) → AreApartKeys (entries m)
  apart_keys m = sorted_apart (entries m) (of_truth (is_sorted R (entries m)) (entries_sorted m))
    where
      of_truth : (b : Bool) → Is b → b ≡ true
      of_truth true h = refl
      of_truth false h = absurd h

pub has_key : {K V : Type 0} (es : List (K × V)) (k : K) (v : V) → IsIn (k, v) es → HasKey es k
has_key [] k v among = among
has_key {K = K} {V = V} (e ∷ es) k v (inl is) = inl (ap (λ (e : K × V). e.0) (sym is))
has_key (e ∷ es) k v (inr later) = inr (has_key es k v later)

-- ---- rows of what each entry says

module _ {T R M K V : Type 0} (There : T → Type 0) (Says : T → R → Type 0) (key_of : T → K) (mark : R → M) (mark_of : T → M)
    (marked : (t : T) (row : R) → Says t row → mark row ≡ mark_of t)
    (one_key : (t u : T) → There t → There u → mark_of t ≡ mark_of u → key_of t ≡ key_of u)
    (has : K → V → Type 0)
    (one_value : (k : K) (v w : V) → has k v → has k w → v ≡ w)
    (says : K × V → Option T)
    (found : (t : T) → There t → (v : V) × has (key_of t) v × (says (key_of t, v) ≡ Some t))
    (is : (e : K × V) (t : T) → has e.0 e.1 → says e ≡ Some t → There t × (key_of t ≡ e.0)) where
  at_entry : (e : K × V) → has e.0 e.1 → (t : T) → There t → key_of t ≡ e.0 → says e ≡ Some t
  at_entry e there t is_there same =
      let it = found t is_there in
      let value : it.0 ≡ e.1 = one_value e.0 it.0 e.1 (subst (λ (k : K). has k it.0) same it.1) there in
      let pair : (key_of t, it.0) ≡ e = λ i. (same i, value i) in
      ap says (sym pair) ∙ it.2

  some_thing : (t u : T) → Some t ≡ Some u → t ≡ u
  some_thing t u e = cc

  made_of : (es : List (K × V)) (rows : List R) → ((e : K × V) → IsIn e es → has e.0 e.1) → AreSaid Says (filter_map says es) rows → Made (OfEntry There Says key_of) es rows
  made_of [] [] held said = refl
  made_of [] (row ∷ rows) held said = absurd said
  made_of (e ∷ es) rows held said = by (λ rest more. made_of es rest (λ f among. held f (inr among)) more) (says e) refl rows said
    where
      by : ((rest : List R) → AreSaid Says (filter_map says es) rest → Made (OfEntry There Says key_of) es rest) → (o : Option T) → says e ≡ o → (rows : List R) → AreSaid Says (cons_option o (filter_map says es)) rows → Made (OfEntry There Says key_of) (e ∷ es) rows
      by later None nothing rows more =
          ([], rows, refl, none_of Says mark mark_of marked (λ t. There t × (key_of t ≡ e.0)) (λ t p. none-some t (sym nothing ∙ at_entry e (held e (inl refl)) t p.0 p.1)), later rows more)
      by later (Some t) something [] more = absurd more
      by later (Some t) something (row ∷ rows) more =
          (row ∷ [], rows, refl, one_of Says mark mark_of marked (λ t. There t × (key_of t ≡ e.0)) t row (is e t (held e (inl refl)) something) more.0 (λ u p. some_thing u t (sym (at_entry e (held e (inl refl)) u p.0 p.1) ∙ something)), later rows more.1)

  pub stands : (es : List (K × V)) (rows : List R) → AreApartKeys es → ((e : K × V) → IsIn e es → has e.0 e.1) → ((k : K) (v : V) → has k v → IsIn (k, v) es) → AreSaid Says (filter_map says es) rows → AreRowsOf There Says rows
  stands es rows apart held covered said =
      of_all There Says key_of mark mark_of marked one_key es rows apart
      (λ t there. let it = found t there in has_key es (key_of t) it.0 (covered (key_of t) it.0 it.1))
      (made_of es rows held said)
