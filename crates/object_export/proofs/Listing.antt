-- Rows of lists of things, one of each in their order, stand for all things, where marks tell these apart.
use Rattle.std.proofs.Common.{◌≡◌, ◌⊎◌, inl, inr, ℕ, zero, suc, ◌<◌, List, [], ◌∷◌, ◌++◌, Some, refl, sym, ap, subst, ◌∙◌, arith}
use Rattle.std.specs.FinMap.{get, entries}
use Rattle.std.specs.List.{slice_get, flat_map}
use Rattle.cat_model.specs.declared.key.Key.{Key}
use Rattle.cat_model.specs.declared.value.Value.{Value}
use Rattle.cat_model.specs.KeyLaws.{key_cmp_total, key_cmp-IsAntisymmetric}
use Rattle.cat_model.specs.Values.{Named}
use Rattle.cat_names.specs.Naming.{Entry}
use Rattle.cat_sound.proofs.Lists.{IsIn}
use Rattle.cat_sound.proofs.Maps.{entry_of, of_entry}
use Rattle.named_tables.specs.Standing.{AreRowsOf}
use Rattle.map_export.specs.Making.{AreSaid}
use Rattle.map_export.proofs.Making.{HasKey, AreApartKeys}
use Rattle.map_export.proofs.Entries.{apart_keys}

pub same_thing : {T : Type 0} (t u : T) → Some t ≡ Some u → t ≡ u
same_thing t u e = cc

-- ---- elements and their places

module _ {T : Type 0} where
  pub place_of : (ts : List T) (t : T) → IsIn t ts → (i : ℕ) × (slice_get ts i ≡ Some t)
  place_of [] t among = absurd among
  place_of (u ∷ ts) t (inl is) = (0, ap Some is)
  place_of (u ∷ ts) t (inr later) = let it = place_of ts t later in (suc it.0, it.1)

  pub at_place : (ts : List T) (i : ℕ) (t : T) → slice_get ts i ≡ Some t → IsIn t ts
  at_place [] i t at = absurd cc
  at_place (u ∷ ts) zero t at = inl (same_thing u t at)
  at_place (u ∷ ts) (suc i) t at = inr (at_place ts i t at)

  pub in_front : (ts us : List T) (t : T) → IsIn t ts → IsIn t (ts ++ us)
  in_front [] us t among = absurd among
  in_front (x ∷ ts) us t (inl is) = inl is
  in_front (x ∷ ts) us t (inr later) = inr (in_front ts us t later)

  pub in_back : (ts us : List T) (t : T) → IsIn t us → IsIn t (ts ++ us)
  in_back [] us t among = among
  in_back (x ∷ ts) us t among = inr (in_back ts us t among)

  pub in_either : (ts us : List T) (t : T) → IsIn t (ts ++ us) → IsIn t ts ⊎ IsIn t us
  in_either [] us t among = inr among
  in_either (x ∷ ts) us t (inl is) = inl (inl is)
  in_either (x ∷ ts) us t (inr later) = elim (in_either ts us t later) [ inl front ↦ inl (inr front) | inr back ↦ inr back ]

-- ---- marks that are apart

module _ {T M : Type 0} (mark_of : T → M) where
  abbrev pub AreApart : List T → Type 0
  AreApart [] = Unit {0}
  AreApart (t ∷ ts) = ((u : T) → IsIn u ts → mark_of t ≡ mark_of u → ⊥) × AreApart ts

  apart_at : (ts : List T) → AreApart ts → (i j : ℕ) (t u : T) → i < j → slice_get ts i ≡ Some t → slice_get ts j ≡ Some u → mark_of t ≡ mark_of u → ⊥
  apart_at [] apart i j t u less at_i at_j same = absurd cc
  apart_at (x ∷ ts) apart zero zero t u less at_i at_j same = absurd (omega arith)
  apart_at (x ∷ ts) apart zero (suc j) t u less at_i at_j same = apart.0 u (at_place ts j u at_j) (ap mark_of (same_thing x t at_i) ∙ same)
  apart_at (x ∷ ts) apart (suc i) zero t u less at_i at_j same = absurd (omega arith)
  apart_at (x ∷ ts) apart (suc i) (suc j) t u less at_i at_j same = apart_at ts apart.1 i j t u (omega arith) at_i at_j same

  pub apart_joined : (ts us : List T) → AreApart ts → AreApart us → ((t u : T) → IsIn t ts → IsIn u us → mark_of t ≡ mark_of u → ⊥) → AreApart (ts ++ us)
  apart_joined [] us one two across = two
  apart_joined (t ∷ ts) us one two across = (
    λ u among same. elim (in_either ts us u among) [ inl front ↦ one.0 u front same | inr back ↦ across t u (inl refl) back same ],
    apart_joined ts us one.1 two (λ v u front back same. across v u (inr front) back same),
  )

-- ---- rows of things

module _ {T R M : Type 0} (Says : T → R → Type 0) (mark : R → M) (mark_of : T → M) (marked : (t : T) (row : R) → Says t row → mark row ≡ mark_of t) where
  row_at : (ts : List T) (rows : List R) → AreSaid Says ts rows → (i : ℕ) (t : T) → slice_get ts i ≡ Some t → (row : R) × (slice_get rows i ≡ Some row) × Says t row
  row_at [] rows said i t at = absurd cc
  row_at (x ∷ ts) [] said i t at = absurd said
  row_at (x ∷ ts) (row ∷ rows) said zero t at = (row, refl, subst (λ (y : T). Says y row) (same_thing x t at) said.0)
  row_at (x ∷ ts) (row ∷ rows) said (suc i) t at = row_at ts rows said.1 i t at

  thing_at : (ts : List T) (rows : List R) → AreSaid Says ts rows → (i : ℕ) (row : R) → slice_get rows i ≡ Some row → (t : T) × (slice_get ts i ≡ Some t) × Says t row
  thing_at [] [] said i row at = absurd cc
  thing_at [] (r ∷ rows) said i row at = absurd said
  thing_at (x ∷ ts) [] said i row at = absurd said
  thing_at (x ∷ ts) (r ∷ rows) said zero row at = (x, refl, subst (Says x) (same_thing r row at) said.0)
  thing_at (x ∷ ts) (r ∷ rows) said (suc i) row at = thing_at ts rows said.1 i row at

  pub stand : (There : T → Type 0) (ts : List T) (rows : List R) → ((t : T) → There t → IsIn t ts) → ((t : T) → IsIn t ts → There t) → AreApart mark_of ts → AreSaid Says ts rows → AreRowsOf There Says rows
  stand There ts rows from to apart said = record {
    each = λ t there. let at = place_of ts t (from t there) in let it = row_at ts rows said at.0 t at.1 in (it.0, (at.0, it.1), it.2);
    only = λ row among. let it = thing_at ts rows said among.0 row among.1 in (it.0, to it.0 (at_place ts among.0 it.0 it.1), it.2);
    once = λ i j earlier later t less at_i at_j says tells.
        let one = thing_at ts rows said i earlier at_i in
        let two = thing_at ts rows said j later at_j in
        apart_at mark_of ts apart i j one.0 two.0 less one.1 two.1 (sym (marked one.0 earlier one.2) ∙ marked t earlier says ∙ sym (marked t later tells) ∙ marked two.0 later two.2);
  }

-- ---- things of entries

module _ {T E : Type 0} (things : E → List T) where
  pub in_entries : (es : List E) (e : E) (t : T) → IsIn e es → IsIn t (things e) → IsIn t (flat_map things es)
  in_entries [] e t among has = absurd among
  in_entries (f ∷ es) e t (inl is) has = in_front (things f) (flat_map things es) t (subst (λ (g : E). IsIn t (things g)) (sym is) has)
  in_entries (f ∷ es) e t (inr later) has = in_back (things f) (flat_map things es) t (in_entries es e t later has)

  pub of_entries : (es : List E) (t : T) → IsIn t (flat_map things es) → (e : E) × IsIn e es × IsIn t (things e)
  of_entries [] t among = absurd among
  of_entries (e ∷ es) t among = elim (in_either (things e) (flat_map things es) t among) [
    | inl here ↦ (e, inl refl, here)
    | inr there ↦ let it = of_entries es t there in (it.0, inr it.1, it.2)
  ]

module _ {T M K V : Type 0} (mark_of : T → M) (things : K × V → List T) where
  key_there : (es : List (K × V)) (e : K × V) → IsIn e es → HasKey es e.0
  key_there [] e among = among
  key_there (f ∷ es) e (inl is) = inl (ap (λ (g : K × V). g.0) (sym is))
  key_there (f ∷ es) e (inr later) = inr (key_there es e later)

  pub apart_entries : (es : List (K × V)) → AreApartKeys es → ((e : K × V) → IsIn e es → AreApart mark_of (things e)) → ((e f : K × V) (t u : T) → IsIn e es → IsIn f es → IsIn t (things e) → IsIn u (things f) → mark_of t ≡ mark_of u → e.0 ≡ f.0) → AreApart mark_of (flat_map things es)
  apart_entries [] apart within one_key = tt
  apart_entries (e ∷ es) apart within one_key =
      apart_joined mark_of (things e) (flat_map things es) (within e (inl refl))
      (apart_entries es apart.1 (λ f among. within f (inr among)) (λ f g t u in_f in_g has owns same. one_key f g t u (inr in_f) (inr in_g) has owns same))
      (λ t u has among same.
      let it = of_entries things es u among in
      apart.0 (subst (HasKey es) (sym (one_key e it.0 t u (inl refl) (inr it.1) has it.2 same)) (key_there es it.0 it.1)))

-- ---- things of the entries of a catalogue

module _ {T R M : Type 0} (named : Named) (There : T → Type 0) (Says : T → R → Type 0) (key_of : T → Key) (mark : R → M) (mark_of : T → M)
    (marked : (t : T) (row : R) → Says t row → mark row ≡ mark_of t)
    (one_key : (t u : T) → There t → There u → mark_of t ≡ mark_of u → key_of t ≡ key_of u)
    (things : Entry → List T)
    (found : (t : T) → There t → (v : Value) × (get named (key_of t) ≡ Some v) × IsIn t (things (key_of t, v)))
    (is : (e : Entry) (t : T) → get named e.0 ≡ Some e.1 → IsIn t (things e) → There t × (key_of t ≡ e.0))
    (within : (e : Entry) → get named e.0 ≡ Some e.1 → AreApart mark_of (things e)) where
  there_at : (e : Entry) → IsIn e (entries named) → get named e.0 ≡ Some e.1
  there_at e among = of_entry key_cmp_total key_cmp-IsAntisymmetric named e.0 e.1 among

  pub lists_stand : (rows : List R) → AreSaid Says (flat_map things (entries named)) rows → AreRowsOf There Says rows
  lists_stand rows said =
      stand Says mark mark_of marked There (flat_map things (entries named)) rows
      (λ t there. let it = found t there in in_entries things (entries named) (key_of t, it.0) t (entry_of key_cmp_total key_cmp-IsAntisymmetric named (key_of t) it.0 it.1) it.2)
      (λ t among. let it = of_entries things (entries named) t among in (is it.0 t (there_at it.0 it.1) it.2).0)
      (apart_entries mark_of things (entries named) (apart_keys key_cmp_total named)
      (λ e among. within e (there_at e among))
      (λ e f t u in_e in_f has owns same.
      let one = is e t (there_at e in_e) has in
      let two = is f u (there_at f in_f) owns in
      sym one.1 ∙ one_key t u one.0 two.0 same ∙ two.1))
      said
