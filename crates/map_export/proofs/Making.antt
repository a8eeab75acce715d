-- Rows that are made by going over entries stand for what the entries say.
use Rattle.std.proofs.Common.{◌≡◌, ◌⊎◌, inl, inr, ℕ, zero, suc, ◌+◌, ◌<◌, List, [], ◌∷◌, ◌++◌, length, Some, refl, sym, ap, subst, ◌∙◌, arith}
use Rattle.std.specs.List.{slice_get}
use Rattle.std.proofs.lemmas.Option.{slice_get_within}
use Rattle.named_tables.specs.Standing.{IsAmong, AreRowsOf}

module _ {X : Type 0} where
  pub in_first : (xs ys : List X) (i : ℕ) (x : X) → slice_get xs i ≡ Some x → slice_get (xs ++ ys) i ≡ Some x
  in_first [] ys i x at = cc
  in_first (y ∷ xs) ys zero x at = at
  in_first (y ∷ xs) ys (suc i) x at = in_first xs ys i x at

  pub in_rest : (xs ys : List X) (i : ℕ) (x : X) → slice_get ys i ≡ Some x → slice_get (xs ++ ys) (length xs + i) ≡ Some x
  in_rest [] ys i x at = let e : 0 + i ≡ i = omega arith in ap (slice_get ys) e ∙ at
  in_rest (y ∷ xs) ys i x at = let e : suc (length xs) + i ≡ suc (length xs + i) = omega arith in ap (slice_get (y ∷ xs ++ ys)) e ∙ in_rest xs ys i x at

  pub in_either : (xs ys : List X) (i : ℕ) (x : X) → slice_get (xs ++ ys) i ≡ Some x → (slice_get xs i ≡ Some x) ⊎ ((j : ℕ) × (i ≡ length xs + j) × (slice_get ys j ≡ Some x))
  in_either [] ys i x at = inr (i, omega arith, at)
  in_either (y ∷ xs) ys zero x at = inl at
  in_either (y ∷ xs) ys (suc i) x at =
      elim (in_either xs ys i x at) [ inl here ↦ inl here | inr there ↦ inr (there.0, omega (arith, there.1), there.2) ]

-- ---- entries one after another

-- rows that entries gave one after another
abbrev pub Made : {E R : Type 0} → (E → List R → Type 0) → List E → List R → Type 0
Made Of [] rows = rows ≡ []
Made {R = R} Of (e ∷ es) rows = (first : List R) × (rest : List R) × (rows ≡ first ++ rest) × Of e first × Made Of es rest

-- ---- rows of some things after rows of others

module _ {T R M : Type 0} (Says : T → R → Type 0) (mark : R → M) (mark_of : T → M) (marked : (t : T) (row : R) → Says t row → mark row ≡ mark_of t) where
  pub none_of : (P : T → Type 0) → ((t : T) → P t → ⊥) → AreRowsOf P Says []
  none_of P never = record {
    each = λ t there. absurd (never t there);
    only = λ row among. absurd (nothing row among.0 among.1);
    once = λ i j earlier later t less at_i at_j. absurd (nothing earlier i at_i);
  }
    where
      nothing : (row : R) (i : ℕ) → slice_get [] i ≡ Some row → ⊥
      nothing row i at = cc

  pub one_of : (P : T → Type 0) (t : T) (row : R) → P t → Says t row → ((u : T) → P u → u ≡ t) → AreRowsOf P Says (row ∷ [])
  one_of P t row there says only = record {
    each = λ u is. (row, (0, refl), subst (λ (v : T). Says v row) (sym (only u is)) says);
    only = λ r among. (t, there, subst (Says t) (sym (is_row r among.0 among.1)) says);
    once = λ i j earlier later u less at_i at_j. absurd (not_two i j less (slice_get_within (row ∷ []) i earlier at_i) (slice_get_within (row ∷ []) j later at_j));
  }
    where
      is_row : (r : R) (i : ℕ) → slice_get (row ∷ []) i ≡ Some r → r ≡ row
      is_row r zero at = cc
      is_row r (suc i) at = cc

      not_two : (i j : ℕ) → i < j → i < length (row ∷ []) → j < length (row ∷ []) → ⊥
      not_two i j less one two = omega arith

  pub joined : (P Q : T → Type 0) (first rest : List R) → AreRowsOf P Says first → AreRowsOf Q Says rest → ((t u : T) → P t → Q u → mark_of t ≡ mark_of u → ⊥) → AreRowsOf (λ t. P t ⊎ Q t) Says (first ++ rest)
  joined P Q first rest a b apart = record {
    each = λ t there. each_of t there;
    only = λ row among. only_of row among.0 among.1;
    once = λ i j earlier later t less at_i at_j says tells. once_of i j earlier later t less says tells (in_either first rest i earlier at_i) (in_either first rest j later at_j);
  }
    where
      each_of : (t : T) → P t ⊎ Q t → (row : R) × IsAmong (first ++ rest) row × Says t row
      each_of t (inl p) = let it = a.each t p in (it.0, (it.1.0, in_first first rest it.1.0 it.0 it.1.1), it.2)
      each_of t (inr q) = let it = b.each t q in (it.0, (length first + it.1.0, in_rest first rest it.1.0 it.0 it.1.1), it.2)

      only_of : (row : R) (i : ℕ) → slice_get (first ++ rest) i ≡ Some row → (t : T) × (P t ⊎ Q t) × Says t row
      only_of row i at = elim (in_either first rest i row at) [
        | inl here ↦ let it = a.only row (i, here) in (it.0, inl it.1, it.2)
        | inr there ↦ let it = b.only row (there.0, there.2) in (it.0, inr it.1, it.2)
      ]

      both : (row later : R) (t : T) → IsAmong first row → IsAmong rest later → Says t row → Says t later → ⊥
      both row later t here there says tells =
          let p = a.only row here in
          let q = b.only later there in
          apart p.0 q.0 p.1 q.1 (sym (marked p.0 row p.2) ∙ marked t row says ∙ sym (marked t later tells) ∙ marked q.0 later q.2)

      once_of : (i j : ℕ) (earlier later : R) (t : T) → i < j → Says t earlier → Says t later
          → (slice_get first i ≡ Some earlier) ⊎ ((k : ℕ) × (i ≡ length first + k) × (slice_get rest k ≡ Some earlier))
          → (slice_get first j ≡ Some later) ⊎ ((k : ℕ) × (j ≡ length first + k) × (slice_get rest k ≡ Some later)) → ⊥
      once_of i j earlier later t less says tells (inl x) (inl y) = a.once i j earlier later t less x y says tells
      once_of i j earlier later t less says tells (inl x) (inr y) = both earlier later t (i, x) (y.0, y.2) says tells
      once_of i j earlier later t less says tells (inr x) (inl y) = not_after x.0 (slice_get_within first j later y) x.1
        where
          not_after : (k : ℕ) → j < length first → i ≡ length first + k → ⊥
          not_after k within is = omega arith
      once_of i j earlier later t less says tells (inr x) (inr y) = b.once x.0 y.0 earlier later t (before x.0 y.0 x.1 y.1) x.2 y.2 says tells
        where
          before : (k l : ℕ) → i ≡ length first + k → j ≡ length first + l → k < l
          before k l is_i is_j = omega arith

  pub same_things : (P Q : T → Type 0) (rows : List R) → ((t : T) → P t → Q t) → ((t : T) → Q t → P t) → AreRowsOf P Says rows → AreRowsOf Q Says rows
  same_things P Q rows to from a = record {
    each = λ t q. a.each t (from t q);
    only = λ row among. let it = a.only row among in (it.0, to it.0 it.1, it.2);
    once = a.once;
  }

-- ---- keys of entries

module _ {K V : Type 0} where
  abbrev pub HasKey : List (K × V) → K → Type 0
  HasKey [] k = ⊥
  HasKey (e ∷ es) k = (k ≡ e.0) ⊎ HasKey es k

  abbrev pub AreApartKeys : List (K × V) → Type 0
  AreApartKeys [] = Unit {0}
  AreApartKeys (e ∷ es) = (HasKey es e.0 → ⊥) × AreApartKeys es

-- the rows of the things of an entry's key
abbrev pub OfEntry : {T R K V : Type 0} → (T → Type 0) → (T → R → Type 0) → (T → K) → K × V → List R → Type 0
OfEntry There Says key_of e first = AreRowsOf (λ t. There t × (key_of t ≡ e.0)) Says first

-- ---- rows of all things, where each entry gave those of its own

module _ {T R M K V : Type 0} (There : T → Type 0) (Says : T → R → Type 0) (key_of : T → K) (mark : R → M) (mark_of : T → M)
    (marked : (t : T) (row : R) → Says t row → mark row ≡ mark_of t)
    (one_key : (t u : T) → There t → There u → mark_of t ≡ mark_of u → key_of t ≡ key_of u) where
  of_entries : (es : List (K × V)) (rows : List R) → AreApartKeys es → Made (OfEntry There Says key_of) es rows → AreRowsOf (λ (t : T). There t × HasKey es (key_of t)) Says rows
  of_entries [] rows apart made =
      subst (AreRowsOf (λ (t : T). There t × ⊥) Says) (sym made) (none_of Says mark mark_of marked (λ (t : T). There t × ⊥) (λ t p. p.1))
  of_entries (e ∷ es) rows apart made =
      let P : T → Type 0 = λ t. There t × (key_of t ≡ e.0) in
      let Q : T → Type 0 = λ t. There t × HasKey es (key_of t) in
      let all = joined Says mark mark_of marked P Q made.0 made.1 made.3 (of_entries es made.1 apart.1 made.4) (λ t u p q same. apart.0 (subst (HasKey es) (sym (one_key t u p.0 q.0 same) ∙ p.1) q.1)) in
      subst (AreRowsOf (λ (t : T). There t × HasKey (e ∷ es) (key_of t)) Says) (sym made.2)
      (same_things Says mark mark_of marked (λ t. P t ⊎ Q t) (λ t. There t × HasKey (e ∷ es) (key_of t)) (made.0 ++ made.1) to from all)
    where
      to : (t : T) → (There t × (key_of t ≡ e.0)) ⊎ (There t × HasKey es (key_of t)) → There t × HasKey (e ∷ es) (key_of t)
      to t (inl p) = (p.0, inl p.1)
      to t (inr q) = (q.0, inr q.1)

      at : (t : T) → There t → HasKey (e ∷ es) (key_of t) → (There t × (key_of t ≡ e.0)) ⊎ (There t × HasKey es (key_of t))
      at t there (inl is) = inl (there, is)
      at t there (inr is) = inr (there, is)

      from : (t : T) → There t × HasKey (e ∷ es) (key_of t) → (There t × (key_of t ≡ e.0)) ⊎ (There t × HasKey es (key_of t))
      from t p = at t p.0 p.1

  -- each thing has an entry
  pub of_all : (es : List (K × V)) (rows : List R) → AreApartKeys es → ((t : T) → There t → HasKey es (key_of t)) → Made (OfEntry There Says key_of) es rows → AreRowsOf There Says rows
  of_all es rows apart has made =
      same_things Says mark mark_of marked (λ (t : T). There t × HasKey es (key_of t)) There rows (λ t p. p.0) (λ t there. (there, has t there)) (of_entries es rows apart made)
