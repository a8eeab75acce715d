-- A table without a fault is one whose rows meet its conditions.
use Rattle.std.proofs.Common.{◌≡◌, ℕ, zero, suc, ◌+◌, ◌<◌, Bool, true, false, true≢false, ◌||◌, ◌&&◌, List, [], ◌∷◌, ◌++◌, length, take, filter_map, Option, Some, None, unwrap_or, refl, sym, ap, subst, ◌∙◌, arith}
use Rattle.std.specs.List.{slice_get, list_any, cons_option}
use Rattle.std.proofs.lemmas.List.{append_assoc, append-nil}
use Rattle.std.proofs.lemmas.Option.{none-some}
use Rattle.std.specs.declared.cmp.Ordering.{Ordering}
use Rattle.std.specs.Ordering.{nat_cmp, eq_by_cmp}
use Rattle.cat_model.specs.declared.words.What.{What}
use Rattle.cat_names.specs.declared.fault.FaultKind.{FaultKind}
use Rattle.cat_names.specs.declared.fault.Findings.{Findings}
use Rattle.cat_names.specs.Findings.{first_kind, fault_or, first_from, dangling_unless}
use Rattle.cat_names.specs.Firsts.{IsCleanTable}
use Rattle.cat_names.specs.Lookups.{has_key}
use Rattle.cat_names.proofs.FirstFaults.{no_fault_is_clean}
use Rattle.cat_names.proofs.Steps.{passed}
use Rattle.cat_book.specs.Meets.{AreDistinct, AtMostOne, Meets}
use Rattle.cat_book.specs.Rules.{Rules, name_cmp, place_cmp, is_among, is_again, is_nothing, found, ending, fault_by}

-- ---- bools

or_left : (a b : Bool) → (a || b) ≡ false → a ≡ false
or_left true b e = absurd (true≢false e)
or_left false b e = refl

or_right : (a b : Bool) → (a || b) ≡ false → b ≡ false
or_right true b e = absurd (true≢false e)
or_right false b e = e

or_both : (a b : Bool) → a ≡ false → b ≡ false → (a || b) ≡ false
or_both true b e f = absurd (true≢false e)
or_both false b e f = f

and_right : (a b : Bool) → (a && b) ≡ false → a ≡ true → b ≡ false
and_right true b e t = e
and_right false b e t = absurd (true≢false (sym t))

and_none : (a b : Bool) → (a ≡ true → b ≡ false) → (a && b) ≡ false
and_none true b h = h refl
and_none false b h = refl

inside : {A : Type 0} (x y : A) → Some x ≡ Some y → x ≡ y
inside x y e = ap (λ o. unwrap_or o x) e

-- ---- the rows before one

-- where none of the rows before a place passes, an earlier one doesn't
before_false : {R : Type 0} (g : R → Bool) (rows : List R) (i j : ℕ) (r : R) → i < j → slice_get rows i ≡ Some r → list_any g (take j rows) ≡ false → g r ≡ false
before_false g [] i j r below e a = absurd (none-some r e)
before_false g (x ∷ xs) i zero r below e a = absurd (omega (arith, below))
before_false g (x ∷ xs) zero (suc j) r below e a = subst (λ y. g y ≡ false) (inside x r e) (or_left (g x) (list_any g (take j xs)) a)
before_false g (x ∷ xs) (suc i) (suc j) r below e a = before_false g xs i j r (omega (arith, below)) e (or_right (g x) (list_any g (take j xs)) a)

-- and the other way round
all_false : {R : Type 0} (g : R → Bool) (rows : List R) (j : ℕ) → ((i : ℕ) (r : R) → i < j → slice_get rows i ≡ Some r → g r ≡ false) → list_any g (take j rows) ≡ false
all_false g [] zero h = refl
all_false g [] (suc j) h = refl
all_false g (x ∷ xs) zero h = refl
all_false g (x ∷ xs) (suc j) h =
    or_both (g x) (list_any g (take j xs)) (h 0 x (omega arith) refl) (all_false g xs j (λ i r below e. h (suc i) r (omega (arith, below)) e))

-- ---- keys of rows

abbrev among : {K : Type 0} → (K → Bool) → Option K → Bool
among f None = false
among f (Some k) = f k

one_given : {K : Type 0} (f : K → Bool) (o : Option K) (ks : List K) → list_any f (cons_option o ks) ≡ (among f o || list_any f ks)
one_given f None ks = refl
one_given f (Some k) ks = refl

any_given : {R K : Type 0} (f : K → Bool) (key : R → Option K) (rows : List R) → list_any f (filter_map key rows) ≡ list_any (λ r. among f (key r)) rows
any_given f key [] = refl
any_given f key (x ∷ xs) = one_given f (key x) (filter_map key xs) ∙ ap (λ b. among f (key x) || b) (any_given f key xs)

module _ {R K : Type 0} (cmp : K → K → Ordering) (key : R → Option K) (rows : List R) where
  -- where no row has the key of an earlier one, the keys are distinct
  distinct : ((j : ℕ) (later : R) → slice_get rows j ≡ Some later → is_again cmp key (take j rows) later ≡ false) → AreDistinct cmp key rows
  distinct h i j earlier later k l below a b ka kb =
      let no : has_key cmp (filter_map key (take j rows)) l ≡ false = subst (λ o. is_among cmp (filter_map key (take j rows)) o ≡ false) kb (h j later b) in
      subst (λ o. among (eq_by_cmp cmp l) o ≡ false) ka
      (before_false (λ r. among (eq_by_cmp cmp l) (key r)) rows i j earlier below a (sym (any_given (eq_by_cmp cmp l) key (take j rows)) ∙ no))

  -- and the other way round
  not_again : AreDistinct cmp key rows → (j : ℕ) (later : R) → slice_get rows j ≡ Some later → is_again cmp key (take j rows) later ≡ false
  not_again are j later b = by (key later) refl
    where
      at : (l : K) → key later ≡ Some l → (i : ℕ) (r : R) (o : Option K) → key r ≡ o → i < j → slice_get rows i ≡ Some r → among (eq_by_cmp cmp l) o ≡ false
      at l kb i r None ka below e = refl
      at l kb i r (Some k) ka below e = are i j r later k l below e b ka kb

      by : (o : Option K) → key later ≡ o → is_among cmp (filter_map key (take j rows)) o ≡ false
      by None kb = refl
      by (Some l) kb =
          any_given (eq_by_cmp cmp l) key (take j rows)
          ∙ all_false (λ r. among (eq_by_cmp cmp l) (key r)) rows j (λ i r below e. at l kb i r (key r) refl below e)

-- ---- what is found

-- nothing is found exactly where nothing is wrong
parts : (a b c d : Bool) (o : Option What) → first_kind (record { repeated_oid = a; repeated_name = b; dangling = c; bad_text = d; left_out = o }) ≡ None
    → (a ≡ false) × (b ≡ false) × (c ≡ false) × (d ≡ false) × (o ≡ None)
parts true b c d o e = absurd (none-some _ (sym e))
parts false true c d o e = absurd (none-some _ (sym e))
parts false false true d o e = absurd (none-some _ (sym e))
parts false false false true o e = absurd (none-some _ (sym e))
parts false false false false (Some what) e = absurd (none-some _ (sym e))
parts false false false false None e = (refl, refl, refl, refl, refl)

whole : (a b c d : Bool) (o : Option What) → a ≡ false → b ≡ false → c ≡ false → d ≡ false → o ≡ None
    → first_kind (record { repeated_oid = a; repeated_name = b; dangling = c; bad_text = d; left_out = o }) ≡ None
whole true b c d o ea eb ec ed eo = absurd (true≢false ea)
whole false true c d o ea eb ec ed eo = absurd (true≢false eb)
whole false false true d o ea eb ec ed eo = absurd (true≢false ec)
whole false false false true o ea eb ec ed eo = absurd (true≢false ed)
whole false false false false (Some what) ea eb ec ed eo = absurd (none-some _ (sym eo))
whole false false false false None ea eb ec ed eo = refl

there_needed : (b : Bool) → dangling_unless b ≡ None → b ≡ true
there_needed true e = refl
there_needed false e = absurd (none-some _ (sym e))

-- ---- a table

module _ {R : Type 0} (find : List R → R → Findings) (end : Option FaultKind) where
  -- where no row has a fault behind those before it, nor the end, none is found
  none_found : (before rows : List R) → ((i : ℕ) (row : R) → slice_get rows i ≡ Some row → first_kind (find (before ++ take i rows) row) ≡ None) → end ≡ None → first_from find end before rows ≡ None
  unfolding first_from
  none_found before [] clean e = ap (λ k. fault_or (length before + 1) k None) e
  none_found before (x ∷ xs) clean e =
      passed find end before xs x (subst (λ b. first_kind (find b x) ≡ None) (append-nil before) (clean 0 x refl))
      ∙ none_found (before ++ x ∷ []) xs (λ i row h. subst (λ b. first_kind (find b row) ≡ None) (sym (append_assoc before (x ∷ []) (take i xs))) (clean (suc i) row h)) e

module _ {C R : Type 0} (rules : Rules C R) (cat : C) (rows : List R) where
  -- the rows of a table without a fault meet its conditions
  pub meets : fault_by rules cat rows ≡ None → Meets rules cat rows
  meets e = record {
    oids = distinct nat_cmp (λ r. (rules.keys r).oid) rows (λ j row h. (at j row h).0);
    names = distinct name_cmp (λ r. (rules.keys r).name) rows (λ j row h. or_left (is_again name_cmp (λ r. (rules.keys r).name) (take j rows) row) ((rules.keys row).is_marked && list_any (λ r. (rules.keys r).is_marked) (take j rows)) (at j row h).1);
    places = distinct place_cmp (λ r. (rules.keys r).place) rows (λ j row h. or_right (rules.unmet cat row).is_bad (is_again place_cmp (λ r. (rules.keys r).place) (take j rows) row) (or_right (is_nothing (rules.keys row).oid) _ (at j row h).3));
    marks = λ i j earlier later below a b marked. marks i j earlier later below a b marked;
    objects = λ i row h. or_left (is_nothing (rules.keys row).oid) _ (at i row h).3;
    there = λ i row h. (at i row h).2;
    texts = λ i row h. or_left (rules.unmet cat row).is_bad (is_again place_cmp (λ r. (rules.keys r).place) (take i rows) row) (or_right (is_nothing (rules.keys row).oid) _ (at i row h).3);
    inside = λ i row h. (at i row h).4;
    needed = there_needed (rules.needed cat) clean.1;
  }
    where
      clean : IsCleanTable (found rules cat) (ending rules cat) rows
      clean = no_fault_is_clean (found rules cat) (ending rules cat) rows e

      at : (i : ℕ) (row : R) → slice_get rows i ≡ Some row
          → (is_again nat_cmp (λ r. (rules.keys r).oid) (take i rows) row ≡ false)
          × ((is_again name_cmp (λ r. (rules.keys r).name) (take i rows) row || ((rules.keys row).is_marked && list_any (λ r. (rules.keys r).is_marked) (take i rows))) ≡ false)
          × ((rules.unmet cat row).dangles ≡ false)
          × ((is_nothing (rules.keys row).oid || ((rules.unmet cat row).is_bad || is_again place_cmp (λ r. (rules.keys r).place) (take i rows) row)) ≡ false)
          × ((rules.unmet cat row).left_out ≡ None)
      at i row h = parts _ _ _ _ _ (clean.0 i row h)

      marks : AtMostOne (λ r. (rules.keys r).is_marked) rows
      marks i j earlier later below a b marked =
          let none = or_right (is_again name_cmp (λ r. (rules.keys r).name) (take j rows) later) ((rules.keys later).is_marked && list_any (λ r. (rules.keys r).is_marked) (take j rows)) (at j later b).1 in
          by (rules.keys later).is_marked none
        where
          by : (m : Bool) → (m && list_any (λ r. (rules.keys r).is_marked) (take j rows)) ≡ false → m ≡ false
          by false e = refl
          by true e = absurd (true≢false (sym marked ∙ before_false (λ r. (rules.keys r).is_marked) rows i j earlier below a e))

  -- rows that meet the conditions of their table have no fault
  pub met : Meets rules cat rows → fault_by rules cat rows ≡ None
  met m = none_found (found rules cat) (ending rules cat) [] rows clean (ap dangling_unless m.needed)
    where
      clean : (i : ℕ) (row : R) → slice_get rows i ≡ Some row → first_kind (found rules cat (take i rows) row) ≡ None
      clean i row h =
          whole _ _ _ _ _
          (not_again nat_cmp (λ r. (rules.keys r).oid) rows m.oids i row h)
          (or_both (is_again name_cmp (λ r. (rules.keys r).name) (take i rows) row) _ (not_again name_cmp (λ r. (rules.keys r).name) rows m.names i row h)
          (and_none (rules.keys row).is_marked _ (λ marked. all_false (λ r. (rules.keys r).is_marked) rows i (λ k r below e. by r k below e (rules.keys r).is_marked refl marked))))
          (m.there i row h)
          (or_both (is_nothing (rules.keys row).oid) _ (m.objects i row h) (or_both (rules.unmet cat row).is_bad _ (m.texts i row h) (not_again place_cmp (λ r. (rules.keys r).place) rows m.places i row h)))
          (m.inside i row h)
        where
          by : (r : R) (k : ℕ) → k < i → slice_get rows k ≡ Some r → (b : Bool) → (rules.keys r).is_marked ≡ b → (rules.keys row).is_marked ≡ true → (rules.keys r).is_marked ≡ false
          by r k below e false is marked = is
          by r k below e true is marked = absurd (true≢false (sym marked ∙ m.marks k i r row below e h is))
