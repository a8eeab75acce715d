-- Keys that lead to the oids of their rows, as rows come, go and change.
use Rattle.std.proofs.Common.{◌≡◌, ◌⊎◌, inl, inr, ℕ, Bool, true, false, true≢false, cond, ◌||◌, List, [], ◌∷◌, Option, Some, None, option_map, is_some, IsSome, IfSome, IfNone, ◌≤◌, ◌<◌, refl, sym, ap, subst, ◌∙◌}
use Rattle.std.proofs.lemmas.Option.{none-some}
use Rattle.std.specs.Cmp.{nat_cmp_total, tied_itself, Equal-is}
use Rattle.std.specs.FinMap.{get, insert, remove, from_entries, get-empty, get-insert, get-remove, nat_cmp-IsAntisymmetric, same_map}
use Rattle.std.specs.Map.{lookup}
use Rattle.std.specs.Ordering.{nat_cmp, is_eq, eq_by_cmp}
use Rattle.cat_model.specs.declared.key.Key.{Key}
use Rattle.cat_model.specs.Keys.{key_eq}
use Rattle.cat_model.specs.KeyLaws.{key_eq-same, key_eq-Decides}
use Rattle.cat_model.proofs.MapsSeen.{got_seen}
use Rattle.eng_tables.specs.Tables.{Rows, key_at, row_at, IsTaken, IsNext, AreNames}

same_oid : (a b : ℕ) → eq_by_cmp nat_cmp a b ≡ true → a ≡ b
same_oid a b h = nat_cmp-IsAntisymmetric a b ((Equal-is (nat_cmp a b)).0 h)

itself : (a : ℕ) → eq_by_cmp nat_cmp a a ≡ true
itself a = ap is_eq (tied_itself nat_cmp_total a)

some_oid : (a b : ℕ) → Some a ≡ Some b → a ≡ b
some_oid a b e = cc

some_key : (a b : Key) → Some a ≡ Some b → a ≡ b
some_key a b e = cc

not_itself : {A : Type 0} (a b : ℕ) → eq_by_cmp nat_cmp a b ≡ false → a ≡ b → A
not_itself a b other e = absurd (true≢false (sym (itself b) ∙ ap (λ (n : ℕ). eq_by_cmp nat_cmp n b) (sym e) ∙ other))

not_key : {A : Type 0} (a b : Key) → key_eq a b ≡ false → a ≡ b → A
not_key a b other e = absurd (true≢false (sym ((key_eq-Decides a b).1 e) ∙ other))

none_is : {A B : Type 0} (x : A) (o : Option A) → o ≡ None → o ≡ Some x → B
none_is x o none some = absurd (none-some x (sym none ∙ some))

or_cases : (a b : Bool) → a || b ≡ true → (a ≡ true) ⊎ (b ≡ true)
or_cases true b h = inl refl
or_cases false b h = inr h

module _ {R : Type 0} where
  -- ---- rows that are looked up

  pub row_seen : (es : List (ℕ × (Key × R))) (oid : ℕ) (o : Option (Key × R)) → o ≡ lookup (eq_by_cmp nat_cmp oid) es → option_map (λ (e : Key × R). e.1) o ≡ row_at (from_entries {R = nat_cmp} es) oid
  row_seen es oid o e = ap (option_map (λ (e : Key × R). e.1)) (e ∙ sym (got_seen nat_cmp_total nat_cmp-IsAntisymmetric es oid))

  pub no_names : (names : Key → Option ℕ) (es : List (ℕ × (Key × R))) → ((key : Key) → names key ≡ None) → es ≡ [] → AreNames names (from_entries {R = nat_cmp} es)
  no_names names es none empty key oid = (
    λ e. none_is oid (names key) (none key) e,
    λ e. none_is key (key_at (from_entries {R = nat_cmp} es) oid) (ap (option_map (λ (e : Key × R). e.0)) (ap (λ (fs : List (ℕ × (Key × R))). get (from_entries {R = nat_cmp} fs) oid) empty ∙ get-empty nat_cmp oid)) e,
  )

  -- ---- one more row

  at_insert : (rows : Rows R) (oid : ℕ) (e : Key × R) (other : ℕ) (b : Bool) → eq_by_cmp nat_cmp other oid ≡ b → key_at (insert rows oid e) other ≡ option_map (λ (e : Key × R). e.0) (cond b (Some e) (get rows other))
  at_insert rows oid e other b is = ap (option_map (λ (e : Key × R). e.0)) (get-insert nat_cmp_total rows oid e other ∙ ap (λ (b : Bool). cond b (Some e) (get rows other)) is)

  pub named_insert : (names after : Key → Option ℕ) (rows : Rows R) (oid : ℕ) (key : Key) (row : R)
      → ((q : Key) → after q ≡ cond (key_eq key q) (Some oid) (names q))
      → get rows oid ≡ None → names key ≡ None → AreNames names rows → AreNames after (insert rows oid (key, row))
  named_insert names after rows oid key row at free new all q other = by (key_eq key q) (eq_by_cmp nat_cmp other oid) refl refl
    where
      by : (s t : Bool) → key_eq key q ≡ s → eq_by_cmp nat_cmp other oid ≡ t → (after q ≡ Some other → key_at (insert rows oid (key, row)) other ≡ Some q) × (key_at (insert rows oid (key, row)) other ≡ Some q → after q ≡ Some other)
      by true true is at_oid = (
        λ _. at_insert rows oid (key, row) other true at_oid ∙ ap Some (key_eq-same key q is),
        λ _. at q ∙ ap (λ (b : Bool). cond b (Some oid) (names q)) is ∙ ap Some (sym (same_oid other oid at_oid)),
      )
      by true false is at_oid = (
        λ e. not_itself other oid at_oid (sym (some_oid oid other (sym (at q ∙ ap (λ (b : Bool). cond b (Some oid) (names q)) is) ∙ e))),
        λ e. none_is other (names key) new (subst (λ (k : Key). names k ≡ Some other) (sym (key_eq-same key q is)) ((all q other).1 (sym (at_insert rows oid (key, row) other false at_oid) ∙ e))),
      )
      by false true is at_oid = (
        λ e.
            let there : key_at rows other ≡ Some q = (all q other).0 (sym (at q ∙ ap (λ (b : Bool). cond b (Some oid) (names q)) is) ∙ e) in
            none_is q (key_at rows other) (ap (option_map (λ (e : Key × R). e.0)) (ap (get rows) (same_oid other oid at_oid) ∙ free)) there,
        λ e. not_key key q is (some_key key q (sym (at_insert rows oid (key, row) other true at_oid) ∙ e)),
      )
      by false false is at_oid = (
        λ e. at_insert rows oid (key, row) other false at_oid ∙ (all q other).0 (sym (at q ∙ ap (λ (b : Bool). cond b (Some oid) (names q)) is) ∙ e),
        λ e. at q ∙ ap (λ (b : Bool). cond b (Some oid) (names q)) is ∙ (all q other).1 (sym (at_insert rows oid (key, row) other false at_oid) ∙ e),
      )

  -- ---- a row less

  at_remove : (rows : Rows R) (oid other : ℕ) (b : Bool) → eq_by_cmp nat_cmp other oid ≡ b → key_at (remove rows oid) other ≡ option_map (λ (e : Key × R). e.0) (cond b None (get rows other))
  at_remove rows oid other b is = ap (option_map (λ (e : Key × R). e.0)) (get-remove nat_cmp_total rows oid other ∙ ap (λ (b : Bool). cond b None (get rows other)) is)

  pub named_remove : (names after : Key → Option ℕ) (rows : Rows R) (oid : ℕ) (key : Key)
      → ((q : Key) → after q ≡ cond (key_eq key q) None (names q))
      → key_at rows oid ≡ Some key → AreNames names rows → AreNames after (remove rows oid)
  named_remove names after rows oid key at had all q other = by (key_eq key q) (eq_by_cmp nat_cmp other oid) refl refl
    where
      by : (s t : Bool) → key_eq key q ≡ s → eq_by_cmp nat_cmp other oid ≡ t → (after q ≡ Some other → key_at (remove rows oid) other ≡ Some q) × (key_at (remove rows oid) other ≡ Some q → after q ≡ Some other)
      by true true is at_oid = (
        λ e. none_is other (after q) (at q ∙ ap (λ (b : Bool). cond b None (names q)) is) e,
        λ e. none_is q (key_at (remove rows oid) other) (at_remove rows oid other true at_oid) e,
      )
      by true false is at_oid = (
        λ e. none_is other (after q) (at q ∙ ap (λ (b : Bool). cond b None (names q)) is) e,
        λ e.
            let found : names key ≡ Some other = subst (λ (k : Key). names k ≡ Some other) (sym (key_eq-same key q is)) ((all q other).1 (sym (at_remove rows oid other false at_oid) ∙ e)) in
            not_itself other oid at_oid (some_oid other oid (sym found ∙ (all key oid).1 had)),
      )
      by false true is at_oid = (
        λ e.
            let there : key_at rows other ≡ Some q = (all q other).0 (sym (at q ∙ ap (λ (b : Bool). cond b None (names q)) is) ∙ e) in
            not_key key q is (some_key key q (sym had ∙ ap (key_at rows) (sym (same_oid other oid at_oid)) ∙ there)),
        λ e. none_is q (key_at (remove rows oid) other) (at_remove rows oid other true at_oid) e,
      )
      by false false is at_oid = (
        λ e. at_remove rows oid other false at_oid ∙ (all q other).0 (sym (at q ∙ ap (λ (b : Bool). cond b None (names q)) is) ∙ e),
        λ e. at q ∙ ap (λ (b : Bool). cond b None (names q)) is ∙ (all q other).1 (sym (at_remove rows oid other false at_oid) ∙ e),
      )

  pub remove_absent : (rows : Rows R) (oid : ℕ) → get rows oid ≡ None → rows ≡ remove rows oid
  remove_absent rows oid none = same_map nat_cmp_total nat_cmp-IsAntisymmetric rows (remove rows oid) (λ q. by q (eq_by_cmp nat_cmp q oid) refl ∙ sym (get-remove nat_cmp_total rows oid q))
    where
      by : (q : ℕ) (b : Bool) → eq_by_cmp nat_cmp q oid ≡ b → get rows q ≡ cond (eq_by_cmp nat_cmp q oid) None (get rows q)
      by q true is = ap (get rows) (same_oid q oid is) ∙ none ∙ sym (ap (λ (b : Bool). cond b None (get rows q)) is)
      by q false is = sym (ap (λ (b : Bool). cond b None (get rows q)) is)

  -- ---- another row under the same key

  pub named_replace : (names : Key → Option ℕ) (rows : Rows R) (oid : ℕ) (key : Key) (row : R) → key_at rows oid ≡ Some key → AreNames names rows → AreNames names (insert rows oid (key, row))
  named_replace names rows oid key row had all q other =
      let same = keys_stay rows oid key row had other in
      (λ e. same ∙ (all q other).0 e, λ e. (all q other).1 (sym same ∙ e))
    where
      keys_stay : (rows : Rows R) (oid : ℕ) (key : Key) (row : R) → key_at rows oid ≡ Some key → (other : ℕ) → key_at (insert rows oid (key, row)) other ≡ key_at rows other
      keys_stay rows oid key row had other = by (eq_by_cmp nat_cmp other oid) refl
        where
          by : (b : Bool) → eq_by_cmp nat_cmp other oid ≡ b → key_at (insert rows oid (key, row)) other ≡ key_at rows other
          by true is = at_insert rows oid (key, row) other true is ∙ sym had ∙ ap (key_at rows) (sym (same_oid other oid is))
          by false is = at_insert rows oid (key, row) other false is

  -- ---- what is taken

  pub taken : (names : Key → Option ℕ) (rows : Rows R) (oid : ℕ) (key : Key) → AreNames names rows → is_some (get rows oid) || is_some (names key) ≡ true → IsTaken rows oid key
  taken names rows oid key all h = by (or_cases (is_some (get rows oid)) (is_some (names key)) h)
    where
      named : (o : Option ℕ) → names key ≡ o → is_some o ≡ true → (other : ℕ) × (key_at rows other ≡ Some key)
      named (Some other) e is = (other, (all key other).0 e)
      named None e is = absurd (true≢false (sym is))

      by : (is_some (get rows oid) ≡ true) ⊎ (is_some (names key) ≡ true) → IsTaken rows oid key
      by (inl is) = inl is
      by (inr is) = inr (named (names key) refl is)

  pub not_taken : {A : Type 0} (names : Key → Option ℕ) (rows : Rows R) (oid : ℕ) (key : Key) → AreNames names rows → get rows oid ≡ None → names key ≡ None → IsTaken rows oid key → A
  not_taken names rows oid key all free new (inl is) = absurd (true≢false (sym is ∙ ap is_some free))
  not_taken names rows oid key all free new (inr there) = none_is there.0 (names key) new ((all key there.0).1 there.1)

pub none_free : {A B : Type 0} (p : Option A) (o : Option B) → is_some p || is_some o ≡ false → (p ≡ None) × (o ≡ None)
none_free None None h = (refl, refl)
none_free None (Some y) h = absurd (true≢false h)
none_free (Some x) o h = absurd (true≢false h)

-- ---- the next oid

pub next_seen : {R : Type 0} (es : List (ℕ × (Key × R))) (from : ℕ) (o : Option ℕ)
    → IfSome o (λ oid. (from ≤ oid) × IsSome (lookup (eq_by_cmp nat_cmp oid) es))
    → IfSome o (λ oid. (other : ℕ) → from ≤ other → other < oid → lookup (eq_by_cmp nat_cmp other) es ≡ None)
    → IfNone o ((other : ℕ) → from ≤ other → lookup (eq_by_cmp nat_cmp other) es ≡ None)
    → IsNext from (from_entries {R = nat_cmp} es) o
next_seen es from (Some oid) there least none = (there.0, subst IsSome (sym (got_seen nat_cmp_total nat_cmp-IsAntisymmetric es oid)) there.1, λ other h l. got_seen nat_cmp_total nat_cmp-IsAntisymmetric es other ∙ least other h l)
next_seen es from None there least none = λ other h. got_seen nat_cmp_total nat_cmp-IsAntisymmetric es other ∙ none other h
