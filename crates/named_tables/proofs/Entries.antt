-- What the rows of a table give by names is what the catalogue has at the table's keys.
use Rattle.std.proofs.Common.{◌≡◌, ◌⊎◌, Bool, true, false, cond, ◌||◌, List, [], ◌∷◌, ◌++◌, Option, Some, None, refl, ap, sym, subst, ◌∙◌, inl, inr}
use Rattle.std.specs.declared.cmp.Ordering.{Ordering}
use Rattle.std.specs.Ordering.{is_eq, eq_by_cmp}
use Rattle.std.specs.Cmp.{IsTotalOrder, tied_itself}
use Rattle.std.specs.FinMap.{get, find, from_entries, get-from_entries, retain_keys, get-retain_keys, same_map}
use Rattle.std.specs.List.{AllByRecursion, flat_map}
use Rattle.cat_model.specs.declared.key.Key.{Key}
use Rattle.cat_model.specs.declared.value.Value.{Value}
use Rattle.cat_model.specs.Keys.{key_cmp}
use Rattle.cat_model.specs.KeyLaws.{key_cmp_total, key_cmp-IsAntisymmetric}
use Rattle.cat_model.specs.Values.{Named}
use Rattle.cat_names.specs.Naming.{Entry}
use Rattle.cat_sound.proofs.Lists.{IsIn, of_member}
use Rattle.cat_sound.proofs.Maps.{find-in}
use Rattle.named_tables.specs.Standing.{AreRowsOf}
use Rattle.named_tables.proofs.Rows.{in_place, among_in}

-- ---- lists

pub in_left : {A : Type 0} (x : A) (xs ys : List A) → IsIn x xs → IsIn x (xs ++ ys)
in_left x [] ys among = elim among [ ]
in_left x (y ∷ xs) ys (inl e) = inl e
in_left x (y ∷ xs) ys (inr later) = inr (in_left x xs ys later)

pub in_right : {A : Type 0} (x : A) (xs ys : List A) → IsIn x ys → IsIn x (xs ++ ys)
in_right x [] ys among = among
in_right x (y ∷ xs) ys among = inr (in_right x xs ys among)

pub in_either : {A : Type 0} (x : A) (xs ys : List A) → IsIn x (xs ++ ys) → IsIn x xs ⊎ IsIn x ys
in_either x [] ys among = inr among
in_either x (y ∷ xs) ys (inl e) = inl (inl e)
in_either x (y ∷ xs) ys (inr later) = by (in_either x xs ys later)
  where
    by : IsIn x xs ⊎ IsIn x ys → IsIn x (y ∷ xs) ⊎ IsIn x ys
    by (inl one) = inl (inr one)
    by (inr other) = inr other

pub in_flat : {R E : Type 0} (gives : R → List E) (rows : List R) (row : R) (e : E) → IsIn row rows → IsIn e (gives row) → IsIn e (flat_map gives rows)
in_flat gives [] row e among given = elim among [ ]
in_flat {R = R} gives (r ∷ rows) row e (inl same) given = in_left e (gives r) (flat_map gives rows) (subst (λ (x : R). IsIn e (gives x)) (sym same) given)
in_flat gives (r ∷ rows) row e (inr later) given = in_right e (gives r) (flat_map gives rows) (in_flat gives rows row e later given)

pub from_flat : {R E : Type 0} (gives : R → List E) (rows : List R) (e : E) → IsIn e (flat_map gives rows) → (row : R) × IsIn row rows × IsIn e (gives row)
from_flat gives [] e among = elim among [ ]
from_flat {R = R} gives (r ∷ rows) e among = by (from_flat gives rows e) (in_either e (gives r) (flat_map gives rows) among)
  where
    by : (IsIn e (flat_map gives rows) → (row : R) × IsIn row rows × IsIn e (gives row)) → IsIn e (gives r) ⊎ IsIn e (flat_map gives rows) → (row : R) × IsIn row (r ∷ rows) × IsIn e (gives row)
    by later (inl one) = (r, inl refl, one)
    by later (inr other) = let found = later other in (found.0, inr found.1, found.2)

-- ---- entries

-- the entries are what the catalogue has at these keys
pub record AreEntries (named : Named) (of : Key → Bool) (es : List Entry) : Type 0 where
  pub held : (k : Key) (v : Value) → IsIn (k, v) es → (get named k ≡ Some v) × (of k ≡ true)
  pub covered : (k : Key) (v : Value) → get named k ≡ Some v → of k ≡ true → IsIn (k, v) es

-- an entry that is held
abbrev pub IsHeld : Named → (Key → Bool) → Entry → Type 0
IsHeld named of e = (get named e.0 ≡ Some e.1) × (of e.0 ≡ true)

pub no_entry : {K X : Type 0} {R : K → K → Ordering} → IsTotalOrder R → (es : List (K × X)) (q : K) (v : X) → IsIn (q, v) es → find R q es ≡ None → ⊥
no_entry total [] q v among none = elim among [ ]
no_entry {K = K} {X = X} {R = R} total (e ∷ es) q v (inl same) none =
    let here : eq_by_cmp R q e.0 ≡ true = ap (λ (x : K × X). eq_by_cmp R q x.0) same ∙ ap is_eq (tied_itself total q) in
    let found : find R q (e ∷ es) ≡ Some e.1 = ap (λ (b : Bool). cond b (Some e.1) (find R q es)) here in
    cc
no_entry {R = R} total (e ∷ es) q v (inr later) none = by (no_entry total es q v later) (eq_by_cmp R q e.0) none
  where
    by : (find R q es ≡ None → ⊥) → (b : Bool) → cond b (Some e.1) (find R q es) ≡ None → ⊥
    by more true h = cc
    by more false h = more h

module _ (named : Named) (of : Key → Bool) (es : List Entry) (are : AreEntries named of es) where
  at_key : (q : Key) → find key_cmp q es ≡ cond (of q) (get named q) None
  at_key q = by (find key_cmp q es) refl
    where
      missing : (b : Bool) → of q ≡ b → (o : Option Value) → get named q ≡ o → find key_cmp q es ≡ None → None ≡ cond b o None
      missing false e o is none = refl
      missing true e None is none = refl
      missing true e (Some v) is none = absurd (no_entry key_cmp_total es q v (are.covered q v is e) none)

      by : (o : Option Value) → find key_cmp q es ≡ o → o ≡ cond (of q) (get named q) None
      by (Some v) e =
          let held = are.held q v (find-in key_cmp_total key_cmp-IsAntisymmetric es q v e) in
          rw (held.1, held.0) refl
      by None e = missing (of q) refl (get named q) refl e

  -- the map of the entries
  pub entries_stand : from_entries es ≡ retain_keys named of
  entries_stand = same_map key_cmp_total key_cmp-IsAntisymmetric (from_entries es) (retain_keys named of) (λ q.
      get-from_entries key_cmp_total es q
      ∙ at_key q
      ∙ sym (get-retain_keys named of q (λ x e. ap of (sym (key_cmp-IsAntisymmetric q x e)))))

-- ---- of the rows of a table

module _ {T R : Type 0} (There : T → Type 0) (Says : T → R → Type 0) (rows : List R) (are : AreRowsOf There Says rows) (named : Named) (of : Key → Bool) (gives : R → List Entry) where
  -- what each row of a thing gives is held, and what the catalogue has at such keys is given by rows of something
  pub rows_give : ((t : T) (row : R) → There t → Says t row → AllByRecursion (IsHeld named of) (gives row)) → ((k : Key) (v : Value) → get named k ≡ Some v → of k ≡ true → (t : T) × There t × ((row : R) → Says t row → IsIn (k, v) (gives row))) → AreEntries named of (flat_map gives rows)
  rows_give holds covers = record {
    held = λ k v among. by k v (from_flat gives rows (k, v) among);
    covered = λ k v is kind.
        let found = covers k v is kind in
        let at = are.each found.0 found.1 in
        in_flat gives rows at.0 (k, v) (among_in rows at.0 at.1) (found.2 at.0 at.2);
  }
    where
      by : (k : Key) (v : Value) → (row : R) × IsIn row rows × IsIn (k, v) (gives row) → (get named k ≡ Some v) × (of k ≡ true)
      by k v found =
          let one = are.only found.0 (in_place rows found.0 found.1) in
          of_member (IsHeld named of) (gives found.0) (holds one.0 found.0 one.1 one.2) (k, v) found.2

-- ---- of tables together

either : (a b : Bool) → a || b ≡ true → (a ≡ true) ⊎ (b ≡ true)
either true b e = inl refl
either false b e = inr e

left_so : (a b : Bool) → a ≡ true → a || b ≡ true
left_so true b e = refl
left_so false b e = cc

right_so : (a b : Bool) → b ≡ true → a || b ≡ true
right_so true b e = refl
right_so false b e = e

pub both_stand : (named : Named) (p q : Key → Bool) (es fs : List Entry) → AreEntries named p es → AreEntries named q fs → AreEntries named (λ k. p k || q k) (es ++ fs)
both_stand named p q es fs one other = record {
  held = λ k v among. held k v (in_either (k, v) es fs among);
  covered = λ k v is kind. covered k v is (either (p k) (q k) kind);
}
  where
    held : (k : Key) (v : Value) → IsIn (k, v) es ⊎ IsIn (k, v) fs → (get named k ≡ Some v) × (p k || q k ≡ true)
    held k v (inl among) = let h = one.held k v among in (h.0, left_so (p k) (q k) h.1)
    held k v (inr among) = let h = other.held k v among in (h.0, right_so (p k) (q k) h.1)

    covered : (k : Key) (v : Value) → get named k ≡ Some v → (p k ≡ true) ⊎ (q k ≡ true) → IsIn (k, v) (es ++ fs)
    covered k v is (inl kind) = in_left (k, v) es fs (one.covered k v is kind)
    covered k v is (inr kind) = in_right (k, v) es fs (other.covered k v is kind)
