-- Two sets of names compare alike exactly where the names are the same, in whatever order and however often each stands.
use Rattle.std.proofs.Common.{◌≡◌, ℕ, Bool, true, false, true≢false, cond, ◌&&◌, ◌||◌, List, [], ◌∷◌, ◌++◌, refl, sym, ap, subst, ◌∙◌}
use Rattle.std.specs.BTreeSet.{BTreeSet, IsOrdered, contains}
use Rattle.std.specs.Cmp.{IsTotalOrder}
use Rattle.std.specs.Cmp.Lexicographic.{slice_cmp}
use Rattle.std.specs.List.{list_any, list_all}
use Rattle.std.specs.declared.cmp.Ordering.{Ordering}
use Rattle.std.specs.declared.cmp.Ordering.TheVariants.{Less, Equal, Greater}
use Rattle.std.specs.Ordering.{nat_cmp, is_eq, eq_by_cmp, ordering_then}
use Rattle.std.proofs.lemmas.Cmp.{nat_cmp_total, nat_list_cmp_total, lists_total, on_total, then_total, eq_by_cmp_equiv, tied_itself}
use Rattle.std.proofs.lemmas.Map.Lookups.{exact_bytes, btree_set_from_contains}
use Rattle.std.proofs.lemmas.Map.Text.{is_eq-slice_cmp}
use Rattle.std.proofs.lemmas.Map.Views.{tells_apart}
use Rattle.std.proofs.lemmas.List.Folds.{list_any-append}
use Rattle.cat_model.specs.Lexemes.{same_text}
use Rattle.cat_model.specs.Tables.{same_set}
use Rattle.cat_model.specs.Values.{Bytes, bytes_cmp}
use Rattle.cat_names.specs.Lookups.{same_oid, same_name, has_name}
use Rattle.constraint_table.specs.KeySets.{AreNames, key_cmp, is_key_on, AreKeysOn}

-- ---- names among names

same_name_is : (a b : Bytes) → same_name a b ≡ same_text a b
same_name_is a b = is_eq-slice_cmp a b

any_text : (x : Bytes) (ys : List Bytes) → list_any (same_text x) ys ≡ has_name ys x
any_text x [] = refl
any_text x (y ∷ ys) = ap (λ b. b || list_any (same_text x) ys) (sym (same_name_is x y)) ∙ ap (λ o. same_name x y || o) (any_text x ys)

itself : (x : Bytes) → same_name x x ≡ true
itself x = ap is_eq (tied_itself nat_list_cmp_total x)

both : (a b : Bool) → a && b ≡ true → (a ≡ true) × (b ≡ true)
both true b e = (refl, e)
both false b e = absurd (true≢false (sym e))

either : (a b : Bool) → a ≡ true → a || b ≡ true
either true b e = refl
either false b e = absurd (true≢false (sym e))

later : (a b : Bool) → b ≡ true → a || b ≡ true
later true b e = refl
later false b e = e

-- each of the first names is one of the second
abbrev Within : List Bytes → List Bytes → Type 0
Within a b = (q : Bytes) → has_name a q ≡ true → has_name b q ≡ true

within : (a b : List Bytes) → list_all (λ x. list_any (same_text x) b) a ≡ true → Within a b
within [] b all q is = absurd (true≢false (sym is))
within (x ∷ xs) b all q is =
    let two = both (list_any (same_text x) b) (list_all (λ y. list_any (same_text y) b) xs) all in
    by two.0 (within xs b two.1 q) (same_name q x) refl is
  where
    by : list_any (same_text x) b ≡ true → (has_name xs q ≡ true → has_name b q ≡ true) → (s : Bool) → same_name q x ≡ s → s || has_name xs q ≡ true → has_name b q ≡ true
    by here more true same rest = subst (λ n. has_name b n ≡ true) (sym (tells_apart exact_bytes q x same)) (sym (any_text x b) ∙ here)
    by here more false other rest = more rest

all_within : (a b : List Bytes) → Within a b → list_all (λ x. list_any (same_text x) b) a ≡ true
all_within [] b w = refl
all_within (x ∷ xs) b w =
    let here : list_any (same_text x) b ≡ true = any_text x b ∙ w x (either (same_name x x) (has_name xs x) (itself x)) in
    let rest = all_within xs b (λ q is. w q (later (same_name q x) (has_name xs q) is)) in
    ap (λ s. s && list_all (λ y. list_any (same_text y) b) xs) here ∙ rest

alike : (a b : Bool) → (a ≡ true → b ≡ true) → (b ≡ true → a ≡ true) → a ≡ b
alike true b to from = sym (to refl)
alike false true to from = absurd (true≢false (sym (from refl)))
alike false false to from = refl

-- ---- sets of names

same_members : (s t : BTreeSet Bytes) (a b : List Bytes) → AreNames s a → AreNames t b → same_set a b ≡ true → s.keys ≡ t.keys
same_members s t a b is is_too same =
    let two = both (list_all (λ x. list_any (same_text x) b) a) (list_all (λ x. list_any (same_text x) a) b) same in
    btree_set_from_contains nat_list_cmp_total s t is.0 is_too.0
    (λ q. is.1 q ∙ alike (has_name a q) (has_name b q) (within a b two.0 q) (within b a two.1 q) ∙ sym (is_too.1 q)) exact_bytes

from_members : (s t : BTreeSet Bytes) (a b : List Bytes) → AreNames s a → AreNames t b → s.keys ≡ t.keys → same_set a b ≡ true
from_members s t a b is is_too same =
    let as_names : (q : Bytes) → has_name a q ≡ has_name b q = λ q. sym (is.1 q) ∙ ap (list_any (eq_by_cmp bytes_cmp q)) same ∙ is_too.1 q in
    ap (λ o. o && list_all (λ x. list_any (same_text x) a) b) (all_within a b (λ q e. sym (as_names q) ∙ e)) ∙ all_within b a (λ q e. as_names q ∙ e)

exact_lists : (xs ys : List Bytes) → slice_cmp bytes_cmp xs ys ≡ Equal → xs ≡ ys
exact_lists [] [] e = refl
exact_lists [] (y ∷ ys) e = absurd cc
exact_lists (x ∷ xs) [] e = absurd cc
exact_lists (x ∷ xs) (y ∷ ys) e = by (exact_lists xs ys) (bytes_cmp x y) refl e
  where
    by : (slice_cmp bytes_cmp xs ys ≡ Equal → xs ≡ ys) → (o : Ordering) → bytes_cmp x y ≡ o → ordering_then o (slice_cmp bytes_cmp xs ys) ≡ Equal → x ∷ xs ≡ y ∷ ys
    by more Less is rest = absurd cc
    by more Equal is rest = ap (λ h. h ∷ xs) (exact_bytes x y is) ∙ ap (λ t. y ∷ t) (more rest)
    by more Greater is rest = absurd cc

equal : (o : Ordering) → is_eq o ≡ true → o ≡ Equal
equal Less e = absurd (true≢false (sym e))
equal Equal e = refl
equal Greater e = absurd (true≢false (sym e))

-- sets of names compare alike where the names are the same
pub same_names : (s t : BTreeSet Bytes) (a b : List Bytes) → AreNames s a → AreNames t b → is_eq (slice_cmp bytes_cmp s.keys t.keys) ≡ same_set a b
same_names s t a b is is_too =
    alike (is_eq (slice_cmp bytes_cmp s.keys t.keys)) (same_set a b)
    (λ e. from_members s t a b is is_too (exact_lists s.keys t.keys (equal (slice_cmp bytes_cmp s.keys t.keys) e)))
    (λ e. ap is_eq (ap (slice_cmp bytes_cmp s.keys) (sym (same_members s t a b is is_too e)) ∙ tied_itself (lists_total nat_list_cmp_total) s.keys))

-- ---- keys

key_total : IsTotalOrder key_cmp
key_total = then_total (on_total (λ (k : ℕ × BTreeSet Bytes). k.0) nat_cmp_total) (on_total (λ (k : ℕ × BTreeSet Bytes). k.1.keys) (lists_total nat_list_cmp_total))

eq_then : (o p : Ordering) → is_eq (ordering_then o p) ≡ is_eq o && is_eq p
eq_then Less p = refl
eq_then Equal p = refl
eq_then Greater p = refl

-- a key is the one that is looked for where both are on one table and the same columns
same_keys : (table other : ℕ) (s t : BTreeSet Bytes) (a b : List Bytes) → AreNames s a → AreNames t b → eq_by_cmp key_cmp (other, t) (table, s) ≡ same_oid table other && same_set a b
same_keys table other s t a b is is_too =
    (eq_by_cmp_equiv key_total).symm (other, t) (table, s)
    ∙ eq_then (nat_cmp table other) (slice_cmp bytes_cmp s.keys t.keys)
    ∙ ap (λ o. same_oid table other && o) (same_names s t a b is is_too)

joined : (b o : Bool) → cond b true o ≡ o || (b || false)
joined true true = refl
joined true false = refl
joined false true = refl
joined false false = refl

-- the set with one more key
pub one_more : (old new : BTreeSet (ℕ × BTreeSet Bytes)) (keys : List (ℕ × List Bytes)) (other : ℕ) (t : BTreeSet Bytes) (b : List Bytes) → AreNames t b
    → ((q : ℕ × BTreeSet Bytes) → contains key_cmp new q ≡ cond (eq_by_cmp key_cmp (other, t) q) true (contains key_cmp old q))
    → AreKeysOn old keys → AreKeysOn new (keys ++ (other, b) ∷ [])
one_more old new keys other t b is_too added are = λ table names s is.
    added (table, s)
    ∙ ap (λ e. cond e true (contains key_cmp old (table, s))) (same_keys table other s t names b is is_too)
    ∙ ap (cond (same_oid table other && same_set names b) true) (are table names s is)
    ∙ joined (same_oid table other && same_set names b) (is_key_on keys table names)
    ∙ sym (list_any-append (λ (k : ℕ × List Bytes). same_oid table k.0 && same_set names k.1) keys ((other, b) ∷ []))

-- the set with one more name
pub name_more : (old new : BTreeSet Bytes) (names : List Bytes) (name : Bytes) → IsOrdered bytes_cmp new
    → ((q : Bytes) → contains bytes_cmp new q ≡ cond (eq_by_cmp bytes_cmp name q) true (contains bytes_cmp old q))
    → AreNames old names → AreNames new (names ++ name ∷ [])
name_more old new names name ordered added are = (
  ordered,
  λ q.
      added q
      ∙ ap (λ e. cond e true (contains bytes_cmp old q)) ((eq_by_cmp_equiv nat_list_cmp_total).symm name q)
      ∙ ap (cond (same_name q name) true) (are.1 q)
      ∙ joined (same_name q name) (has_name names q)
      ∙ sym (list_any-append (same_name q) names (name ∷ [])),
)
