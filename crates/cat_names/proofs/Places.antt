-- Where oids stand first, and how it is when one more comes behind them.
use Rattle.std.proofs.Common.{◌≡◌, ℕ, suc, Bool, true, false, true≢false, cond, not, ◌||◌, List, [], ◌∷◌, ◌++◌, length, Option, Some, None, option_map, is_some, BTreeMap, refl, sym, ap, ◌∙◌, arith}
use Rattle.std.specs.Option.{option_and_then}
use Rattle.std.specs.Ordering.{nat_cmp, eq_by_cmp}
use Rattle.std.specs.Cmp.{nat_cmp_total, eq_by_cmp_equiv}
use Rattle.std.specs.BTreeMap as tree
use Rattle.std.proofs.lemmas.Map.Steps.{list_any_congr}
use Rattle.cat_rows.specs.declared.roles.AuthidRow.{AuthidRow}
use Rattle.cat_model.specs.Values.{Bytes}
use Rattle.cat_names.specs.Indexed.{IsIndexed}
use Rattle.cat_names.specs.Lookups.{same_oid, has_oid, place_of, role_oids, role_name, name_at}

is_some-suc : (o : Option ℕ) → is_some (option_map suc o) ≡ is_some o
is_some-suc None = refl
is_some-suc (Some n) = refl

is_some-cond : (b : Bool) (n : ℕ) (o : Option ℕ) (more : Bool) → is_some o ≡ more → is_some (cond b (Some n) o) ≡ (b || more)
is_some-cond true n o more e = refl
is_some-cond false n o more e = e

-- an oid has a place exactly where it is there
pub is_some-place : (oid : ℕ) (os : List ℕ) → is_some (place_of oid os) ≡ has_oid os oid
unfolding place_of
is_some-place oid [] = refl
is_some-place oid (o ∷ os) = is_some-cond (same_oid oid o) 0 (option_map suc (place_of oid os)) (has_oid os oid) (is_some-suc (place_of oid os) ∙ is_some-place oid os)

suc-cond : (h b : Bool) (p : Option ℕ) (n : ℕ) → option_map suc (cond h p (cond b (Some n) None)) ≡ cond h (option_map suc p) (cond b (Some (suc n)) None)
suc-cond true b p n = refl
suc-cond false true p n = refl
suc-cond false false p n = refl

cond-or : (x h : Bool) (a p : Option ℕ) (c : Option ℕ) → cond x a (cond h p c) ≡ cond (x || h) (cond x a p) c
cond-or true h a p c = refl
cond-or false h a p c = refl

-- the place among oids with one more behind them
pub place-push : (oid o : ℕ) (os : List ℕ) → place_of oid (os ++ o ∷ []) ≡ cond (has_oid os oid) (place_of oid os) (cond (same_oid oid o) (Some (length os)) None)
unfolding place_of
place-push oid o [] = refl
place-push oid o (x ∷ xs) =
    ap (λ p. cond (same_oid oid x) (Some 0) (option_map suc p)) (place-push oid o xs)
    ∙ ap (cond (same_oid oid x) (Some 0)) (suc-cond (has_oid xs oid) (same_oid oid o) (place_of oid xs) (length xs))
    ∙ cond-or (same_oid oid x) (has_oid xs oid) (Some 0) (option_map suc (place_of oid xs)) (cond (same_oid oid o) (Some (suc (length xs))) None)
    ∙ ap (λ n. cond (same_oid oid x || has_oid xs oid) (cond (same_oid oid x) (Some 0) (option_map suc (place_of oid xs))) (cond (same_oid oid o) (Some n) None)) (longer xs)
  where
    longer : (ys : List ℕ) → suc (length ys) ≡ length (x ∷ ys)
    longer ys = omega arith

no_place : (p : Option ℕ) → is_some p ≡ false → p ≡ None
no_place None e = refl
no_place (Some n) e = absurd (true≢false e)

new_case : (b h : Bool) (p x : Option ℕ) → (b ≡ true → h ≡ false) → is_some p ≡ h → cond b x p ≡ cond h p (cond b x None)
new_case true true p x free e = absurd (true≢false (free refl))
new_case true false p x free e = refl
new_case false true p x free e = refl
new_case false false p x free e = no_place p e

old_case : (b h : Bool) (p x : Option ℕ) → (b ≡ true → h ≡ true) → is_some p ≡ h → p ≡ cond h p (cond b x None)
old_case b true p x there e = refl
old_case true false p x there e = absurd (true≢false (sym (there refl)))
old_case false false p x there e = no_place p e

same_has : (q oid : ℕ) (os : List ℕ) (h : Bool) → has_oid os oid ≡ h → same_oid q oid ≡ true → has_oid os q ≡ h
same_has q oid os h e s = list_any_congr (eq_by_cmp_equiv nat_cmp_total) q oid os s ∙ e

-- the map keeps the places when a new oid comes with its place
pub indexed_new : (os : List ℕ) (places more : BTreeMap ℕ ℕ) (oid : ℕ) → IsIndexed os places → has_oid os oid ≡ false
    → ((q : ℕ) → tree.get nat_cmp more q ≡ cond (eq_by_cmp nat_cmp oid q) (Some (length os)) (tree.get nat_cmp places q)) → IsIndexed (os ++ oid ∷ []) more
indexed_new os places more oid indexed free u = λ q.
    u q
    ∙ ap (λ b. cond b (Some (length os)) (tree.get nat_cmp places q)) ((eq_by_cmp_equiv nat_cmp_total).symm oid q)
    ∙ ap (cond (same_oid q oid) (Some (length os))) (indexed q)
    ∙ new_case (same_oid q oid) (has_oid os q) (place_of q os) (Some (length os)) (same_has q oid os false free) (is_some-place q os)
    ∙ sym (place-push q oid os)

-- and when one comes that was there
pub indexed_old : (os : List ℕ) (places : BTreeMap ℕ ℕ) (oid : ℕ) → IsIndexed os places → has_oid os oid ≡ true → IsIndexed (os ++ oid ∷ []) places
indexed_old os places oid indexed there = λ q.
    indexed q
    ∙ old_case (same_oid q oid) (has_oid os q) (place_of q os) (Some (length os)) (same_has q oid os true there) (is_some-place q os)
    ∙ sym (place-push q oid os)

not_free : (first : Bool) (o : Option ℕ) (h : Bool) → first ≡ not (is_some o) → is_some o ≡ h → h ≡ not first
not_free first o h e s = sym s ∙ sym (not_not (is_some o)) ∙ ap not (sym e)
  where
    not_not : (b : Bool) → not (not b) ≡ b
    not_not true = refl
    not_not false = refl

-- either way, by whether the map had it
pub indexed_push : (os : List ℕ) (places more : BTreeMap ℕ ℕ) (oid n : ℕ) (first : Bool) → IsIndexed os places → n ≡ length os → first ≡ not (is_some (tree.get nat_cmp places oid))
    → (first ≡ true → (q : ℕ) → tree.get nat_cmp more q ≡ cond (eq_by_cmp nat_cmp oid q) (Some n) (tree.get nat_cmp places q))
    → (first ≡ false → (q : ℕ) → tree.get nat_cmp more q ≡ tree.get nat_cmp places q) → IsIndexed (os ++ oid ∷ []) more
indexed_push os places more oid n first indexed at e new old = by_first first (not_free first (tree.get nat_cmp places oid) (has_oid os oid) e (ap is_some (indexed oid) ∙ is_some-place oid os)) new old
  where
    by_first : (b : Bool) → has_oid os oid ≡ not b
        → (b ≡ true → (q : ℕ) → tree.get nat_cmp more q ≡ cond (eq_by_cmp nat_cmp oid q) (Some n) (tree.get nat_cmp places q))
        → (b ≡ false → (q : ℕ) → tree.get nat_cmp more q ≡ tree.get nat_cmp places q) → IsIndexed (os ++ oid ∷ []) more
    by_first true h u v = indexed_new os places more oid indexed h (λ q. u refl q ∙ ap (λ k. cond (eq_by_cmp nat_cmp oid q) (Some k) (tree.get nat_cmp places q)) at)
    by_first false h u v = λ q. v refl q ∙ indexed_old os places oid indexed h q

-- ---- roles

found_at : (b : Bool) (role : AuthidRow) (roles : List AuthidRow) (p : Option ℕ) (name : Option Bytes) → name ≡ option_and_then (name_at roles) p
    → cond b (Some role.rolname) name ≡ option_and_then (name_at (role ∷ roles)) (cond b (Some 0) (option_map suc p))
found_at true role roles p name e = refl
found_at false role roles None name e = e
found_at false role roles (Some n) name e = e

-- the name of a role is that of the row at its oid's place
pub role_name_at : (roles : List AuthidRow) (oid : ℕ) → role_name roles oid ≡ option_and_then (name_at roles) (place_of oid (role_oids roles))
unfolding role_name place_of
role_name_at [] oid = refl
role_name_at (role ∷ roles) oid = found_at (same_oid oid role.oid) role roles (place_of oid (role_oids roles)) (role_name roles oid) (role_name_at roles oid)
