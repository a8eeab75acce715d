-- The laws of the order of keys: it is total, and keys that compare alike are equal.
-- A code is read back into its key, so that there is a case a kind and not one a pair of kinds.
use Rattle.std.proofs.Common.{◌≡◌, ℕ, true, false, true≢false, List, [], ◌∷◌, Option, Some, None, refl, ap, sym, subst, ◌∙◌, arith, ◌==◌, cond}
use Rattle.std.specs.declared.cmp.Ordering.{Ordering}
use Rattle.std.specs.declared.cmp.Ordering.TheVariants.{Less, Equal, Greater}
use Rattle.std.specs.Bool.{Decides}
use Rattle.std.specs.Ordering.{nat_cmp, is_eq, eq_by_cmp}
use Rattle.std.specs.Cmp.Lexicographic.{slice_cmp, lists_total}
use Rattle.std.specs.Cmp.{IsTotalOrder, on_total, nat_cmp_total, tied_itself}
use Rattle.std.specs.FinMap.{IsAntisymmetric, nat_cmp-IsAntisymmetric, slice_cmp-IsAntisymmetric}
use Rattle.cat_model.specs.declared.object.QName.{QName}
use Rattle.cat_model.specs.declared.object.Object.{Object}
use Rattle.cat_model.specs.declared.object.Object.TheVariants as object
use Rattle.cat_model.specs.declared.key.Key.{Key}
use Rattle.cat_model.specs.declared.key.Key.TheVariants.{Role, Member, Schema, UserType, Rel, Owner, Default, Con, Index, Rows, SeqVal, OwnedBy, Acl, Comment, Body, Database}
use Rattle.cat_model.specs.Keys.{key_kind, key_names, key_code, key_cmp, object_code}

-- ---- back from a code to its key

abbrev name_in : {A : Type 0} → (List ℕ → A) → List (List ℕ) → Option A
name_in f (name ∷ []) = Some (f name)
name_in f _ = None

abbrev names_in : {A : Type 0} → (List ℕ → List ℕ → List ℕ → A) → List (List ℕ) → Option A
names_in f (one ∷ two ∷ three ∷ []) = Some (f one two three)
names_in f _ = None

abbrev path_in : {A : Type 0} → (QName → A) → List (List ℕ) → Option A
path_in f (schema ∷ name ∷ []) = Some (f (record { schema = schema; name = name }))
path_in f _ = None

abbrev part_in : {A : Type 0} → (QName → List ℕ → A) → List (List ℕ) → Option A
part_in f (schema ∷ name ∷ part ∷ []) = Some (f (record { schema = schema; name = name }) part)
part_in f _ = None

abbrev object_of : {A : Type 0} → (Object → A) → ℕ → List (List ℕ) → Option A
object_of f n names =
    cond (n == 0) (name_in (λ x. f (object.Schema x)) names)
    (cond (n == 1) (path_in (λ x. f (object.Type x)) names)
    (cond (n == 2) (path_in (λ x. f (object.Relation x)) names)
    (cond (n == 3) (part_in (λ x y. f (object.Column x y)) names)
    (cond (n == 4) (part_in (λ x y. f (object.Constraint x y)) names)
    (name_in (λ x. f (object.Database x)) names)))))

abbrev object_in : {A : Type 0} → (Object → A) → List (List ℕ) → Option A
object_in f ((n ∷ []) ∷ names) = object_of f n names
object_in f _ = None

abbrev key_of : ℕ → List (List ℕ) → Option Key
key_of n names =
    cond (n == 0) (name_in Role names)
    (cond (n == 1) (names_in Member names)
    (cond (n == 2) (name_in Schema names)
    (cond (n == 3) (path_in UserType names)
    (cond (n == 4) (path_in Rel names)
    (cond (n == 5) (object_in Owner names)
    (cond (n == 6) (part_in Default names)
    (cond (n == 7) (part_in Con names)
    (cond (n == 8) (part_in Index names)
    (cond (n == 9) (path_in Rows names)
    (cond (n == 10) (path_in SeqVal names)
    (cond (n == 11) (path_in OwnedBy names)
    (cond (n == 12) (object_in Acl names)
    (cond (n == 13) (object_in Comment names)
    (cond (n == 14) (path_in Body names)
    (name_in Database names)))))))))))))))

abbrev decoded : List (List ℕ) → Option Key
decoded ((n ∷ []) ∷ names) = key_of n names
decoded _ = None

object_in-code : {A : Type 0} (f : Object → A) (o : Object) → object_in f (object_code o) ≡ Some (f o)
object_in-code f (object.Schema name) = refl
object_in-code f (object.Type q) = refl
object_in-code f (object.Relation q) = refl
object_in-code f (object.Column q column) = refl
object_in-code f (object.Constraint q name) = refl
object_in-code f (object.Database name) = refl

decoded-code : (key : Key) → decoded (key_code key) ≡ Some key
decoded-code (Role name) = refl
decoded-code (Member role member grantor) = refl
decoded-code (Schema name) = refl
decoded-code (UserType q) = refl
decoded-code (Rel q) = refl
decoded-code (Owner object) = object_in-code Owner object
decoded-code (Default q column) = refl
decoded-code (Con q name) = refl
decoded-code (Index q name) = refl
decoded-code (Rows q) = refl
decoded-code (SeqVal q) = refl
decoded-code (OwnedBy q) = refl
decoded-code (Acl object) = object_in-code Acl object
decoded-code (Comment object) = object_in-code Comment object
decoded-code (Body q) = refl
decoded-code (Database name) = refl

same_code : (a b : Key) → key_code a ≡ key_code b → a ≡ b
same_code a b e =
    let both : Some a ≡ Some b = sym (decoded-code a) ∙ ap decoded e ∙ decoded-code b in
    cc

pub key_cmp-IsAntisymmetric : IsAntisymmetric key_cmp
key_cmp-IsAntisymmetric a b e =
    same_code a b (slice_cmp-IsAntisymmetric (slice_cmp-IsAntisymmetric nat_cmp-IsAntisymmetric) (key_code a) (key_code b) e)

pub key_cmp_total : IsTotalOrder key_cmp
key_cmp_total = on_total key_code (lists_total (lists_total nat_cmp_total))

equal_of : (a b : Key) (answer : Ordering) → key_cmp a b ≡ answer → is_eq answer ≡ true → a ≡ b
equal_of a b Less e h = absurd (true≢false (sym h))
equal_of a b Equal e h = key_cmp-IsAntisymmetric a b e
equal_of a b Greater e h = absurd (true≢false (sym h))

-- keys that `==` holds of are equal
pub key_eq-same : (a b : Key) → eq_by_cmp key_cmp a b ≡ true → a ≡ b
key_eq-same a b h = equal_of a b (key_cmp a b) refl h

pub key_eq-Decides : (a b : Key) → Decides (eq_by_cmp key_cmp a b) (a ≡ b)
key_eq-Decides a b = (key_eq-same a b, λ e. ap is_eq (sym (ap (key_cmp a) e) ∙ tied_itself key_cmp_total a))

-- what is made of one of two keys that `==` holds of is made of the other
pub key_alike : {H : Type 0} (made : Key → H) (a b : Key) → eq_by_cmp key_cmp a b ≡ true → made a ≡ made b
key_alike made a b h = ap made (key_eq-same a b h)
