-- Keys of two kinds compare as their kinds do.
use Rattle.std.proofs.Common.{◌≡◌, ℕ, List, [], ◌∷◌, Option, Some, None, refl, ap, sym, subst, ◌∙◌, arith, ◌==◌, cond}
use Rattle.std.specs.declared.cmp.Ordering.{Ordering}
use Rattle.std.specs.declared.cmp.Ordering.TheVariants.{Less, Equal, Greater}
use Rattle.std.specs.Ordering.{nat_cmp, ordering_then}
use Rattle.std.specs.Cmp.Lexicographic.{slice_cmp, lists_total}
use Rattle.std.specs.Cmp.{IsTotalOrder, on_total, nat_cmp_total}
use Rattle.std.specs.FinMap.{IsAntisymmetric, nat_cmp-IsAntisymmetric, slice_cmp-IsAntisymmetric}
use Rattle.cat_model.specs.declared.object.QName.{QName}
use Rattle.cat_model.specs.declared.object.Object.{Object}
use Rattle.cat_model.specs.declared.object.Object.TheVariants as object
use Rattle.cat_model.specs.declared.key.Key.{Key}
use Rattle.cat_model.specs.declared.key.Key.TheVariants.{Role, Member, Schema, UserType, Rel, Owner, Default, Con, Index, Rows, SeqVal, OwnedBy, Acl, Comment, Body, Database}
use Rattle.cat_model.specs.Keys.{key_kind, key_names, key_code, key_cmp, object_code}

-- ---- keys of two kinds

decides : (kinds names : Ordering) → (kinds ≡ Equal → ⊥) → kinds ≡ ordering_then (ordering_then kinds Equal) names
decides Less names h = refl
decides Equal names h = absurd (h refl)
decides Greater names h = refl

pub kinds_decide : (a b : Key) (n : ℕ) → key_kind a ≡ n → (key_kind b ≡ n → ⊥) → nat_cmp (key_kind a) (key_kind b) ≡ key_cmp a b
kinds_decide a b n is apart =
    decides (nat_cmp (key_kind a) (key_kind b)) (slice_cmp (slice_cmp nat_cmp) (key_names a) (key_names b))
    (λ e. apart (sym (nat_cmp-IsAntisymmetric (key_kind a) (key_kind b) e) ∙ is))

pub not-Role : (key : Key) → ((x : List ℕ) → key ≡ Role x → ⊥) → key_kind key ≡ 0 → ⊥
not-Role (Role x) other e = other x refl
not-Role _ other e = omega arith

pub not-Member : (key : Key) → ((x : List ℕ) (y : List ℕ) (z : List ℕ) → key ≡ Member x y z → ⊥) → key_kind key ≡ 1 → ⊥
not-Member (Member x y z) other e = other x y z refl
not-Member _ other e = omega arith

pub not-Schema : (key : Key) → ((x : List ℕ) → key ≡ Schema x → ⊥) → key_kind key ≡ 2 → ⊥
not-Schema (Schema x) other e = other x refl
not-Schema _ other e = omega arith

pub not-UserType : (key : Key) → ((x : QName) → key ≡ UserType x → ⊥) → key_kind key ≡ 3 → ⊥
not-UserType (UserType x) other e = other x refl
not-UserType _ other e = omega arith

pub not-Rel : (key : Key) → ((x : QName) → key ≡ Rel x → ⊥) → key_kind key ≡ 4 → ⊥
not-Rel (Rel x) other e = other x refl
not-Rel _ other e = omega arith

pub not-Owner : (key : Key) → ((x : Object) → key ≡ Owner x → ⊥) → key_kind key ≡ 5 → ⊥
not-Owner (Owner x) other e = other x refl
not-Owner _ other e = omega arith

pub not-Default : (key : Key) → ((x : QName) (y : List ℕ) → key ≡ Default x y → ⊥) → key_kind key ≡ 6 → ⊥
not-Default (Default x y) other e = other x y refl
not-Default _ other e = omega arith

pub not-Con : (key : Key) → ((x : QName) (y : List ℕ) → key ≡ Con x y → ⊥) → key_kind key ≡ 7 → ⊥
not-Con (Con x y) other e = other x y refl
not-Con _ other e = omega arith

pub not-Index : (key : Key) → ((x : QName) (y : List ℕ) → key ≡ Index x y → ⊥) → key_kind key ≡ 8 → ⊥
not-Index (Index x y) other e = other x y refl
not-Index _ other e = omega arith

pub not-Rows : (key : Key) → ((x : QName) → key ≡ Rows x → ⊥) → key_kind key ≡ 9 → ⊥
not-Rows (Rows x) other e = other x refl
not-Rows _ other e = omega arith

pub not-SeqVal : (key : Key) → ((x : QName) → key ≡ SeqVal x → ⊥) → key_kind key ≡ 10 → ⊥
not-SeqVal (SeqVal x) other e = other x refl
not-SeqVal _ other e = omega arith

pub not-OwnedBy : (key : Key) → ((x : QName) → key ≡ OwnedBy x → ⊥) → key_kind key ≡ 11 → ⊥
not-OwnedBy (OwnedBy x) other e = other x refl
not-OwnedBy _ other e = omega arith

pub not-Acl : (key : Key) → ((x : Object) → key ≡ Acl x → ⊥) → key_kind key ≡ 12 → ⊥
not-Acl (Acl x) other e = other x refl
not-Acl _ other e = omega arith

pub not-Comment : (key : Key) → ((x : Object) → key ≡ Comment x → ⊥) → key_kind key ≡ 13 → ⊥
not-Comment (Comment x) other e = other x refl
not-Comment _ other e = omega arith

pub not-Body : (key : Key) → ((x : QName) → key ≡ Body x → ⊥) → key_kind key ≡ 14 → ⊥
not-Body (Body x) other e = other x refl
not-Body _ other e = omega arith

pub not-Database : (key : Key) → ((x : List ℕ) → key ≡ Database x → ⊥) → key_kind key ≡ 15 → ⊥
not-Database (Database x) other e = other x refl
not-Database _ other e = omega arith
