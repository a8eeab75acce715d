-- What holds of each entry that a row gives, and which entries there are.
use Rattle.std.proofs.Common.{◌≡◌, Bool, true, false, cond, List, [], ◌∷◌, Option, Some, None, refl, sym, ap, subst, inl, inr}
use Rattle.std.specs.declared.cmp.Ordering.{Ordering}
use Rattle.std.specs.Cmp.{IsTotalOrder, tied_itself}
use Rattle.std.specs.FinMap.{find}
use Rattle.std.specs.List.{AllByRecursion}
use Rattle.std.specs.Ordering.{eq_by_cmp, is_eq}
use Rattle.cat_model.specs.declared.object.QName.{QName}
use Rattle.cat_model.specs.declared.value.Value.{Value}
use Rattle.cat_model.specs.Values.{Bytes}
use Rattle.cat_names.specs.Naming.{Entry, under}
use Rattle.cat_naming.specs.Types.{under_path, with_value}
use Rattle.cat_sound.proofs.Lists.{IsIn}

-- ---- what holds of each

module _ (P : Entry → Type 0) where
  pub under_all : (o : Option Bytes) (f : Bytes → List Entry) → ((name : Bytes) → o ≡ Some name → AllByRecursion P (f name)) → AllByRecursion P (under o f)
  under_all None f each = tt
  under_all (Some name) f each = each name refl

  pub path_all : (o : Option QName) (f : QName → List Entry) → ((q : QName) → o ≡ Some q → AllByRecursion P (f q)) → AllByRecursion P (under_path o f)
  path_all None f each = tt
  path_all (Some q) f each = each q refl

  pub value_all : (o : Option Value) (f : Value → List Entry) → ((v : Value) → o ≡ Some v → AllByRecursion P (f v)) → AllByRecursion P (with_value o f)
  value_all None f each = tt
  value_all (Some v) f each = each v refl

-- ---- which there are

pub under_in : (e : Entry) (o : Option Bytes) (f : Bytes → List Entry) (name : Bytes) → o ≡ Some name → IsIn e (f name) → IsIn e (under o f)
under_in e o f name is here = subst (λ (p : Option Bytes). IsIn e (under p f)) (sym is) here

pub path_in : (e : Entry) (o : Option QName) (f : QName → List Entry) (q : QName) → o ≡ Some q → IsIn e (f q) → IsIn e (under_path o f)
path_in e o f q is here = subst (λ (p : Option QName). IsIn e (under_path p f)) (sym is) here

pub value_in : (e : Entry) (o : Option Value) (f : Value → List Entry) (v : Value) → o ≡ Some v → IsIn e (f v) → IsIn e (with_value o f)
value_in e o f v is here = subst (λ (p : Option Value). IsIn e (with_value p f)) (sym is) here

-- at a key that is there something is found
pub in_found : {K X : Type 0} {R : K → K → Ordering} → IsTotalOrder R → (es : List (K × X)) (k : K) (v : X) → IsIn (k, v) es → (w : X) × (find R k es ≡ Some w)
in_found total [] k v among = elim among [ ]
in_found {K} {X} {R} total (e ∷ es) k v among = by (λ later. in_found total es k v later) (eq_by_cmp R k e.0) refl among
  where
    by : (IsIn (k, v) es → (w : X) × (find R k es ≡ Some w)) → (b : Bool) → eq_by_cmp R k e.0 ≡ b → IsIn (k, v) (e ∷ es) → (w : X) × (cond {A = Option X} b (Some e.1) (find R k es) ≡ Some w)
    by later true is here = (e.1, refl)
    by later false is (inl same) =
        let tied : eq_by_cmp R k k ≡ true = ap is_eq (tied_itself total k) in
        let no : eq_by_cmp R k k ≡ false = subst (λ (x : K × X). eq_by_cmp R k x.0 ≡ false) same is in
        absurd cc
    by later false is (inr among) = later among
