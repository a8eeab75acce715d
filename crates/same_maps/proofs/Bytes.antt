-- Names, texts, rows and flags, and lists of them: `==` decides whether they are the same.
use Rattle.std.proofs.Common.{◌≡◌, Bool, true, false, true≢false, nat_eq, List, Option, Some, None, refl, sym, ap}
use Rattle.std.specs.Bool.{Decides, beq}
use Rattle.std.specs.Option.{option_eq}
use Rattle.std.specs.Cmp.Lexicographic.{pointwise}
use Rattle.std.proofs.lemmas.Bool.Decides.{Decides-eqb, Decides-like}
use Rattle.std.proofs.lemmas.Slice.Eq.{slice_eq-Decides}
use Rattle.cat_model.specs.Values.{Bytes, Row}

pub same_bytes : (a b : Bytes) → Decides (pointwise nat_eq a b) (a ≡ b)
same_bytes a b = slice_eq-Decides Decides-eqb a b (pointwise nat_eq a b) refl

pub same_lists : (a b : List Bytes) (r : Bool) → r ≡ pointwise (pointwise nat_eq) a b → Decides r (a ≡ b)
same_lists a b r e = slice_eq-Decides same_bytes a b r e

never : {P : Type 0} → (P → ⊥) → Decides false P
never apart = (λ e. absurd (true≢false (sym e)), λ p. absurd (apart p))

in_field : Option Bytes → Bytes → Bytes
in_field (Some b) other = b
in_field None other = other

same_field : (a b : Option Bytes) → Decides (option_eq (pointwise nat_eq) a b) (a ≡ b)
unfolding in_field
same_field None None = (λ _. refl, λ _. refl)
same_field None (Some b) = never (λ e. absurd cc)
same_field (Some a) None = never (λ e. absurd cc)
same_field (Some a) (Some b) = Decides-like _ (λ e. ap Some e) (λ e. ap (λ (o : Option Bytes). in_field o a) e) (same_bytes a b)

same_row : (a b : Row) → Decides (pointwise (option_eq (pointwise nat_eq)) a b) (a ≡ b)
same_row a b = slice_eq-Decides same_field a b (pointwise (option_eq (pointwise nat_eq)) a b) refl

pub same_rows : (a b : List Row) (r : Bool) → r ≡ pointwise (pointwise (option_eq (pointwise nat_eq))) a b → Decides r (a ≡ b)
same_rows a b r e = slice_eq-Decides same_row a b r e

pub same_bool : (a b : Bool) → Decides (beq a b) (a ≡ b)
same_bool true true = (λ _. refl, λ _. refl)
same_bool true false = (λ e. sym e, λ e. sym e)
same_bool false true = (λ e. e, λ e. e)
same_bool false false = (λ _. refl, λ _. refl)
