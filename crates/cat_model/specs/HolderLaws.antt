-- The laws of the order of those who have rights: it is total, and holders that compare alike are equal.
-- So grants can be looked up.
use Rattle.std.proofs.Common.{◌≡◌, ◌==◌, true, cond, List, [], ◌∷◌, refl, ap, sym, ◌∙◌}
use Rattle.std.specs.Ordering.{is_eq, eq_by_cmp}
use Rattle.std.specs.Cmp.{IsTotalOrder, on_total, tied_itself}
use Rattle.std.specs.Cmp.Lexicographic.{lists_total, nat_list_cmp_total}
use Rattle.std.specs.FinMap.{IsAntisymmetric, nat_cmp-IsAntisymmetric, slice_cmp-IsAntisymmetric}
use Rattle.cat_model.specs.declared.holder.Holder.{Holder}
use Rattle.cat_model.specs.declared.holder.Holder.TheVariants.{Owner, Public, Role}
use Rattle.cat_model.specs.Holders.{Bytes, bytes_cmp, holder_code, holder_cmp}

pub holder_cmp_total : IsTotalOrder holder_cmp
holder_cmp_total = on_total holder_code (lists_total nat_list_cmp_total)

pub holder-self : (h : Holder) → eq_by_cmp holder_cmp h h ≡ true
holder-self h = ap is_eq (tied_itself holder_cmp_total h)

-- back from a code to its holder
abbrev decoded : List Bytes → Holder
decoded (kind ∷ name ∷ []) = Role name
decoded ((n ∷ []) ∷ []) = cond (n == 0) Owner Public
decoded _ = Public

decoded-code : (h : Holder) → decoded (holder_code h) ≡ h
decoded-code Owner = refl
decoded-code Public = refl
decoded-code (Role name) = refl

same_code : (a b : Holder) → holder_code a ≡ holder_code b → a ≡ b
same_code a b e = sym (decoded-code a) ∙ ap decoded e ∙ decoded-code b

pub bytes_cmp-IsAntisymmetric : IsAntisymmetric bytes_cmp
bytes_cmp-IsAntisymmetric = slice_cmp-IsAntisymmetric nat_cmp-IsAntisymmetric

pub holder_cmp-IsAntisymmetric : IsAntisymmetric holder_cmp
holder_cmp-IsAntisymmetric a b e = same_code a b (slice_cmp-IsAntisymmetric bytes_cmp-IsAntisymmetric (holder_code a) (holder_code b) e)
