-- The number of the kind comes first in a key's code.
use Rattle.std.proofs.Common.{◌≡◌, ℕ, ◌<◌, refl, ap, sym, ◌∙◌, arith}
use Rattle.std.specs.declared.cmp.Ordering.{Ordering}
use Rattle.std.specs.declared.cmp.Ordering.TheVariants.{Less, Equal}
use Rattle.std.specs.Ordering.{nat_cmp, ordering_then}
use Rattle.std.specs.Cmp.{nat_cmp_is, tied_itself, nat_cmp_total}
use Rattle.std.specs.Cmp.Lexicographic.{slice_cmp}
use Rattle.cat_model.specs.declared.key.Key.{Key}
use Rattle.cat_model.specs.Keys.{key_kind, key_names, key_cmp}
use Rattle.cat_model.specs.KeyLaws.{key_cmp_total, key_cmp-IsAntisymmetric}
use Rattle.cat_model.proofs.KeyOrder.{kinds_decide}
use Rattle.model_laws.proofs.laws.keys_are_ordered.Goals as goal

kinds_first : (a b : Key) → key_kind a < key_kind b → key_cmp a b ≡ Less
kinds_first a b h =
    sym (kinds_decide a b (key_kind a) refl (λ e. absurd (omega arith)))
    ∙ sym (nat_cmp_is (key_kind a) (key_kind b) Less h)

same_kind : (a b : Key) → key_kind a ≡ key_kind b → nat_cmp (key_kind a) (key_kind b) ≡ Equal
same_kind a b e = ap (nat_cmp (key_kind a)) (sym e) ∙ tied_itself nat_cmp_total (key_kind a)

names_next : (a b : Key) → key_kind a ≡ key_kind b → key_cmp a b ≡ slice_cmp (slice_cmp nat_cmp) (key_names a) (key_names b)
names_next a b e = ap (λ (o : Ordering). ordering_then (ordering_then o Equal) (slice_cmp (slice_cmp nat_cmp) (key_names a) (key_names b))) (same_kind a b e)

pub returns : goal.returns
returns c = record { total = key_cmp_total; same = key_cmp-IsAntisymmetric; kinds = kinds_first; names = names_next }
