-- Lists of checks that stand for the same map.
use Rattle.std.proofs.Common.{◌≡◌, Bool, true, false, true≢false, cond, [], ◌∷◌, Some, None, refl, sym, ap, ◌∙◌}
use Rattle.std.specs.Cmp.{Equal-is}
use Rattle.std.specs.Cmp.Lexicographic.{nat_list_cmp_total}
use Rattle.std.specs.FinMap.{IsAntisymmetric, from_entries, get-from_entries, same_map, slice_cmp-IsAntisymmetric, nat_cmp-IsAntisymmetric}
use Rattle.std.specs.Ordering.{eq_by_cmp}
use Rattle.cat_model.specs.Values.{Bytes, bytes_cmp}

bytes_cmp-IsAntisymmetric : IsAntisymmetric bytes_cmp
bytes_cmp-IsAntisymmetric = slice_cmp-IsAntisymmetric nat_cmp-IsAntisymmetric

-- two checks of which neither has the other's name
pub other_order : (a b : Bytes × Bytes) → eq_by_cmp bytes_cmp a.0 b.0 ≡ false → from_entries {R = bytes_cmp} (a ∷ b ∷ []) ≡ from_entries (b ∷ a ∷ [])
other_order a b apart = same_map nat_list_cmp_total bytes_cmp-IsAntisymmetric _ _ (λ q. get-from_entries nat_list_cmp_total (a ∷ b ∷ []) q ∙ by q (eq_by_cmp bytes_cmp q a.0) (eq_by_cmp bytes_cmp q b.0) refl refl ∙ sym (get-from_entries nat_list_cmp_total (b ∷ a ∷ []) q))
  where
    by : (q : Bytes) (s t : Bool) → eq_by_cmp bytes_cmp q a.0 ≡ s → eq_by_cmp bytes_cmp q b.0 ≡ t → cond s (Some a.1) (cond t (Some b.1) None) ≡ cond t (Some b.1) (cond s (Some a.1) None)
    by q true true at_a at_b =
        let same : q ≡ a.0 = bytes_cmp-IsAntisymmetric q a.0 ((Equal-is (bytes_cmp q a.0)).0 at_a) in
        absurd (true≢false (sym at_b ∙ ap (λ (p : Bytes). eq_by_cmp bytes_cmp p b.0) same ∙ apart))
    by q true false at_a at_b = refl
    by q false true at_a at_b = refl
    by q false false at_a at_b = refl

-- two checks of one name
pub first_counts : (name first second : Bytes) → from_entries {R = bytes_cmp} ((name, first) ∷ (name, second) ∷ []) ≡ from_entries ((name, first) ∷ [])
first_counts name first second = same_map nat_list_cmp_total bytes_cmp-IsAntisymmetric _ _ (λ q. get-from_entries nat_list_cmp_total ((name, first) ∷ (name, second) ∷ []) q ∙ by (eq_by_cmp bytes_cmp q name) ∙ sym (get-from_entries nat_list_cmp_total ((name, first) ∷ []) q))
  where
    by : (s : Bool) → cond s (Some first) (cond s (Some second) None) ≡ cond s (Some first) None
    by true = refl
    by false = refl
