-- Signed numbers that pass through their machine form.
use Rattle.std.proofs.Common.{◌≡◌, ℤ, pos, ◌+ℤ◌, w64, FitsSigned, to_z, of_z, ap, ◌∙◌}
use Rattle.std.proofs.lemmas.Int.{to_z-of_z}
use Rattle.list_files.specs.Lists.{day_text}

more : (z n : ℤ) → FitsSigned w64 z → FitsSigned w64 (z +ℤ n) → to_z w64 (of_z w64 (to_z w64 (of_z w64 z) +ℤ n)) ≡ z +ℤ n
more z n fits sum = ap (λ (x : ℤ). to_z w64 (of_z w64 (x +ℤ n))) (to_z-of_z w64 z fits) ∙ to_z-of_z w64 (z +ℤ n) sum

pub passed_on : (year month day : ℤ) → FitsSigned w64 year → FitsSigned w64 month → FitsSigned w64 day → FitsSigned w64 (year +ℤ pos 1900) → FitsSigned w64 (month +ℤ pos 1) →
    day_text (to_z w64 (of_z w64 (to_z w64 (of_z w64 year) +ℤ pos 1900))) (to_z w64 (of_z w64 (to_z w64 (of_z w64 month) +ℤ pos 1))) (to_z w64 (of_z w64 day))
    ≡ day_text (year +ℤ pos 1900) (month +ℤ pos 1) day
passed_on year month day y m d later next = λ i. day_text (more year (pos 1900) y later i) (more month (pos 1) m next i) (to_z-of_z w64 day d i)
