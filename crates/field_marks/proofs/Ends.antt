-- Where the first line ends.
use Rattle.std.proofs.Common.{◌≡◌, ℕ, Bool, true, false, List, refl, sym, ◌∙◌}
use Rattle.line_fields.specs.Clear.{IsClear, IsFirstField, behind_line}
use Rattle.line_fields.proofs.Walks.{IsReached, reached_end}

pub line_ended : (text : List ℕ) (i : ℕ) (rest piece : List ℕ) (more : Bool) (behind end : List ℕ) → IsReached text i rest → IsFirstField rest piece more behind → (more ≡ false → end ≡ behind) → (more ≡ true → IsClear behind → end ≡ behind_line behind) → end ≡ behind_line text
line_ended text i rest piece true behind end so_far field ended on = on refl field.clear ∙ sym (field.same_line refl) ∙ sym so_far.line
line_ended text i rest piece false behind end so_far field ended on = ended refl ∙ sym (reached_end text i rest piece false behind so_far refl field)
