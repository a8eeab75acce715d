use Rattle.std.proofs.Common.{◌≡◌, Bool, true, false, List, ℕ, Some, None, refl, sym, ap, ◌∙◌}
use Rattle.std.specs.Str.{IsUtf8, is_utf8}
use Rattle.std.proofs.lemmas.Str.{IsUtf8-from_is_utf8, is_utf8-from_IsUtf8}
use Rattle.toc_parts.specs.Fields.{text_of}
use Rattle.toc_parts.proofs.reading.as_text.Goals as goal

is_text : (bytes : List ℕ) → IsUtf8 bytes → text_of bytes ≡ Some bytes
is_text bytes h = rw (is_utf8-from_IsUtf8 bytes h) refl

no_text : (bytes : List ℕ) (b : Bool) → is_utf8 bytes ≡ b → (IsUtf8 bytes → ⊥) → text_of bytes ≡ None
no_text bytes true e h = absurd (h (IsUtf8-from_is_utf8 bytes e))
no_text bytes false e h = rw e refl

pub returns-in-Ok : goal.returns-in-Ok
returns-in-Ok c = ap Some c.in-Ok.ensures.cases.0 ∙ sym (is_text c.args.bytes.now c.in-Ok.ensures.cases.1)

pub returns-in-Err : goal.returns-in-Err
returns-in-Err c = sym (no_text c.args.bytes.now (is_utf8 c.args.bytes.now) refl c.in-Err.ensures.cases.0)
