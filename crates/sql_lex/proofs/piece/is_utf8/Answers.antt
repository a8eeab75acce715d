use Rattle.std.proofs.Common.{◌≡◌, List, ℕ, Result, Ok, Err, MatchResult, sym, ◌∙◌}
use Rattle.std.specs.Prelude.{is_ok}
use Rattle.std.specs.Str.{IsUtf8, is_utf8}
use Rattle.std.proofs.lemmas.Bool.{false_from_ne_true}
use Rattle.std.proofs.lemmas.Str.{IsUtf8-from_is_utf8, is_utf8-from_IsUtf8}
use Rattle.sql_lex.proofs.piece.is_utf8.Goals as goal

is_ok_utf8 : {S E : Type 0} (bytes : List ℕ) (P : S → Type 0) (Q : E → Type 0) (r : Result S E) → MatchResult r (λ s. P s × IsUtf8 bytes) (λ e. ¬ (IsUtf8 bytes) × Q e) → is_ok r ≡ is_utf8 bytes
is_ok_utf8 bytes P Q (Ok s) h = sym (is_utf8-from_IsUtf8 bytes h.1)
is_ok_utf8 bytes P Q (Err e) h = sym (false_from_ne_true (is_utf8 bytes) (λ t. h.0 (IsUtf8-from_is_utf8 bytes t)))

pub returns : goal.returns
returns c = c.is_ok.ensures.value ∙ is_ok_utf8 c.args.bytes.now _ _ c.from_utf8.result c.from_utf8.ensures.cases
