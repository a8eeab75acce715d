-- The text of an expression, or of a default, is written with the tokens that it has.
use Rattle.ddl_forms.proofs.Common.{arith, ℕ, Bool, true, false, List, is_sign, is_word, nested, nest_step, nest_done, ends_run, expression, default_text}
use Rattle.ddl_forms.proofs.{Tokens.Gap, Tokens.space, RunTexts.IsPlainMachine, Written.Written, Written.run_as}

-- ---- the tokens of a run

pub nested_plain : (bounded takes : Bool) → IsPlainMachine (nested bounded takes)
unfolding ends_run is_sign is_word nest_done nest_step
nested_plain bounded takes = grind arith

-- ---- expressions, and defaults that NOT NULL may not follow

unfoldable pub expression_as : {g : List ℕ} → Gap g → Written expression
unfolding expression
expression_as gap = run_as (nested_plain false false) gap

unfoldable pub default_as : Written default_text
unfolding default_text
default_as = run_as (nested_plain true false) space
