-- What a function of the engine answered, set against what is due of a statement's tree: its steps so far have passed, or
-- they refuse with a cause. Want of memory says nothing.
use Rattle.std.specs.Prelude.{◌≡◌, Result, Ok, Err}
use Rattle.cat_model.specs.declared.cause.Cause.{Cause}
use Rattle.eng_steps.specs.declared.refusal.ApplyError.{ApplyError}
use Rattle.eng_steps.specs.declared.refusal.ApplyError.TheVariants.{Refused, Memory}

abbrev pub IsRefusal : {A : Type 0} → ApplyError → Result A Cause → Type 0
IsRefusal (Refused cause) due = due ≡ Err cause
IsRefusal Memory due = Unit {0}

-- Where the steps passed with an answer, what is due is what is due of the rest behind them.
abbrev pub Steps : {A B : Type 0} → Result A ApplyError → Result B Cause → (A → Result B Cause) → Type 0
Steps (Ok x) due rest = due ≡ rest x
Steps (Err error) due rest = IsRefusal error due
