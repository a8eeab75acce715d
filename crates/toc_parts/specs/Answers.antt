-- How an answer of the code agrees with what a part reads.
use Rattle.std.specs.Prelude.{◌≡◌, Option, Some, None, Result, Ok, Err, MatchOption, ⊤}
use Rattle.toc_parts.specs.declared.fault.FieldFault.{FieldFault}
use Rattle.toc_parts.specs.declared.fault.FieldError.{FieldError}
use Rattle.toc_parts.specs.declared.fault.FieldError.TheVariants as errors

-- What a reader of the code answered, seen by view, is what is read; an error that is no fault is want of memory.
abbrev pub Gives : {X Y F E : Type 0} → (F → Option E) → (X → Y) → Result X F → Result Y E → Type 0
Gives fault view (Ok x) reading = reading ≡ Ok (view x)
Gives fault view (Err e) reading = MatchOption (fault e) ⊤ (λ f. reading ≡ Err f)

abbrev pub fault_of : FieldError → Option FieldFault
fault_of (errors.Fault f) = Some f
fault_of errors.Memory = None
