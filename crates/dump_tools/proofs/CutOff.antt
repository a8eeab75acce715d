-- An outcome that cuts the work off is due of anything; and what was done since a step that left the files as they were.
use Rattle.std.proofs.Common.{◌≡◌, Option, Result, sym, subst, inl, inr}
use Rattle.dump_ports.specs.Tree.{Tree}
use Rattle.cat_model.specs.Values.{Bytes}
use Rattle.tool_words.specs.declared.outcome.Outcome.{Outcome}
use Rattle.same_folders.specs.CutOff.{IsCutOff}
use Rattle.dump_tools.specs.Due.{Plan, IsAnswerDue, WasDue}

pub cut_off_due : (outcome : Outcome) (due : Result Plan Outcome) → IsCutOff outcome → IsAnswerDue outcome due
cut_off_due outcome due (inl failed) = subst (λ (o : Outcome). IsAnswerDue o due) (sym failed) (inl tt)
cut_off_due outcome due (inr starved) = subst (λ (o : Outcome). IsAnswerDue o due) (sym starved) (inl tt)

pub done_since : (due : Result Plan Outcome) (answer : Outcome) (start between after : Option Tree) (printed told : Option Bytes) → between ≡ start → WasDue due answer between after printed printed told told → WasDue due answer start after printed printed told told
done_since due answer start between after printed told kept done = subst (λ (s : Option Tree). WasDue due answer s after printed printed told told) kept done
