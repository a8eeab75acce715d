-- What was appended so far is the report of the refusals so far.
use Rattle.std.proofs.Common.{◌≡◌, ◌++◌, take}
use Rattle.tool_words.specs.Messages.{report}
use Rattle.refusals.proofs.report.write_report.Given as goal

abbrev pub invariant-loop-refusal : goal.invariant-loop-refusal
invariant-loop-refusal l = l.out.items ≡ l.initial.out.items ++ report (take l.refusal-index l.refusals)
