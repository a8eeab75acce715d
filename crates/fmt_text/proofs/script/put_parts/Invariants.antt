use Rattle.std.proofs.Common.{◌≡◌, ◌++◌, take}
use Rattle.fmt_text.specs.Script.{parts}
use Rattle.fmt_text.proofs.script.put_parts.Given as goal

abbrev pub invariant-loop-entry : goal.invariant-loop-entry
invariant-loop-entry l = l.out.items ≡ l.fn.out.items ++ parts l.owners (take l.entry-index l.entries)
