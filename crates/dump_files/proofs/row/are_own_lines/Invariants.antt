-- The bytes so far are their own spelling, or the answer is no.
use Rattle.std.proofs.Common.{◌≡◌, take}
use Rattle.std.specs.List.{list_all}
use Rattle.dump_files.specs.Own.{is_own_or_newline}
use Rattle.dump_files.proofs.row.are_own_lines.Given as goal

abbrev pub invariant-loop-byte : goal.invariant-loop-byte
invariant-loop-byte l = l.own ≡ list_all is_own_or_newline (take l.byte-index l.text)
