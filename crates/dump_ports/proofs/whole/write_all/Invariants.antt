use Rattle.std.proofs.Common.{◌≡◌, ◌≤◌, ◌-◌, ◌++◌, length, take, option_map}
use Rattle.dump_ports.proofs.whole.write_all.Given as goal

-- the bytes so far are written, and no call has failed
abbrev pub invariant-loop-done : goal.invariant-loop-done
invariant-loop-done g l =
    let sink = g.S.Sink in
    record {
      within : l.done ≤ length l.bytes;
      written : sink.written l.sink ≡ option_map (λ text. text ++ take l.done l.bytes) (sink.written l.fn.sink);
      count : sink.faults l.sink ≡ sink.faults l.fn.sink;
    }

abbrev pub decreases-loop-done : goal.decreases-loop-done
decreases-loop-done g l = length l.bytes - l.done
