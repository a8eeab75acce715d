use Rattle.std.proofs.Common.{◌≡◌, ◌+◌, ◌≤◌, ◌-◌, ◌++◌, drop, length, IfSome, option_map, vec_len}
use Rattle.dump_ports.proofs.whole.read_all.Given as goal

-- what is read so far and what is left are all that was left, and no call has failed
abbrev pub invariant-pieces : goal.invariant-pieces
invariant-pieces g l =
    let source = g.S.Source in
    record {
      count : source.faults l.source ≡ source.faults l.fn.source;
      limited : vec_len l.text ≤ l.limit;
      piece : length l.buffer ≡ 65536;
      given : source.left l.source ≡ option_map (λ left. drop (vec_len l.text) left) (source.left l.fn.source);
      told : IfSome (source.left l.fn.source) (λ left. l.text.items ++ drop (vec_len l.text) left ≡ left);
    }

abbrev pub decreases-pieces : goal.decreases-pieces
decreases-pieces g l = l.limit + 1 - vec_len l.text
