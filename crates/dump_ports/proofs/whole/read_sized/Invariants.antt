use Rattle.std.proofs.Common.{◌≡◌, ◌+◌, ◌≤◌, ◌-◌, ◌++◌, drop, length, IfSome, vec_len}
use Rattle.dump_ports.specs.Tree.{bytes_at}
use Rattle.dump_ports.proofs.whole.read_sized.Given as goal

-- what is read so far and what is left are the text, and no call has failed
abbrev pub invariant-pieces : goal.invariant-pieces
invariant-pieces g l =
    let files = g.F.Files in
    record {
      kept : files.tree l.files ≡ files.tree l.fn.files;
      read_count : files.read_faults l.files ≡ files.read_faults l.fn.files;
      write_count : files.write_faults l.files ≡ files.write_faults l.fn.files;
      limited : vec_len l.text ≤ l.limit;
      piece : length l.buffer ≡ 65536;
      told : IfSome (files.tree l.fn.files) (λ t. l.text.items ++ drop (vec_len l.text) (bytes_at t l.name) ≡ bytes_at t l.name);
    }

abbrev pub decreases-pieces : goal.decreases-pieces
decreases-pieces g l = l.limit + 1 - vec_len l.text
