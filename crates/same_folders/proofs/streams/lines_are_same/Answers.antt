use Rattle.std.proofs.Common.{◌≡◌, ◌+◌, ◌<◌, subst, sym, ◌∙◌, rules, arith}
use Rattle.dump_ports.specs.Tree.{bytes_at}
use Rattle.same_folders.proofs.FileParts.{all_same, all_seen, same_more, seen_on}
use Rattle.same_folders.proofs.streams.lines_are_same.Goals as goal

pub parts-preserved : goal.parts-preserved
parts-preserved g c =
    let inv = c.parts.invariant in
    let done = c.parts.done in
    let n = c.in_ok-n.n in
    let some : 0 < n = omega arith in
    let next : c.in-Some.next ≡ done + n = omega (arith, c.in-Some.ensures) in
    record {
      kept = search rules;
      read_count = search rules;
      write_count = search rules;
      same = λ tree known.
          rw next (same_more (bytes_at tree c.args.first.now) (bytes_at tree c.args.second.now) done n (inv.same tree known) (c.in_ok-n.ensures.same some tree (inv.kept ∙ known)));
      seen = λ tree known nothing.
          rw next (seen_on c.args.trial.now c.take_lines.new.keys (bytes_at tree c.args.first.now) done n (c.in_ok-n.ensures.seen some tree (inv.kept ∙ known) _ (inv.seen tree known nothing)));
    }

pub returns-clause-same : goal.returns-clause-same
returns-clause-same g c = λ yes tree known one two.
    all_same (bytes_at tree c.args.first.now) (bytes_at tree c.args.second.now) c.parts.done (omega arith) (omega arith) (c.parts.invariant.same tree known)

pub returns-clause-seen : goal.returns-clause-seen
returns-clause-seen g c = λ yes tree known one nothing.
    all_seen c.args.trial.now c.parts.keys (bytes_at tree c.args.first.now) c.parts.done (omega arith) (c.parts.invariant.seen tree known nothing)
