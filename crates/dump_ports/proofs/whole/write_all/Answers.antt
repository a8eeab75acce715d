use Rattle.std.proofs.Common.{rules, arith}
use Rattle.std.proofs.lemmas.List.{take_all, length-drop}
use Rattle.dump_ports.proofs.Reading.{more_written}
use Rattle.dump_ports.proofs.whole.write_all.Goals as goal

pub loop-done-preserved : goal.loop-done-preserved
loop-done-preserved g c = record {
  within = search rules;
  written = more_written (g.S.Sink.written c.args.sink.now) _ _ c.args.bytes.now _ c.loop-done.done c.in_ok-done.field-0 c.loop-done.invariant.written c.in_ok-done.ensures.ok (take_all _ _ (omega (arith, length-drop c.loop-done.done c.args.bytes.now)));
  count = search rules;
}
