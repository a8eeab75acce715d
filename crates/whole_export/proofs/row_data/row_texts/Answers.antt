use Rattle.std.proofs.Common.{sym, ◌∙◌, arith}
use Rattle.whole_export.specs.Data.{IsHeld}
use Rattle.whole_export.proofs.Texts.{texts_more, texts_end, held_more, held_end}
use Rattle.whole_export.proofs.row_data.row_texts.Goals as goal

pub loop-i-preserved : goal.loop-i-preserved
loop-i-preserved c = record {
  texts = texts_more c.args.ids.now c.args.entries.now c.loop-i.i c.index-entries-i.result c.index-entries-i-in-loop-i.result c.loop-i.texts c.put_entry.new.texts c.loop-i-test.true c.index-entries-i.is c.in_ok-put_entry.ensures.put ∙ c.loop-i.invariant.texts;
  held = held_more IsHeld c.args.entries.now c.loop-i.i c.index-entries-i.result c.index-entries-i-in-loop-i.result c.loop-i-test.true c.index-entries-i.is c.loop-i.invariant.held c.in_ok-put_entry.ensures.held;
}

pub returns-clause-texts : goal.returns-clause-texts
returns-clause-texts c = sym (texts_end c.args.ids.now c.args.entries.now c.loop-i.i c.loop-i.texts (omega arith)) ∙ c.loop-i.invariant.texts

pub returns-clause-held : goal.returns-clause-held
returns-clause-held c = held_end IsHeld c.args.entries.now c.loop-i.i (omega arith) c.loop-i.invariant.held
