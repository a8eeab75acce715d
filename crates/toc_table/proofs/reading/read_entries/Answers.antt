use Rattle.std.proofs.Common.{◌≡◌, ◌∷◌, ◌++◌, ℕ, List, []}
use Rattle.std.proofs.lemmas.Result.{err_from_is_err_and}
use Rattle.toc_parts.specs.Parts.{state_after, counted_at, lefts_at}
use Rattle.toc_parts.proofs.Loops.{state_after-push, counted_goes_on, counted_fails, counted_ends, lefts_go_on, lefts_end}
use Rattle.toc_entry.specs.declared.entry.Entry.{Entry}
use Rattle.toc_table.specs.Tables.{toc_halt, entries}
use Rattle.toc_table.proofs.reading.read_entries.Goals as goal

pub returns-in_err-entry-clause-read : goal.returns-in_err-entry-clause-read
returns-in_err-entry-clause-read c =
    let p = err_from_is_err_and c.from_residual.result c.from_residual.ensures.1 in
    let items = entries c.args.directory in
    let earlier = state_after items [] c.loop.entries.items in
    rw (p.1, p.2) (counted_fails items c.loop.entries.items c.args.count c.loop.counter earlier c.loop.left.now (toc_halt c.in_err-entry.field-0.0)
    (counted_at items c.args.count [] c.args.rest.now) c.loop-test.true (c.in_err-entry.ensures.read earlier c.loop.invariant.ids) c.loop.invariant.read)

pub loop-preserved : goal.loop-preserved
loop-preserved c =
    let items = entries c.args.directory in
    let earlier : List ℕ = state_after items [] c.loop.entries.items in
    let e : Entry = c.in_ok-entry.entry in
    let later : state_after items [] (c.loop.entries.items ++ e ∷ []) ≡ e.dump_id ∷ earlier = state_after-push items [] c.loop.entries.items e in
    let is = c.in_ok-entry.ensures.read earlier c.loop.invariant.ids in
    record {
      read = rw (c.in_ok-push.ensures.items, later)
          (counted_goes_on items c.loop.entries.items c.args.count c.loop.counter earlier c.loop.left.now e c.in_ok-entry.behind.now (counted_at items c.args.count [] c.args.rest.now) c.loop-test.true is c.loop.invariant.read);
      lefts = rw (c.in_ok-push-2.ensures.items, c.in_ok-push.ensures.items, later)
          (lefts_go_on items c.loop.lefts.items c.args.count c.loop.counter earlier c.loop.left.now e c.in_ok-entry.behind.now (lefts_at items c.args.count [] c.args.rest.now) c.loop-test.true is c.loop.invariant.lefts);
      ids = rw (c.in_ok-push.ensures.items, later) (c.in_ok-entry.ensures.ids earlier c.loop.invariant.ids);
    }

pub returns-clause-read : goal.returns-clause-read
returns-clause-read c =
    let items = entries c.args.directory in
    counted_ends items c.loop.entries.items c.args.count c.loop.counter (state_after items [] c.loop.entries.items) c.loop.left.now (counted_at items c.args.count [] c.args.rest.now) c.loop-test.false c.loop.invariant.read

pub returns-clause-lefts : goal.returns-clause-lefts
returns-clause-lefts c =
    let items = entries c.args.directory in
    lefts_end items c.loop.lefts.items c.args.count c.loop.counter (state_after items [] c.loop.entries.items) c.loop.left.now (lefts_at items c.args.count [] c.args.rest.now) c.loop-test.false c.loop.invariant.lefts
