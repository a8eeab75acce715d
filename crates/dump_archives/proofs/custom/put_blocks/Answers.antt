use Rattle.std.proofs.Common.{◌≡◌, ◌+◌, ◌++◌, ℕ, List, [], ◌∷◌, length, refl, sym, ap, ◌∙◌, append-nil, arith, rules}
use Rattle.std.proofs.lemmas.Result.{err_from_is_err_and}
use Rattle.std.proofs.lemmas.List.{nil_from_length}
use Rattle.toc_entry.specs.declared.entry.Entry.{Entry}
use Rattle.dump_files.specs.Outlets.{outside}
use Rattle.dump_plain.specs.Dumps.{of_text}
use Rattle.dump_archives.specs.Customs.{with_block, blocks_out, places_from}
use Rattle.dump_plain.proofs.GoingLemmas.{goes_as, goes_on, goes_stop, goes_cut}
use Rattle.dump_archives.proofs.BlockLemmas.{blocks-nil, blocks-cons}
use Rattle.dump_archives.proofs.GrowingLemmas.{grown_on}
use Rattle.dump_archives.proofs.PlaceLemmas.{places-nil, places-cons}
use Rattle.dump_archives.proofs.custom.put_blocks.Goals as goal

pub returns-in_err-count-clause-err : goal.returns-in_err-count-clause-err
returns-in_err-count-clause-err g c = λ tree done before s is apart.
    let p = err_from_is_err_and c.from_residual.result c.from_residual.ensures.1 in
    let target = c.args.target.now in
    let more = blocks_out tree c.in-Some.later.now in
    let due = blocks_out tree c.args.entries.now c.args.needed.now in
    let left = c.loop-entry.leftover.now in
    let still = with_block tree c.in-Some.entry.now.dump_id c.in-Some.entry.now.has_rows left more in
    let now = outside (g.F.Files.tree c.loop-entry.files) (g.O.Sink.written c.loop-entry.out) in
    let now2 = outside (g.F.Files.tree c.put_entry.new.files) (g.O.Sink.written c.put_entry.new.out) in
    let split : c.loop-entry.rest.now ≡ c.in-Some.entry.now ∷ c.in-Some.later.now = c.in-Some.ensures.cases.0 in
    let opened = ap (λ (es : List Entry). blocks_out tree es left) split ∙ blocks-cons tree c.in-Some.entry.now c.in-Some.later.now left in
    let going = goes_as target due done before now c.loop-entry.waiting.items c.loop-entry.rows c.loop-entry.rows _ still refl opened (c.loop-entry.invariant.going tree done before s is apart) in
    let found = c.in_err-count.ensures.err tree (done ++ going.text) before more going.stands is ((c.loop-entry.invariant.left tree).0 apart) in
    rw (p.1, p.2) (
      goes_stop target due done before now c.loop-entry.waiting.items c.loop-entry.rows still going tree c.args.needed.now left c.in_err-count.field-0.0 (c.loop-entry.invariant.left tree).1 found.0,
      goes_cut target due done before now c.loop-entry.waiting.items c.loop-entry.rows still going now2 found.1,
    )

pub loop-entry-preserved : goal.loop-entry-preserved
loop-entry-preserved g c = record {
  read_count = search rules;
  write_count = search rules;
  out_count = search rules;
  few = omega (arith, c.loop-entry.invariant.few, c.in_ok-count.ensures.few);
  left = λ tree. (λ apart. (c.in_ok-count.ensures.left tree).0 ((c.loop-entry.invariant.left tree).0 apart), λ large. (c.loop-entry.invariant.left tree).1 ((c.in_ok-count.ensures.left tree).1 large));
  going = λ tree done before s is apart.
      let target = c.args.target.now in
      let more = blocks_out tree c.in-Some.later.now in
      let due = blocks_out tree c.args.entries.now c.args.needed.now in
      let left = c.loop-entry.leftover.now in
      let still = with_block tree c.in-Some.entry.now.dump_id c.in-Some.entry.now.has_rows left more in
      let now = outside (g.F.Files.tree c.loop-entry.files) (g.O.Sink.written c.loop-entry.out) in
      let now2 = outside (g.F.Files.tree c.put_entry.new.files) (g.O.Sink.written c.put_entry.new.out) in
      let split : c.loop-entry.rest.now ≡ c.in-Some.entry.now ∷ c.in-Some.later.now = c.in-Some.ensures.cases.0 in
      let opened = ap (λ (es : List Entry). blocks_out tree es left) split ∙ blocks-cons tree c.in-Some.entry.now c.in-Some.later.now left in
      let going = goes_as target due done before now c.loop-entry.waiting.items c.loop-entry.rows c.loop-entry.rows _ still refl opened (c.loop-entry.invariant.going tree done before s is apart) in
      let found = c.in_ok-count.ensures.ok tree (done ++ going.text) before more going.stands is ((c.loop-entry.invariant.left tree).0 apart) in
      goes_on target due done before now c.loop-entry.waiting.items c.loop-entry.rows still going now2 c.put_entry.new.waiting.items c.in_ok-count.count (more c.in_ok-count.others.now) found;
  grown = λ done before s n.
      let so_far = c.loop-entry.invariant.grown done before s n in
      grown_on c.args.target.now done before (outside (g.F.Files.tree c.loop-entry.files) (g.O.Sink.written c.loop-entry.out)) c.loop-entry.waiting.items c.loop-entry.passed so_far (outside (g.F.Files.tree c.put_entry.new.files) (g.O.Sink.written c.put_entry.new.out)) c.put_entry.new.waiting.items c.put_entry.new.passed
      (c.in_ok-count.ensures.grows (done ++ so_far.more) before so_far.stands so_far.count);
  placed = λ tree done before name at s n is apart.
      let so_far = c.loop-entry.invariant.grown done before s n in
      let left = c.loop-entry.leftover.now in
      let here = c.loop-entry.passed + length c.loop-entry.waiting.items in
      let split : c.loop-entry.rest.now ≡ c.in-Some.entry.now ∷ c.in-Some.later.now = c.in-Some.ensures.cases.0 in
      let opened = ap (λ (es : List Entry). places_from tree here es left) split ∙ places-cons tree here c.in-Some.entry.now c.in-Some.later.now left in
      c.loop-entry.invariant.placed tree done before name at s n is apart
      ∙ ap (λ (ps : List ℕ). c.loop-entry.places.items ++ ps) opened
      ∙ c.in_ok-count.ensures.places tree (done ++ so_far.more) before name (λ behind others. places_from tree behind c.in-Some.later.now others) at so_far.stands so_far.count is ((c.loop-entry.invariant.left tree).0 apart);
}

pub returns-clause-ok : goal.returns-clause-ok
returns-clause-ok g c = λ tree done before s is apart.
    let due = blocks_out tree c.args.entries.now c.args.needed.now in
    let now = outside (g.F.Files.tree c.loop-entry.files) (g.O.Sink.written c.loop-entry.out) in
    let left = c.loop-entry.leftover.now in
    let none : c.loop-entry.rest.now ≡ [] = nil_from_length c.loop-entry.rest.now (search rules) in
    goes_as c.args.target.now due done before now c.loop-entry.waiting.items c.loop-entry.rows c.loop-entry.rows _ (of_text []) refl
    (ap (λ (es : List Entry). blocks_out tree es left) none ∙ blocks-nil tree left)
    (c.loop-entry.invariant.going tree done before s is apart)

pub returns-clause-places : goal.returns-clause-places
returns-clause-places g c = λ tree done before name at s n is apart.
    let left = c.loop-entry.leftover.now in
    let here = c.loop-entry.passed + length c.loop-entry.waiting.items in
    let none : c.loop-entry.rest.now ≡ [] = nil_from_length c.loop-entry.rest.now (search rules) in
    sym (c.loop-entry.invariant.placed tree done before name at s n is apart
    ∙ ap (λ (ps : List ℕ). c.loop-entry.places.items ++ ps) (ap (λ (es : List Entry). places_from tree here es left) none ∙ places-nil tree here left)
    ∙ append-nil c.loop-entry.places.items)
