use Rattle.std.proofs.Common.{◌≡◌, List, [], ◌∷◌, refl, ap, ◌∙◌, arith, rules}
use Rattle.std.proofs.lemmas.Result.{err_from_is_err_and}
use Rattle.std.proofs.lemmas.List.{nil_from_length}
use Rattle.toc_entry.specs.declared.entry.Entry.{Entry}
use Rattle.dump_files.specs.Outlets.{outside}
use Rattle.dump_plain.proofs.GoingLemmas.{stop_as}
use Rattle.dump_directory.specs.Directories.{no_file, with_file, data_out, told}
use Rattle.dump_directory.proofs.SavingLemmas.{saves_as, data-nil, data-cons}
use Rattle.dump_directory.proofs.directory.put_data.Goals as goal

pub returns-in_err-count-clause-err : goal.returns-in_err-count-clause-err
returns-in_err-count-clause-err g c = λ tree before due is beyond s.
    let p = err_from_is_err_and c.from_residual.result c.from_residual.ensures.1 in
    let folder = c.args.folder.now in
    let left = c.loop-entry.leftover.now in
    let more = data_out tree folder c.in-Some.later.now in
    let still = with_file tree folder c.in-Some.entry.now.dump_id c.in-Some.entry.now.has_rows left more in
    let now = outside (g.F.Files.tree c.loop-entry.files) (g.O.Sink.written c.loop-entry.out) in
    let split : c.loop-entry.rest.now ≡ c.in-Some.entry.now ∷ c.in-Some.later.now = c.in-Some.ensures.cases.0 in
    let opened = ap (λ (es : List Entry). data_out tree folder es left) split ∙ data-cons tree folder c.in-Some.entry.now c.in-Some.later.now left in
    let saves = saves_as folder due before now c.loop-entry.rows _ (c.loop-entry.invariant.saves tree before due is beyond s) c.loop-entry.rows still refl opened in
    let found = c.in_err-count.ensures.err tree before due c.loop-entry.rows more is ((c.loop-entry.invariant.left tree).0 beyond) saves in
    rw (p.1, p.2) (stop_as tree c.args.needed.now left (told due) (told due) c.in_err-count.field-0.0 (c.loop-entry.invariant.left tree).1 refl found.0, found.1)

pub loop-entry-preserved : goal.loop-entry-preserved
loop-entry-preserved g c = record {
  read_count = search rules;
  write_count = search rules;
  out_count = search rules;
  few = omega (arith, c.loop-entry.invariant.few, c.in_ok-count.ensures.few);
  left = λ tree. (λ beyond. (c.in_ok-count.ensures.left tree).0 ((c.loop-entry.invariant.left tree).0 beyond), λ large. (c.loop-entry.invariant.left tree).1 ((c.in_ok-count.ensures.left tree).1 large));
  saves = λ tree before due is beyond s.
      let folder = c.args.folder.now in
      let left = c.loop-entry.leftover.now in
      let more = data_out tree folder c.in-Some.later.now in
      let still = with_file tree folder c.in-Some.entry.now.dump_id c.in-Some.entry.now.has_rows left more in
      let now = outside (g.F.Files.tree c.loop-entry.files) (g.O.Sink.written c.loop-entry.out) in
      let split : c.loop-entry.rest.now ≡ c.in-Some.entry.now ∷ c.in-Some.later.now = c.in-Some.ensures.cases.0 in
      let opened = ap (λ (es : List Entry). data_out tree folder es left) split ∙ data-cons tree folder c.in-Some.entry.now c.in-Some.later.now left in
      let saves = saves_as folder due before now c.loop-entry.rows _ (c.loop-entry.invariant.saves tree before due is beyond s) c.loop-entry.rows still refl opened in
      c.in_ok-count.ensures.ok tree before due c.loop-entry.rows more is ((c.loop-entry.invariant.left tree).0 beyond) saves;
}

pub returns-clause-ok : goal.returns-clause-ok
returns-clause-ok g c = λ tree before due is beyond s.
    let folder = c.args.folder.now in
    let left = c.loop-entry.leftover.now in
    let now = outside (g.F.Files.tree c.loop-entry.files) (g.O.Sink.written c.loop-entry.out) in
    let none : c.loop-entry.rest.now ≡ [] = nil_from_length c.loop-entry.rest.now (search rules) in
    saves_as folder due before now c.loop-entry.rows _ (c.loop-entry.invariant.saves tree before due is beyond s) c.loop-entry.rows no_file refl
    (ap (λ (es : List Entry). data_out tree folder es left) none ∙ data-nil tree folder left)
