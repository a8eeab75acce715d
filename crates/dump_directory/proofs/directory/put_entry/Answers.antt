use Rattle.std.proofs.Common.{◌≡◌, true, List, ℕ, rules, refl, ap, ◌∙◌}
use Rattle.std.proofs.lemmas.Result.{err_from_is_err_and}
use Rattle.dump_ports.specs.Tree.{bytes_at}
use Rattle.fmt_directory.specs.Directories.{rows_name}
use Rattle.dump_files.specs.Outlets.{outside}
use Rattle.dump_directory.specs.Directories.{with_file}
use Rattle.dump_directory.proofs.SavingLemmas.{saves_holds, rows_apart, entry_ok, entry_err, first_beyond}
use Rattle.dump_directory.proofs.directory.put_entry.Goals as goal

pub returns-in_err-count-clause-err : goal.returns-in_err-count-clause-err
returns-in_err-count-clause-err g c = λ tree before due rows more is beyond saves.
    let p = err_from_is_err_and c.from_residual-in_err-count.result c.from_residual-in_err-count.ensures.1 in
    let folder = c.args.folder.now in
    let id = c.args.entry.now.dump_id in
    let file = c.in-Some.file.now in
    let others = c.in-Some.others.now in
    let split = c.in-Some.ensures.cases.0 in
    let has : c.args.entry.now.has_rows ≡ true = search rules in
    let now = outside (g.F.Files.tree c.args.files.now) (g.O.Sink.written c.args.out.now) in
    let now2 = outside (g.F.Files.tree c.put_file.new.files) (g.O.Sink.written c.put_file.new.out) in
    let name : c.in_ok-name.name ≡ rows_name folder id = c.in_ok-name.ensures ∙ ap (λ (f : List ℕ). rows_name f id) c.as_str.ensures in
    let away = first_beyond tree folder id c.args.entry.now.has_rows has c.args.needed.now file others split more beyond in
    let still = with_file tree folder id c.args.entry.now.has_rows c.args.needed.now more in
    let holds = saves_holds folder due before now rows still saves file.name (bytes_at tree file.name) away (record { told = tree; is = is; bytes = refl }) in
    let found = c.in_err-count.ensures.err (bytes_at tree file.name) holds (rows_apart folder c.in_ok-name.name file.name id name away) in
    rw (p.1, p.2) (entry_err tree folder id c.args.entry.now.has_rows has c.args.needed.now file others split more due before now now2 rows c.in_ok-name.name c.in_err-count.field-0.0 saves name found)

pub returns-clause-ok : goal.returns-clause-ok
returns-clause-ok g c = λ tree before due rows more is beyond saves.
    let folder = c.args.folder.now in
    let id = c.args.entry.now.dump_id in
    let file = c.in-Some.file.now in
    let others = c.in-Some.others.now in
    let split = c.in-Some.ensures.cases.0 in
    let has : c.args.entry.now.has_rows ≡ true = search rules in
    let now = outside (g.F.Files.tree c.args.files.now) (g.O.Sink.written c.args.out.now) in
    let now2 = outside (g.F.Files.tree c.put_file.new.files) (g.O.Sink.written c.put_file.new.out) in
    let name : c.in_ok-name.name ≡ rows_name folder id = c.in_ok-name.ensures ∙ ap (λ (f : List ℕ). rows_name f id) c.as_str.ensures in
    let away = first_beyond tree folder id c.args.entry.now.has_rows has c.args.needed.now file others split more beyond in
    let still = with_file tree folder id c.args.entry.now.has_rows c.args.needed.now more in
    let holds = saves_holds folder due before now rows still saves file.name (bytes_at tree file.name) away (record { told = tree; is = is; bytes = refl }) in
    let found = c.in_ok-count.ensures.ok (bytes_at tree file.name) holds (rows_apart folder c.in_ok-name.name file.name id name away) in
    entry_ok tree folder id c.args.entry.now.has_rows has c.args.needed.now file others split more due before now now2 rows c.in_ok-count.count c.in_ok-name.name saves name found
