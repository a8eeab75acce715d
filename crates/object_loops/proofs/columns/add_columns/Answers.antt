use Rattle.std.proofs.Common.{◌≡◌, true, List, sym, subst, take}
use Rattle.std.proofs.Math.ListN.{get_or}
use Rattle.cat_model.specs.declared.value.Column.{Column}
use Rattle.cat_sound.specs.Itself.{IsTyped}
use Rattle.object_export.specs.Relations.{NamedColumn, IsColumnRow}
use Rattle.sound_texts.specs.Grammar.{grammar}
use Rattle.object_loops.specs.Adding.{Adds}
use Rattle.object_loops.specs.Oids.{with_numbers}
use Rattle.object_export.specs.Parts.{columns_from}
use Rattle.object_loops.proofs.Passes.{adds_one, all_here, columns_more}
use Rattle.object_loops.proofs.columns.add_columns.Goals as goal

pub loop-place-preserved : goal.loop-place-preserved
loop-place-preserved c = λ typed.
    let all = c.args.columns.now in
    let table = c.args.table.now in
    let i = c.loop-place.place in
    let column = c.index-columns-place.result in
    let is : column ≡ get_or all i column = c.index-columns-place.is in
    let says = IsColumnRow (with_numbers c.args.ids.now c.args.numbers.now) in
    let good : grammar.type column.type_name ≡ true = subst (λ (x : Column). grammar.type x.type_name ≡ true) (sym is) (all_here (λ (x : Column). IsTyped grammar x.type_name x.resolved) all i column c.loop-place-test.true typed).named in
    subst (λ (cs : List NamedColumn). Adds says cs c.args.rows.now c.push.new.rows) (sym (columns_more table all i column c.loop-place-test.true))
    (adds_one says (columns_from table all 0 (take i all)) c.args.rows.now c.loop-place.rows c.push.new.rows (record { table = table; columns = all; place = i; column = get_or all i column }) c.in_ok-row_of.field-0 (c.loop-place.invariant typed) c.in_ok-push.ensures
    (subst (λ (x : Column). says (record { table = table; columns = all; place = i; column = x }) c.in_ok-row_of.field-0) is (c.in_ok-row_of.ensures good)))
