use Rattle.std.proofs.Common.{[], ◌∷◌, ◌++◌, take, sym, ap, subst, ◌∙◌}
use Rattle.std.proofs.lemmas.List.{take_more}
use Rattle.cat_model.specs.Values.{Bytes}
use Rattle.constraint_table.specs.KeySets.{AreNames}
use Rattle.constraint_table.proofs.SameSets.{name_more}
use Rattle.constraint_table.proofs.key_set.name_set.Goals as goal

pub loop-name-preserved : goal.loop-name-preserved
loop-name-preserved c =
    let names = c.args.names.now in
    let i = c.loop-name.name-index in
    let name = c.in_ok-clone.field-0 in
    let more = take_more names i c.name-item.result c.loop-name-test.true ∙ ap (λ (n : Bytes). take i names ++ n ∷ []) (sym c.name-item.is ∙ sym c.in_ok-clone.ensures.cases) in
    subst (AreNames c.insert.new.self) (sym more) (name_more c.loop-name.set c.insert.new.self (take i names) name c.in_ok-insert.ensures.ordered c.in_ok-insert.ensures.updates.0 c.loop-name.invariant)
