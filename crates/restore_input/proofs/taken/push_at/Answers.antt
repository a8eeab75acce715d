use Rattle.std.proofs.Common.{◌≡◌, ◌++◌, Option, OnOk, subst, sym, ap, ◌∙◌}
use Rattle.std.proofs.lemmas.List.{append-nil}
use Rattle.std.specs.Option.{option_to_list}
use Rattle.toc_entry.specs.declared.entry.Entry.{Entry}
use Rattle.restore_input.proofs.taken.push_at.Goals as goal

pub returns-in-None : goal.returns-in-None
returns-in-None c = sym (append-nil c.args.taken.now.items) ∙ ap (λ (o : Option Entry). c.args.taken.now.items ++ option_to_list o) c.in-None.ensures

pub returns-in-Some : goal.returns-in-Some
returns-in-Some c =
    let P : Option Entry → Type 0 = λ (o : Option Entry). OnOk c.push_copy.result (c.push_copy.new.taken.items ≡ c.args.taken.now.items ++ option_to_list o) in
    subst P c.in-Some.ensures c.push_copy.ensures
