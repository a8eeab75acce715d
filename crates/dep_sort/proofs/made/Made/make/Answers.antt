use Rattle.std.proofs.Common.{◌≡◌, List, [], ◌∷◌, ◌++◌, None, OnOk, ap, subst, ◌∙◌, rules}
use Rattle.graph_parts.specs.declared.object.Obj.{Obj}
use Rattle.dep_sort.specs.Cut.{made_at, made_once}
use Rattle.dep_sort.proofs.Making.{no_place, once_there, once_new}
use Rattle.dep_sort.proofs.made.Made.make.Goals as goal

pub returns-then-is_some : goal.returns-then-is_some
returns-then-is_some c = once_there c.args.self.now c.args.object.now (search rules)

pub returns : goal.returns
returns c =
    let free : made_at c.args.self.now c.args.object.now.id ≡ None = no_place (made_at c.args.self.now c.args.object.now.id) (search rules) in
    let more : c.args.self.now ++ c.in_ok-clone.field-0 ∷ [] ≡ made_once c.args.self.now c.args.object.now =
    ap (λ (o : Obj). c.args.self.now ++ o ∷ []) c.in_ok-clone.ensures.cases ∙ once_new c.args.self.now c.args.object.now free in
    subst (λ (l : List Obj). OnOk c.add.result (c.add.new.self ≡ l)) more c.add.ensures
