use Rattle.std.proofs.Common.{◌≡◌, [], ◌∷◌, ◌++◌, rules}
use Rattle.dep_sort.proofs.Making.{indexed_push}
use Rattle.dep_sort.proofs.made.Made.add.Goals as goal

pub invariant_of-self-2 : goal.invariant_of-self-2
invariant_of-self-2 c =
    let items : c.push.new.self.items ≡ c.self.inside.objects.items ++ c.args.object ∷ [] = search rules in
    rw items (indexed_push c.self.inside.objects.items c.self.inside.places c.insert.new.self c.args.object _ c.self.invariant (search rules) (search rules) (λ q. c.in_ok-insert.ensures.updates.0 q))
