use Rattle.std.proofs.Common.{◌≡◌, [], ◌∷◌, ◌++◌, rules}
use Rattle.schema_folders.proofs.Distinct.{indexed-push}
use Rattle.schema_folders.proofs.schemas.Schemas.push.Goals as goal

pub invariant_of-self-2 : goal.invariant_of-self-2
invariant_of-self-2 c =
    let items : c.push.new.self.items ≡ c.self.inside.rows.items ++ c.args.row ∷ [] = search rules in
    rw items (indexed-push c.self.inside.rows.items c.args.row c.in_ok-name.name _ _ _ _ c.self.invariant c.in_ok-index.ensures.oids_ok c.in_ok-index.ensures.names_ok c.in_ok-name.ensures.cases
    (rw (← c.self.view_is) at c.requires.oid) (rw (← c.self.view_is) at c.requires.name))
