use Rattle.std.proofs.Common.{◌≡◌, [], ◌∷◌, ◌++◌, subst, to_z, of_z, w64, rules}
use Rattle.std.proofs.lemmas.Int.{to_z-of_z}
use Rattle.cat_names.specs.Indexed.{AreKeys}
use Rattle.cat_book.specs.Rules.{place_cmp}
use Rattle.cat_book.proofs.leads.add_number.Goals as goal

pub returns : goal.returns
returns c = λ cs h.
    let z = c.args.row.now.attnum in
    let back : to_z w64 (of_z w64 z) ≡ z = to_z-of_z w64 z (search rules) in
    subst (λ n. AreKeys place_cmp c.add_key.new.keys (cs ++ (c.args.row.now.attrelid, n) ∷ [])) back (c.in_ok-add_key.ensures.added cs h)
