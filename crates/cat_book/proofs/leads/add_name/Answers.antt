use Rattle.std.proofs.Common.{[], ◌∷◌, ◌++◌, subst}
use Rattle.cat_names.specs.Indexed.{AreKeys}
use Rattle.cat_book.specs.Leads.{column_cmp}
use Rattle.cat_book.proofs.leads.add_name.Goals as goal

pub returns : goal.returns
returns c = λ ns h. subst (λ n. AreKeys column_cmp c.add_key.new.keys (ns ++ (c.args.row.now.attrelid, n) ∷ [])) c.in_ok-name.ensures.cases (c.in_ok-add_key.ensures.added ns h)
