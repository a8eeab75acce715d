use Rattle.std.proofs.Common.{◌≡◌, Some, true, ap, ◌∙◌}
use Rattle.cat_names.specs.Lookups.{is_no_oid}
use Rattle.cat_naming.proofs.Looking.{without_row}
use Rattle.cat_naming.proofs.texts.resolved.Goals as goal

pub returns-then-oid-eq0 : goal.returns-then-oid-eq0
returns-then-oid-eq0 c =
    let none : is_no_oid c.args.oid ≡ true = ap is_no_oid c.if-oid-eq0.true in
    ap Some c.in_ok-as_it_is.ensures ∙ without_row c.args.lookups.now c.args.oid c.args.text.now c.args.name.now none c.requires
