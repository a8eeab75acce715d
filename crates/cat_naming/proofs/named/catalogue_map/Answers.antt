use Rattle.std.proofs.Common.{subst, ◌≡◌}
use Rattle.std.specs.Prelude.{IfOk}
use Rattle.cat_rows.specs.declared.catalogue.Catalogue.{Catalogue}
use Rattle.cat_naming.specs.Entries.{catalogue_named}
use Rattle.cat_naming.specs.Texts.{rows_by_oid}
use Rattle.cat_naming.proofs.named.catalogue_map.Goals as goal

pub returns : goal.returns
returns c = subst (λ (cat : Catalogue). IfOk c.map_of.result (λ map. map ≡ catalogue_named cat (rows_by_oid c.args.rows.now))) c.in_ok-lookups.ensures c.map_of.ensures
