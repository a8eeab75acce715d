use Rattle.std.proofs.Common.{rules, tests}
use Rattle.std.proofs.lemmas.Iterator.{items_from_collect, YieldsList-from_map, YieldsList-from_slice}
use Rattle.std.proofs.lemmas.Iterator.Consumers.{YieldsList-at, YieldsList-from_filter}
use Rattle.cat_rows.specs.declared.relations.ClassRow.{ClassRow}
use Rattle.table_rows.specs.Tables.{is_table_row}
use Rattle.table_rows.proofs.tables.unsorted_oids.Goals as goal

pub returns : goal.returns
returns c =
    items_from_collect _ c.collect.ensures.ran
    (YieldsList-from_map _ (λ (row : ClassRow). row.oid)
    (YieldsList-at c.map.ensures.source (YieldsList-from_filter _ is_table_row (YieldsList-from_slice c.args.classes.now cc) c.filter.ensures.closure (λ x r q k. search (rules, tests))))
    c.map.ensures.closure (λ x r q k. search rules))
