use Rattle.std.proofs.Common.{ap, subst, ◌∙◌}
use Rattle.std.specs.List.{AllByRecursion}
use Rattle.cat_rows.specs.declared.catalogue.Catalogue.{Catalogue}
use Rattle.cat_model.specs.Values.{Named}
use Rattle.cat_naming.specs.Entries.{catalogue_named}
use Rattle.cat_naming.specs.Texts.{rows_by_oid}
use Rattle.table_rows.specs.Tables.{column_count, table_oids}
use Rattle.table_rows.specs.Values.{text_of, values_fault}
use Rattle.table_rows.proofs.FirstFaults as values
use Rattle.cat_load.specs.Loads.{rows_fault}
use Rattle.plain_loads.specs.Meeting.{TableMeets}
use Rattle.plain_loads.proofs.Holding.{all_hold, all_meet}
use Rattle.plain_loads.proofs.Without.{no_fault}
use Rattle.plain_loads.proofs.trying.bare_map.Goals as goal

-- each text holds rows of its table
pub returns-clause-hold : goal.returns-clause-hold
unfolding values_fault
returns-clause-hold c = λ texts all.
    let cat = c.args.cat.now in
    values.no_fault (column_count cat) (text_of texts) (table_oids cat) (all_hold _ cat texts (table_oids cat) all)

-- and they meet it
pub returns-clause-meet : goal.returns-clause-meet
unfolding rows_fault
returns-clause-meet c = λ texts all.
    let cat = c.args.cat.now in
    let other = rows_by_oid c.new-none.result in
    no_fault cat texts other (table_oids cat)
    (subst (λ (n : Named). AllByRecursion (TableMeets n cat texts) (table_oids cat)) (c.in_ok-catalogue_map.ensures ∙ ap (λ (k : Catalogue). catalogue_named k other) c.rows.ensures) (all_meet _ cat texts (table_oids cat) all))
