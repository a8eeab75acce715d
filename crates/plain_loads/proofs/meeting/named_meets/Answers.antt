use Rattle.std.proofs.Common.{◌≡◌, ℕ, List, subst, ap, ◌∙◌}
use Rattle.std.specs.List.{AllByRecursion}
use Rattle.std.proofs.lemmas.Result.{IfOk-weaker}
use Rattle.cat_rows.specs.declared.catalogue.Catalogue.{Catalogue}
use Rattle.cat_model.specs.Values.{Named}
use Rattle.table_rows.specs.Tables.{column_count, table_oids}
use Rattle.table_rows.specs.Values.{text_of, values_fault}
use Rattle.table_rows.proofs.FirstFaults as values
use Rattle.cat_load.specs.Loads.{rows_fault}
use Rattle.plain_loads.specs.Meeting.{HasRows, TableMeets}
use Rattle.plain_loads.proofs.Holding.{all_hold, all_meet}
use Rattle.plain_loads.proofs.Without.{no_fault}
use Rattle.plain_loads.proofs.meeting.named_meets.Goals as goal

-- each text holds rows of its table
pub returns-clause-hold : goal.returns-clause-hold
unfolding values_fault
returns-clause-hold c =
    let cat = c.args.cat.now in
    let texts = c.args.rows.now in
    let oids : c.deref.result.now ≡ table_oids cat = c.deref.ensures.value ∙ c.in_ok-oids.ensures ∙ ap table_oids c.rows.ensures in
    IfOk-weaker c.tables_meet.result _ _ (λ meets all yes.
    values.no_fault (column_count cat) (text_of texts) (table_oids cat)
    (subst (λ (t : Catalogue × List ℕ). AllByRecursion (HasRows t.0 texts) t.1) (λ i. (c.in_ok-book.ensures i, oids i)) (all_hold c.args.named.now _ texts _ (all yes))))
    c.tables_meet.ensures

-- and they meet it
pub returns-clause-meet : goal.returns-clause-meet
unfolding rows_fault
returns-clause-meet c =
    let cat = c.args.cat.now in
    let texts = c.args.rows.now in
    let oids : c.deref.result.now ≡ table_oids cat = c.deref.ensures.value ∙ c.in_ok-oids.ensures ∙ ap table_oids c.rows.ensures in
    IfOk-weaker c.tables_meet.result _ _ (λ meets all yes other is.
    no_fault cat texts other (table_oids cat)
    (subst (λ (t : Named × Catalogue × List ℕ). AllByRecursion (TableMeets t.0 t.1 texts) t.2) (λ i. (is i, c.in_ok-book.ensures i, oids i)) (all_meet c.args.named.now _ texts _ (all yes))))
    c.tables_meet.ensures
