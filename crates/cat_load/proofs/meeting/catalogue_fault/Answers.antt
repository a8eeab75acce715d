use Rattle.std.proofs.Common.{◌≡◌, ap, ◌∙◌}
use Rattle.std.proofs.lemmas.Result.{IfOk-weaker}
use Rattle.table_rows.specs.Tables.{table_oids}
use Rattle.cat_load.specs.Loads.{first_fault, rows_fault}
use Rattle.cat_load.proofs.meeting.catalogue_fault.Goals as goal

pub returns-clause-fault : goal.returns-clause-fault
unfolding rows_fault
returns-clause-fault c =
    let tables : c.deref.result.now ≡ table_oids c.args.cat.now = c.deref.ensures.value ∙ c.in_ok-tables.ensures ∙ ap table_oids c.rows.ensures in
    IfOk-weaker c.first_fault.result _ _
    (λ fault e. e ∙ (λ i. first_fault (c.requires i) (c.in_ok-book.ensures i) c.args.rows.now (tables i)))
    c.first_fault.ensures.fault
