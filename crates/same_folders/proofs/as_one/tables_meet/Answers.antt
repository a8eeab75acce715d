use Rattle.std.proofs.Common.{◌≡◌, ℕ, List, ap, ◌∙◌}
use Rattle.table_rows.specs.Tables.{table_oids}
use Rattle.same_folders.proofs.as_one.tables_meet.Goals as goal

pub returns-clause-same : goal.returns-clause-same
returns-clause-same g c =
    let oids : c.deref.result.now ≡ table_oids c.args.cat.now = c.deref.ensures.value ∙ c.in_ok-tables.ensures ∙ ap table_oids c.rows.ensures in
    rw oids at c.parts_meet.ensures.same

pub returns-clause-takes : goal.returns-clause-takes
returns-clause-takes g c =
    let oids : c.deref.result.now ≡ table_oids c.args.cat.now = c.deref.ensures.value ∙ c.in_ok-tables.ensures ∙ ap table_oids c.rows.ensures in
    rw oids at c.parts_meet.ensures.takes
