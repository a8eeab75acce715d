use Rattle.std.proofs.lemmas.Result.{err_from_is_err_and}
use Rattle.saved_folders.proofs.Made.{refuses_due, is_kept, reads_as, are_texts, due_of, has_no_texts}
use Rattle.saved_folders.proofs.export.make_texts.Goals as goal

pub returns-in_err-export-clause-due : goal.returns-in_err-export-clause-due
returns-in_err-export-clause-due c = λ texts are folder tree.
    let p = err_from_is_err_and c.from_residual-in_err-export.result c.from_residual-in_err-export.ensures.1 in
    rw (p.1, p.2)
    (refuses_due c.written_folders_read_alike.ensures c.args.cat.now c.args.rows.now c.in_ok-oids.oids.items c.in_ok-tables.tables.items
    (record { oids_are = c.in_ok-oids.ensures; tables_are = c.in_ok-tables.ensures.tables; written = c.in_ok-tables.ensures.written })
    _ (rw (c.deref.ensures.value, c.deref-2.ensures.value) at c.in_err-export.ensures.due) texts are folder tree)

pub invariant_of-result : goal.invariant_of-result
invariant_of-result c =
    reads_as c.written_folders_read_alike.ensures c.written_folders_keep_their_rows.ensures c.args.cat.now c.args.rows.now c.in_ok-oids.oids.items c.in_ok-tables.tables.items
    (record { oids_are = c.in_ok-oids.ensures; tables_are = c.in_ok-tables.ensures.tables; written = c.in_ok-tables.ensures.written })
    c.in_ok-export.export (rw (c.deref.ensures.value, c.deref-2.ensures.value) at c.in_ok-export.ensures.due)

pub returns-clause-texts : goal.returns-clause-texts
returns-clause-texts c =
    are_texts c.written_folders_read_alike.ensures c.written_folders_keep_their_rows.ensures c.args.cat.now c.args.rows.now c.in_ok-oids.oids.items c.in_ok-tables.tables.items
    (record { oids_are = c.in_ok-oids.ensures; tables_are = c.in_ok-tables.ensures.tables; written = c.in_ok-tables.ensures.written })
    c.in_ok-export.export (rw (c.deref.ensures.value, c.deref-2.ensures.value) at c.in_ok-export.ensures.due)

pub returns-clause-reads : goal.returns-clause-reads
returns-clause-reads c =
    reads_as c.written_folders_read_alike.ensures c.written_folders_keep_their_rows.ensures c.args.cat.now c.args.rows.now c.in_ok-oids.oids.items c.in_ok-tables.tables.items
    (record { oids_are = c.in_ok-oids.ensures; tables_are = c.in_ok-tables.ensures.tables; written = c.in_ok-tables.ensures.written })
    c.in_ok-export.export (rw (c.deref.ensures.value, c.deref-2.ensures.value) at c.in_ok-export.ensures.due)

pub returns-clause-kept : goal.returns-clause-kept
returns-clause-kept c =
    is_kept c.written_folders_read_alike.ensures c.written_folders_keep_their_rows.ensures c.args.cat.now c.args.rows.now c.in_ok-oids.oids.items c.in_ok-tables.tables.items
    (record { oids_are = c.in_ok-oids.ensures; tables_are = c.in_ok-tables.ensures.tables; written = c.in_ok-tables.ensures.written })
    c.in_ok-export.export (rw (c.deref.ensures.value, c.deref-2.ensures.value) at c.in_ok-export.ensures.due)

pub returns-clause-due : goal.returns-clause-due
returns-clause-due c = λ texts are folder tree.
    due_of c.written_folders_read_alike.ensures c.args.cat.now c.args.rows.now c.in_ok-oids.oids.items c.in_ok-tables.tables.items
    (record { oids_are = c.in_ok-oids.ensures; tables_are = c.in_ok-tables.ensures.tables; written = c.in_ok-tables.ensures.written })
    c.in_ok-export.export (rw (c.deref.ensures.value, c.deref-2.ensures.value) at c.in_ok-export.ensures.due) texts are folder tree

pub returns-in_err-export-clause-unread : goal.returns-in_err-export-clause-unread
returns-in_err-export-clause-unread c =
    let p = err_from_is_err_and c.from_residual-in_err-export.result c.from_residual-in_err-export.ensures.1 in
    rw (p.1, p.2)
    (has_no_texts c.written_folders_read_alike.ensures c.args.cat.now c.args.rows.now c.in_ok-oids.oids.items c.in_ok-tables.tables.items
    (record { oids_are = c.in_ok-oids.ensures; tables_are = c.in_ok-tables.ensures.tables; written = c.in_ok-tables.ensures.written })
    _ (rw (c.deref.ensures.value, c.deref-2.ensures.value) at c.in_err-export.ensures.due) c.in_err-export.ensures.call_free)
