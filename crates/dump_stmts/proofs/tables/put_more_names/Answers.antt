use Rattle.std.proofs.Common.{◌++◌, codes, arith}
use Rattle.sql_lex.specs.Written.{written_name}
use Rattle.cat_rows.specs.declared.relations.AttributeRow.{AttributeRow}
use Rattle.dump_rows.proofs.Seen.{lists_more, lists_all}
use Rattle.dump_stmts.proofs.tables.put_more_names.Goals as goal

pub loop-column-preserved : goal.loop-column-preserved
loop-column-preserved c = lists_more (λ (a : AttributeRow). codes ", " ++ written_name a.attname) c.args.out.now.items _ _ c.args.columns.now c.loop-column.column-index c.column-item.result c.loop-column.invariant c.in_ok-put_name.ensures c.loop-column-test.true c.column-item.is

pub returns : goal.returns
returns c = lists_all (λ (a : AttributeRow). codes ", " ++ written_name a.attname) c.args.out.now.items _ c.args.columns.now c.loop-column.column-index c.loop-column.invariant (omega (arith, c.loop-column-test.false))
