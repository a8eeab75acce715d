use Rattle.relation_loops.proofs.relations.owned_row.Goals as goal

pub returns-in_ok-table_at-in-Table : goal.returns-in_ok-table_at-in-Table
returns-in_ok-table_at-in-Table c = λ named owner grants. rw c.in-Table.is (c.in_ok-table_at-in-Table.ensures named _ owner grants)

pub returns-in_ok-view_at-in-View : goal.returns-in_ok-view_at-in-View
returns-in_ok-view_at-in-View c = λ named owner grants. rw c.in-View.is (c.in_ok-view_at-in-View.ensures named owner grants)

pub returns-in_ok-sequence_at-in-Sequence : goal.returns-in_ok-sequence_at-in-Sequence
returns-in_ok-sequence_at-in-Sequence c = λ named owner grants. rw c.in-Sequence.is (c.in_ok-sequence_at-in-Sequence.ensures named _ owner grants)
