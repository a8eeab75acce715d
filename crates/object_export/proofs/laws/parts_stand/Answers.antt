use Rattle.object_export.proofs.Notes.{comments_stand}
use Rattle.object_export.proofs.Related.{related}
use Rattle.object_export.proofs.Standing.{labels_stand, columns_stand, defaults_stand, constraints_stand, indexes_stand, sequences_stand, bodies_stand}
use Rattle.object_export.proofs.laws.parts_stand.Goals as goal

pub returns-clause-labels : goal.returns-clause-labels
returns-clause-labels c = λ named oids rows own said. labels_stand named oids own rows said

pub returns-clause-columns : goal.returns-clause-columns
returns-clause-columns c = λ named oids rows own numbers said. columns_stand named oids own numbers rows said

pub returns-clause-defaults : goal.returns-clause-defaults
returns-clause-defaults c = λ named oids rows own said. defaults_stand named oids own rows said

pub returns-clause-constraints : goal.returns-clause-constraints
returns-clause-constraints c = λ named oids rows own checks said. constraints_stand named oids own checks rows said

pub returns-clause-indexes : goal.returns-clause-indexes
returns-clause-indexes c = λ texts named oids rows sound own said. indexes_stand named oids.of own (related texts named sound) rows said

pub returns-clause-sequences : goal.returns-clause-sequences
returns-clause-sequences c = λ named oids rows own said. sequences_stand named oids own rows said

pub returns-clause-bodies : goal.returns-clause-bodies
returns-clause-bodies c = λ named oids rows own said. bodies_stand named oids.of own rows said

pub returns-clause-comments : goal.returns-clause-comments
returns-clause-comments c = λ texts named oids rows sound own numbers said. comments_stand texts named sound oids own numbers rows said
