use Rattle.std.proofs.Common.{refl}
use Rattle.ddl_grammar.proofs.Spelled.{spelled_out}
use Rattle.dep_sort.specs.FirstOrder.{placed, in_order}
use Rattle.dump_grants.specs.Stmts.{grant_stmts}
use Rattle.dump_grants.proofs.laws.grants_meet_the_examples.Goals as goal

pub returns : goal.returns
unfolding spelled_out placed in_order grant_stmts
returns c = record { spelled_out = refl; one_role = refl; no_owner = refl; type_default = refl; type_of_owner = refl }
