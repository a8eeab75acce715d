use Rattle.std.proofs.Common.{true, false, refl}
use Rattle.std.proofs.lemmas.Bool.{and_parts}
use Rattle.copy_text.proofs.TextLemmas.{name_from_test}
use Rattle.cat_model.specs.declared.stmt.Stmt.TheVariants as stmt
use Rattle.ddl_laws.specs.Expressions.{nested}
use Rattle.ddl_laws.proofs.LeafLaws.{deferral_laws, reactions_laws}
use Rattle.ddl_laws.proofs.Spelled.{by_syntax}
use Rattle.sound_texts.proofs.Tested.{run_from, run_to, bracket_from, path_from, type_from, type_to, columns_from, rest_from}
use Rattle.sound_texts.proofs.Writable.{writable_fit}
use Rattle.sound_texts.proofs.laws.texts_are_good_that_can_be_written.Goals as goal

pub returns-clause-types : goal.returns-clause-types
returns-clause-types c = λ t. (type_from t, type_to t)

pub returns-clause-defaults : goal.returns-clause-defaults
returns-clause-defaults c = λ v. (run_from (nested true false) v, run_to (nested true false) v)

pub returns-clause-bodies : goal.returns-clause-bodies
returns-clause-bodies c = λ v. (run_from (nested false false) v, run_to (nested false false) v)

pub returns-clause-checks : goal.returns-clause-checks
returns-clause-checks c = λ v. (run_from (nested false false) v, run_to (nested false false) v)

pub returns-clause-primaries : goal.returns-clause-primaries
unfolding by_syntax
returns-clause-primaries c = λ q name rest columns path is. (
  λ e. let a = and_parts _ _ e in ((path, ((is, ((columns_from columns a.0, rest_from deferral_laws rest a.1), refl)), refl)), refl),
  writable_fit (stmt.AddPrimary q name columns rest),
)

pub returns-clause-uniques : goal.returns-clause-uniques
unfolding by_syntax
returns-clause-uniques c = λ q name rest columns path is. (
  λ e. let a = and_parts _ _ e in ((path, ((is, ((columns_from columns a.0, rest_from deferral_laws rest a.1), refl)), refl)), refl),
  writable_fit (stmt.AddUnique q name columns rest),
)

pub returns-clause-foreign_keys : goal.returns-clause-foreign_keys
unfolding by_syntax
returns-clause-foreign_keys c = λ q parent name rest columns parents path is. (
  λ e. let a = and_parts _ _ e in let b = and_parts _ _ a.1 in let d = and_parts _ _ b.0 in ((path, ((is, ((columns_from columns a.0, (path_from parent d.0, (columns_from parents d.1, rest_from reactions_laws rest b.1))), refl)), refl)), refl),
  writable_fit (stmt.AddForeign q name columns parent parents rest),
)

pub returns-clause-indexes : goal.returns-clause-indexes
unfolding by_syntax
returns-clause-indexes c = λ q name method rest unique. (
  λ e. let a = and_parts _ _ e in let b = and_parts _ _ a.1 in let d = and_parts _ _ b.1 in (((name_from_test name b.0, (path_from q a.0, (name_from_test method d.0, bracket_from rest d.1))), refl), refl),
  writable_fit (stmt.CreateIndex q name method rest),
)
