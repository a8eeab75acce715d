use Rattle.std.proofs.Common.{◌≡◌, Bool, true, false, cond, Option, Some, None, is_some, option_and_then, refl, sym, ap, ◌∙◌}
use Rattle.ddl_part_laws.specs.Expressions.{default_text}
use Rattle.ddl_part_laws.specs.Types.{type_part}
use Rattle.ddl_part_laws.proofs.RunLaws.{default_text_laws, type_laws}
use Rattle.row_texts.specs.declared.index_text.IndexText.{IndexText}
use Rattle.row_texts.specs.Texts.{whole}
use Rattle.row_texts.specs.TypeTexts.{type_named}
use Rattle.row_texts.specs.DefaultTexts.{default_said, is_default}
use Rattle.row_texts.specs.IndexTexts.{index_text, index_said, is_bracketed, if_bracketed}
use Rattle.row_texts.specs.SequenceTypes.{sequence_type, sequence_kind}
use Rattle.row_texts.specs.ViewTexts.{view_text, view_body}
use Rattle.row_texts.proofs.PartLaws.{index_text_laws, sequence_type_laws, view_text_laws}
use Rattle.row_texts.proofs.Wholes.{whole_found, whole_only, some_value}
use Rattle.row_texts.proofs.laws.texts_are_all_of_their_tokens.Goals as goal

pub returns-clause-types : goal.returns-clause-types
unfolding type_named
returns-clause-types c = λ text t. (whole_found type_part text t type_laws, whole_only type_part text t type_laws)

pub returns-clause-defaults : goal.returns-clause-defaults
unfolding default_said
returns-clause-defaults c = λ text said. (whole_found default_text text said default_text_laws, whole_only default_text text said default_text_laws)

pub returns-clause-are_defaults : goal.returns-clause-are_defaults
unfolding default_said is_default
returns-clause-are_defaults c = λ text. (
  λ e. let some = some_value (whole default_text text) e in (some.0, whole_found default_text text some.0 default_text_laws some.1),
  λ s. ap is_some (whole_only default_text text s.0 default_text_laws s.1),
)

kept : (o : Option IndexText) (said : IndexText) → option_and_then if_bracketed o ≡ Some said → (o ≡ Some said) × (is_bracketed said.rest ≡ true)
kept None said e = absurd cc
kept (Some s) said e = by (is_bracketed s.rest) refl e
  where
    by : (b : Bool) → is_bracketed s.rest ≡ b → cond {A = Option IndexText} b (Some s) None ≡ Some said → (Some s ≡ Some said) × (is_bracketed said.rest ≡ true)
    by true is h = let same : s ≡ said = cc in (h, ap (λ (x : IndexText). is_bracketed x.rest) (sym same) ∙ is)
    by false is h = absurd cc

keeps : (said : IndexText) → is_bracketed said.rest ≡ true → if_bracketed said ≡ Some said
keeps said e = ap (λ b. cond {A = Option IndexText} b (Some said) None) e

pub returns-clause-indexes : goal.returns-clause-indexes
unfolding index_said
returns-clause-indexes c = λ text said. (
  λ e. let k = kept (whole index_text text) said e in (whole_found index_text text said index_text_laws k.0, k.1),
  λ s. ap (option_and_then if_bracketed) (whole_only index_text text said index_text_laws s.0) ∙ keeps said s.1,
)

pub returns-clause-sequences : goal.returns-clause-sequences
unfolding sequence_kind
returns-clause-sequences c = λ text kind. (whole_found sequence_type text kind sequence_type_laws, whole_only sequence_type text kind sequence_type_laws)

pub returns-clause-views : goal.returns-clause-views
unfolding view_body
returns-clause-views c = λ text body. (whole_found view_text text body view_text_laws, whole_only view_text text body view_text_laws)
