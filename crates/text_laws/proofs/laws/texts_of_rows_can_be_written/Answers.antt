use Rattle.text_laws.proofs.Texts.{type_can, default_can, view_can, index_can, statement_can, check_can}
use Rattle.text_laws.proofs.laws.texts_of_rows_can_be_written.Goals as goal

pub returns : goal.returns
returns c = record {
  types = λ text name e. type_can text name ((c.texts_are_all_of_their_tokens.ensures.types text name).0 e);
  defaults = λ text said e. default_can text said ((c.texts_are_all_of_their_tokens.ensures.defaults text said).0 e);
  views = λ text body e. view_can text body ((c.texts_are_all_of_their_tokens.ensures.views text body).0 e);
  indexes = λ text said e. let h = (c.texts_are_all_of_their_tokens.ensures.indexes text said).0 e in index_can text said h.0 h.1;
  constraints = statement_can c.what_was_read_can_be_written.ensures;
  checks = check_can c.what_was_read_can_be_written.ensures;
}
