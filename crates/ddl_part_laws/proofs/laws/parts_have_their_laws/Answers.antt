use Rattle.ddl_part_laws.proofs.{Leads.name_laws, Leads.literal_laws, Leads.qualified_laws, RunLaws.expression_laws, RunLaws.default_text_laws, RunLaws.default_and_null_laws, RunLaws.type_laws, Listing.names_laws}
use Rattle.ddl_part_laws.proofs.laws.parts_have_their_laws.Goals as goal

pub returns : goal.returns
returns c = record {
  name = name_laws;
  literal = literal_laws;
  qualified = qualified_laws;
  expression = expression_laws;
  default_text = default_text_laws;
  default_and_null = default_and_null_laws;
  type_part = type_laws;
  names = names_laws;
}
