use Rattle.std.specs.Int.{w32, w64}
use Rattle.toc_parts.specs.declared.fault.FieldFault.TheVariants.{Short}
use Rattle.toc_parts.proofs.FieldLaws.{byte_laws, number_laws, integer_laws, text_length_laws, span_laws, string_laws, integer_some, string_some}
use Rattle.toc_parts.specs.Fields.{string}
use Rattle.toc_parts.proofs.Repeated.{listed_laws}
use Rattle.toc_parts.proofs.laws.fields_have_their_laws.Goals as goal

pub returns : goal.returns
returns c = record {
  byte = byte_laws Short;
  four = number_laws Short w32;
  eight = number_laws Short w64;
  integer = integer_laws Short;
  length = text_length_laws;
  span = span_laws;
  string = string_laws;
  strings = listed_laws string string_laws string_some;
  integer_takes = integer_some Short;
  string_takes = string_some;
}
