use Rattle.toc_parts.specs.declared.fault.FieldFault.TheVariants.{Short}
use Rattle.toc_parts.proofs.FieldFits.{number_fits, number_of_eight_fits, integer_fits, string_fits}
use Rattle.toc_parts.proofs.laws.fields_fit.Goals as goal

pub returns : goal.returns
returns c = record {
  four = number_fits Short;
  eight = number_of_eight_fits Short;
  integer = integer_fits Short;
  string = string_fits;
}
