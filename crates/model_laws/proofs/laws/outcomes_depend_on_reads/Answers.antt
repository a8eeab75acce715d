use Rattle.model_laws.proofs.Within.{outcome-same, within-same}
use Rattle.model_laws.proofs.laws.outcomes_depend_on_reads.Goals as goal

pub returns : goal.returns
returns c = record {
  same = λ f s t tree h agree. outcome-same f s t agree tree h;
  within = λ f s t tree h agree. within-same f s t agree tree h;
}
