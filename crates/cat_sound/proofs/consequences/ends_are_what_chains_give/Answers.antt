use Rattle.cat_sound.proofs.Followed.{domain_followed, columns_followed}
use Rattle.cat_sound.proofs.consequences.ends_are_what_chains_give.Goals as goal

pub returns : goal.returns
returns c = record {
  domains = λ texts named q d sound is. domain_followed texts named sound q d is;
  columns = λ texts named q columns sound is. columns_followed texts named sound q columns is;
}
