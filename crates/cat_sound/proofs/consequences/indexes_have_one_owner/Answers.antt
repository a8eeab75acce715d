use Rattle.cat_sound.proofs.Owners.{one_key, one_index, not_both, table_of}
use Rattle.cat_sound.proofs.consequences.indexes_have_one_owner.Goals as goal

pub returns : goal.returns
returns c = record {
  keys = λ texts named t u a b k l sound is keyed other other_keyed same. one_key texts named sound t u a b k l is keyed other other_keyed same;
  indexes = λ texts named t u a b i j sound is other same. one_index texts named sound t u a b i j is other same;
  apart = λ texts named t u a b i k sound is other keyed same. not_both texts named sound t u a b i k is other keyed same;
  table = λ texts named q table sound is. table_of texts named sound q table is;
}
