use Rattle.cat_sound.proofs.Refuted.{no_end, second_primary, no_parent_key, nobodys_index}
use Rattle.cat_sound.proofs.examples.what_is_wrong_as_a_whole_is_not_sound.Goals as goal

pub returns : goal.returns
returns c = record {
  domain = λ texts named q d is base own sound. no_end texts named sound q d is base own;
  primary = λ texts named q name other one two apart sound. second_primary texts named sound q name other one two apart;
  parent = λ texts named q parent name names k is has none sound. no_parent_key texts named sound q parent name names k is has none;
  index = λ texts named q table is no_constraint no_index sound. nobodys_index texts named sound q table is no_constraint no_index;
}
