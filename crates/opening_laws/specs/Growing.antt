-- What a script leaves of what was there.
use Rattle.std.specs.Prelude.{◌≡◌, false, Some}
use Rattle.std.specs.FinMap.{get}
use Rattle.cat_model.specs.declared.object.QName.{QName}
use Rattle.cat_model.specs.declared.key.Key.{Key}
use Rattle.cat_model.specs.declared.key.Key.TheVariants as key
use Rattle.cat_model.specs.declared.value.Value.{Value}
use Rattle.cat_model.specs.Values.{Named}
use Rattle.cat_sound.specs.Asked.{Asked}
use Rattle.cat_sound.specs.Sound.{is_comment, IsMet}

-- whatever was there is there, but for comments; and relations are what they were
pub record Grows (before after : Named) : Type 0 where
  pub there : (k : Key) → is_comment k ≡ false → IsMet before (k, Asked.there) → IsMet after (k, Asked.there)
  pub relations : (q : QName) (v : Value) → get before (key.Rel q) ≡ Some v → get after (key.Rel q) ≡ Some v
