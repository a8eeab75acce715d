-- An index is a relation beside its table.
use Rattle.std.proofs.Common.{◌≡◌, Option, Some, None, ap}
use Rattle.std.specs.FinMap.{get}
use Rattle.cat_model.specs.declared.object.QName.{QName}
use Rattle.cat_model.specs.declared.key.Key.TheVariants as key
use Rattle.cat_model.specs.declared.value.Value.{Value}
use Rattle.cat_model.specs.declared.value.Value.TheVariants as value
use Rattle.cat_model.specs.KeyEffects.{index_path}
use Rattle.cat_model.specs.Values.{Named}
use Rattle.cat_sound.specs.Asked.{index_on, Passes}
use Rattle.cat_sound.specs.Sound.{IsSound}
use Rattle.cat_sound.specs.Texts.{Texts}
use Rattle.named_objects.specs.Relations.{NamedIndex, IsIndex}

is_on : (v : Option Value) (q : QName) → Passes v (index_on q) → v ≡ Some (value.IndexOf q)
is_on None q is = absurd is
is_on (Some (value.IndexOf table)) q is = ap (λ (t : QName). Some (value.IndexOf t)) is
is_on (Some v) q is = absurd is

pub related : (texts : Texts) (named : Named) → IsSound texts named → (i : NamedIndex) → IsIndex named i → get named (key.Rel (index_path i.table i.name)) ≡ Some (value.IndexOf i.table)
related texts named sound i there =
    is_on (get named (key.Rel (index_path i.table i.name))) i.table (sound.each (key.Index i.table i.name) (value.Index i.index) there).others.1.0
