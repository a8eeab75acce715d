-- The entries of a class, picked among some keys: each key is looked up, and left out where it isn't there or its value
-- isn't of the class.
use Rattle.std.specs.Prelude.{List, [], ◌∷◌, Option, Some, None, if◌then◌else◌}
use Rattle.std.specs.FinMap.{get}
use Rattle.cat_model.specs.declared.class.Class.{Class}
use Rattle.cat_model.specs.declared.key.Key.{Key}
use Rattle.cat_model.specs.declared.value.Value.{Value}
use Rattle.cat_model.specs.Trees.{there_and_of}
use Rattle.cat_model.specs.Values.{Named}

abbrev pub with_pick : Key → Option Value → List (Key × Value) → List (Key × Value)
with_pick k (Some v) more = (k, v) ∷ more
with_pick k None more = more

-- the value of a key, where it is there and of the class
abbrev pub pick : Named → Class → Key → Option Value
pick named class k = if there_and_of class k (get named k) then get named k else None

abbrev pub picked : Named → Class → List Key → List (Key × Value)
picked named class [] = []
picked named class (k ∷ ks) = with_pick k (pick named class k) (picked named class ks)
