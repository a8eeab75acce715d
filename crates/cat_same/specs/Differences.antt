-- Where two catalogues by names differ first.
use Rattle.std.specs.Prelude.{◌≡◌, ◌≢◌, ◌⊎◌, Option, Some, None, IsSome, if◌then◌else◌}
use Rattle.std.specs.declared.cmp.Ordering.TheVariants.{Less}
use Rattle.std.specs.FinMap.{get}
use Rattle.std.specs.Ordering.{is_lt}
use Rattle.cat_model.specs.declared.key.Key.{Key}
use Rattle.cat_model.specs.Keys.{key_cmp}
use Rattle.cat_model.specs.declared.value.Value.{Value}
use Rattle.cat_model.specs.Values.{Named}

-- wherever the first has a value, up to a key, the second has the same
abbrev pub AgreeBelow : Named → Named → Key → Type 0
AgreeBelow of other key = (lesser : Key) → key_cmp lesser key ≡ Less → IsSome (get of lesser) → get of lesser ≡ get other lesser

-- the least key of the first at which the second has another value or none, if there is one
abbrev pub IsFirstDifference : Named → Named → Option Key → Type 0
IsFirstDifference of other None = (key : Key) → IsSome (get of key) → get of key ≡ get other key
IsFirstDifference of other (Some key) = (get of key ≢ get other key) × AgreeBelow of other key

-- the lesser of two keys, or the one that there is
abbrev pub lesser_of : Option Key → Option Key → Option Key
lesser_of (Some a) (Some b) = Some (if is_lt (key_cmp b a) then b else a)
lesser_of (Some a) None = Some a
lesser_of None b = b

-- the least difference so far, with one entry more of the first map
abbrev pub IsWithEntry : Named → Key × Value → Option Key → Option Key → Type 0
IsWithEntry other entry least result =
    ((get other entry.0 ≡ Some entry.1) × (result ≡ least))
    ⊎ ((get other entry.0 ≢ Some entry.1) × (result ≡ lesser_of least (Some entry.0)))
