-- What a comparison of two catalogues by names comes to: they are the same, or they differ, and first at one key.
use Rattle.std.specs.Prelude.{◌≡◌, ◌≢◌}
use Rattle.std.specs.declared.cmp.Ordering.TheVariants.{Less}
use Rattle.std.specs.FinMap.{get}
use Rattle.cat_model.specs.declared.key.Key.{Key}
use Rattle.cat_model.specs.Keys.{key_cmp}
use Rattle.cat_model.specs.Values.{Named}
use Rattle.cat_same.specs.declared.compare.Verdict.{Verdict}
use Rattle.cat_same.specs.declared.compare.Verdict.TheVariants.{Same, Differs}

-- two catalogues differ at a key, and agree at each lesser one
pub record IsLeastDifference (a b : Named) (key : Key) : Type 0 where
  pub differs : get a key ≢ get b key
  pub agrees : (lesser : Key) → key_cmp lesser key ≡ Less → get a lesser ≡ get b lesser

-- the verdict on two catalogues
abbrev pub IsVerdict : Named → Named → Verdict → Type 0
IsVerdict a b Same = a ≡ b
IsVerdict a b (Differs key) = IsLeastDifference a b key
