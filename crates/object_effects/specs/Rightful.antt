-- What a statement changes of the grants that a holder has.
use Rattle.std.specs.Prelude.{Bool}
use Rattle.cat_model.specs.declared.holder.Holder.{Holder}
use Rattle.cat_model.specs.Values.{Grants}
use Rattle.cat_model.specs.Grants.{granted, revoked}
use Rattle.object_effects.specs.declared.objects.GrantChange.{GrantChange}
use Rattle.object_effects.specs.declared.objects.GrantChange.TheVariants.{Grant, Revoke}

abbrev pub changing : GrantChange → Holder → Grants → Grants
changing (Grant rights option) = granted rights option
changing (Revoke rights) = revoked rights
