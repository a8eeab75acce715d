-- The rights and the options so far.
use Rattle.std.proofs.Common.{◌≡◌, take}
use Rattle.cat_names.specs.Grants.{listed_rights, listed_options}
use Rattle.cat_naming.proofs.grants.item_of.Given as goal

abbrev pub invariant-loop-right : goal.invariant-loop-right
invariant-loop-right l = (l.rights ≡ listed_rights (take l.right-index l.item.rights)) × (l.options ≡ listed_options (take l.right-index l.item.rights))
