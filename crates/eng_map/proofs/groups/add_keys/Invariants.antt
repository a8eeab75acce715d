-- What was listed still is, and the keys of the changes so far have their places.
use Rattle.std.proofs.Common.{◌≡◌, true, take}
use Rattle.std.specs.List.{AllByRecursion}
use Rattle.cat_model.specs.declared.key.Key.{Key}
use Rattle.cat_model.specs.Trees.{Change}
use Rattle.eng_map.specs.Groups.{is_listed, HasPlace}
use Rattle.eng_map.proofs.groups.add_keys.Given as goal

abbrev pub invariant-loop-change : goal.invariant-loop-change
invariant-loop-change l = record {
  kept : (g k : Key) → is_listed l.initial.groups g k ≡ true → is_listed l.groups g k ≡ true;
  placed : AllByRecursion (λ (c : Change). HasPlace l.groups c.0) (take l.change-index l.changes);
}
