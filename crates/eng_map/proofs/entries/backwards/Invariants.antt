-- The entries that are left, in front of the changes so far, are all entries.
use Rattle.std.proofs.Common.{◌≡◌, vec_len}
use Rattle.std.specs.FinMap.{empty, from_entries}
use Rattle.cat_model.specs.Keys.{key_cmp}
use Rattle.cat_model.specs.Trees.{changed}
use Rattle.eng_map.proofs.Backwards.{onto}
use Rattle.eng_map.proofs.entries.backwards.Given as goal

abbrev pub invariant-entries : goal.invariant-entries
invariant-entries l = onto l.entries.items (changed l.changes.items empty) ≡ from_entries {R = key_cmp} l.fn.entries.items

abbrev pub decreases-entries : goal.decreases-entries
decreases-entries l = vec_len l.entries
