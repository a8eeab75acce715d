-- A folder that a restore has written, read again.
use Rattle.std.proofs.Common.{◌≡◌, Bool, true, false, Option, Some, None, option_map, refl, sym, ap, ◌∙◌}
use Rattle.dump_ports.specs.Tree.{Tree}
use Rattle.restore_folders.specs.Written.{is_written, LeavesEnding, tree_after}
use Rattle.saved_folders.specs.Exports.{WithTexts}
use Rattle.saved_folders.specs.Folders.{folder_saved}
use Rattle.restore_tools.specs.Due.{Restoring, ending}
use Rattle.restore_tools.specs.Standing.{Restored, ReadsBack}

with_texts : (plan : Restoring) (before after : Option Tree) (tree : Tree) (texts : Option WithTexts) → LeavesEnding plan.work.opening.cat plan.how (ending plan) texts → after ≡ option_map (tree_after plan.folder texts) before → before ≡ Some tree
    → is_written plan.how (ending plan).stopped ≡ true → ReadsBack plan after
with_texts plan before after tree None leaves saved known written = let never : false ≡ true = sym leaves ∙ written in cc
with_texts plan before after tree (Some made) leaves saved known written = record {
  tree = folder_saved plan.folder made.texts tree;
  is = saved ∙ ap (option_map (tree_after plan.folder (Some made))) known;
  export = made.export;
  reads = leaves.1.reads plan.folder tree;
  same = leaves.1.same;
}

pub reads_back : (plan : Restoring) (before after : Option Tree) (tree : Tree) → Restored plan before after → before ≡ Some tree → is_written plan.how (ending plan).stopped ≡ true → ReadsBack plan after
reads_back plan before after tree r known written = with_texts plan before after tree r.texts r.leaves r.saved known written

kept : (plan : Restoring) (before : Option Tree) → option_map (tree_after plan.folder None) before ≡ before
kept plan None = refl
kept plan (Some tree) = refl

without_texts : (plan : Restoring) (before after : Option Tree) (texts : Option WithTexts) → LeavesEnding plan.work.opening.cat plan.how (ending plan) texts → after ≡ option_map (tree_after plan.folder texts) before
    → is_written plan.how (ending plan).stopped ≡ false → after ≡ before
without_texts plan before after None leaves saved written = saved ∙ kept plan before
without_texts plan before after (Some made) leaves saved written = let never : false ≡ true = sym written ∙ leaves.0 in cc

pub undone : (plan : Restoring) (before after : Option Tree) → Restored plan before after → is_written plan.how (ending plan).stopped ≡ false → after ≡ before
undone plan before after r written = without_texts plan before after r.texts r.leaves r.saved written
