-- What is written of a restore that is written, and of one that isn't.
use Rattle.std.proofs.Common.{◌≡◌, Option, Some, None, refl}
use Rattle.std.specs.Option.{option_map}
use Rattle.dump_ports.specs.Tree.{Tree}
use Rattle.cat_model.specs.Values.{Bytes}
use Rattle.restore_folders.specs.Written.{tree_after}

-- nothing is written, where no texts are
pub none_written : (folder : Bytes) (tree : Option Tree) → tree ≡ option_map (tree_after folder None) tree
none_written folder None = refl
none_written folder (Some tree) = refl
