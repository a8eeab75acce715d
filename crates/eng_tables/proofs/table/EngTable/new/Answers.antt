use Rattle.std.proofs.Common.{ℕ, List, ap}
use Rattle.std.specs.Map.{lookup}
use Rattle.cat_model.specs.declared.key.Key.{Key}
use Rattle.cat_model.specs.Keys.{key_eq}
use Rattle.eng_tables.proofs.Naming.{no_names}
use Rattle.eng_tables.proofs.table.EngTable.new.Goals as goal

pub invariant_of-result : goal.invariant_of-result
invariant_of-result g c = no_names _ c.new.result.entries (λ key. ap (λ (es : List (Key × ℕ)). lookup (key_eq key) es) c.new-2.ensures.empty) c.new.ensures.empty
