-- A skipped entry has a first dependency that was refused or leads on; an entry that leads to a refused one has a
-- dependency that was refused or, by the same, skipped.
use Rattle.std.proofs.Common.{[]}
use Rattle.restore_plan.specs.Order.{foreign_keys, plan}
use Rattle.restore_plan.proofs.Skipping.{each-entry, skips-only, skips-all}
use Rattle.restore_plan.proofs.laws.chains_skip.Goals as goal

pub returns : goal.returns
returns c = record {
  each = λ boot opening es. each-entry boot (plan opening es) [] opening;
  only = λ boot opening es p status one h. skips-only boot opening (plan opening es) p status one h;
  all = λ boot opening es p status distinct one lead. skips-all boot opening es (foreign_keys opening) p status distinct one lead;
}
