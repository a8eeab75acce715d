use Rattle.std.proofs.Common.{◌≡◌, ℕ, List, subst, rules}
use Rattle.std.specs.List.Sorted.{IsStableByKey}
use Rattle.std.proofs.lemmas.List.Sorted.{answers_always}
use Rattle.oid_groups.specs.Groups.{Key}
use Rattle.oid_groups.specs.Sorted.{key_cmp}
use Rattle.oid_groups.proofs.groups.in_order.Goals as goal

pub returns : goal.returns
returns c =
    let key : ℕ × Key → Key = λ e. e.1 in
    record {
      rising = c.in_ok-sort_by_key.ensures.sorted key (answers_always _ (λ a r. r ≡ key a.0.now) _ (λ f a r f' called. search rules));
      stable = let P : List (ℕ × Key) → Type 0 = λ l. IsStableByKey key key_cmp l c.sort_by_key.new.self.items in
          subst P c.in_ok-entries.ensures (c.in_ok-sort_by_key.ensures.stable key (answers_always _ (λ a r. r ≡ key a.0.now) _ (λ f a r f' called. search rules)));
    }
