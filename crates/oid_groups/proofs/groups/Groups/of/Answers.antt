use Rattle.std.proofs.Common.{List, map, ap, subst, ◌∙◌, ℕ}
use Rattle.oid_groups.specs.Groups.{Key}
use Rattle.oid_groups.specs.Sorted.{IsInOrder}
use Rattle.oid_groups.proofs.groups.Groups.of.Goals as goal

pub invariant_of-result : goal.invariant_of-result
invariant_of-result c = record {
  entries = c.in_ok-entries.entries.items;
  in_order = subst (λ (l : List Key). IsInOrder l c.in_ok-entries.entries.items) c.deref.ensures.value c.in_ok-entries.ensures;
  keys_of = c.in_ok-sorted.ensures ∙ ap (map (λ (e : ℕ × Key). e.1)) c.deref-2.ensures.value;
  places_of = c.in_ok-places.ensures ∙ ap (map (λ (e : ℕ × Key). e.0)) c.deref-3.ensures.value;
}
