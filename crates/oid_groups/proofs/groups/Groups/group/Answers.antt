use Rattle.std.proofs.Common.{ℕ, ◌-◌, List, take, drop, ap, ◌∙◌}
use Rattle.oid_groups.specs.Groups.{Key, group_of}
use Rattle.oid_groups.proofs.Placing.{ends_are, ends_in_order, group_is}
use Rattle.oid_groups.proofs.groups.Groups.group.Goals as goal

pub slice_bounds-result-count : goal.slice_bounds-result-count
slice_bounds-result-count c =
    ends_in_order _ _ _ _
    (ends_are _ _ _ _ _ c.args.oid _ _ c.self.invariant c.deref.ensures.value c.deref-2.ensures.value c.oid_start-start.ensures.within c.oid_start-start.ensures.start c.oid_end-end.ensures.within c.oid_end-end.ensures.end)

pub slice_bounds-result-start : goal.slice_bounds-result-start
slice_bounds-result-start c =
    ends_in_order _ _ _ _
    (ends_are _ _ _ _ _ c.args.oid _ _ c.self.invariant c.deref.ensures.value c.deref-2.ensures.value c.oid_start-start.ensures.within c.oid_start-start.ensures.start c.oid_end-end.ensures.within c.oid_end-end.ensures.end)

pub returns : goal.returns
returns c =
    let start : ℕ = c.oid_start-start.result in
    let end : ℕ = c.oid_end-end.result in
    ap (λ (l : List ℕ). take (end - start) (drop start l)) c.deref-3.ensures.value
    ∙ group_is _ _ _ c.args.oid _ _ c.self.invariant (ends_are _ _ _ _ _ c.args.oid _ _ c.self.invariant c.deref.ensures.value c.deref-2.ensures.value c.oid_start-start.ensures.within c.oid_start-start.ensures.start c.oid_end-end.ensures.within c.oid_end-end.ensures.end)
    ∙ ap (λ (keys : List Key). group_of keys c.args.oid) c.self.view_is
