use Rattle.std.proofs.Common.{◌≡◌, ◌<◌, ◌≤◌, length, get_or}
use Rattle.graph_walks.specs.Starts.{Net}
use Rattle.graph_walks.specs.Searching.{IsLooking, standing}
use Rattle.graph_walks.proofs.components.Search.join.Given as goal

abbrev pub invariant-loop-group : goal.invariant-loop-group
invariant-loop-group l = record {
  looks : (net : Net) → IsLooking net (get_or l.fn.self.path.items l.at 0) (standing l.fn.self) → IsLooking net (get_or l.self.path.items l.at 0) (standing l.self);
  fewer : length l.self.groups.items ≤ length l.fn.self.groups.items;
  same : l.self ≡ record l.fn.self { groups = l.self.groups };
  within : l.at < length l.self.path.items;
}

abbrev pub decreases-loop-group : goal.decreases-loop-group
decreases-loop-group l = length l.self.groups.items
