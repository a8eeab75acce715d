-- What orders and cycles of a few places look like.
use Rattle.std.specs.Prelude.{◌≡◌, true, false, List, [], ◌∷◌}
use Rattle.graph_walks.specs.Arcs.{Arc}
use Rattle.graph_walks.specs.Filling.{order_of}
use Rattle.graph_walks.specs.Reaching.{reaches, on_cycle}
use Rattle.graph_walks.specs.Telling.{told_cycle}

-- 0 needs 1, 1 needs 2 and 2 needs 0; 3 needs 0, and 0 needs 4
abbrev pub ring : List Arc
ring = (0, 1) ∷ (1, 2) ∷ (2, 0) ∷ (3, 0) ∷ (0, 4) ∷ []

-- two cycles through 1: by 2, and by 3 and 2
abbrev pub two_ways : List Arc
two_ways = (1, 3) ∷ (3, 2) ∷ (2, 1) ∷ (1, 2) ∷ (3, 0) ∷ (2, 4) ∷ (4, 2) ∷ []

-- from 0 the lower way, over 1, leads back only by 0 itself
abbrev pub dead_end : List Arc
dead_end = (0, 1) ∷ (1, 2) ∷ (2, 1) ∷ (0, 3) ∷ (3, 0) ∷ []

pub record Reached : Type 0 where
  pub itself : reaches [] 7 7 ≡ true
  pub far : reaches ring 3 4 ≡ true
  pub not_back : reaches ring 4 0 ≡ false
  pub round : on_cycle ring (0, 1) ≡ true
  pub into_a_cycle : on_cycle ring (3, 0) ≡ false
  pub out_of_a_cycle : on_cycle ring (0, 4) ≡ false

pub record Orders : Type 0 where
  pub as_they_stand : order_of 4 [] ≡ 0 ∷ 1 ∷ 2 ∷ 3 ∷ []
  pub needed_first : order_of 4 ((0, 3) ∷ (1, 2) ∷ []) ≡ 3 ∷ 0 ∷ 2 ∷ 1 ∷ []
  pub chain : order_of 3 ((0, 1) ∷ (1, 2) ∷ []) ≡ 2 ∷ 1 ∷ 0 ∷ []
  pub needed_twice : order_of 3 ((0, 2) ∷ (1, 2) ∷ (0, 2) ∷ []) ≡ 2 ∷ 0 ∷ 1 ∷ []
  pub stuck : order_of 5 ring ≡ 3 ∷ []

pub record Cycles : Type 0 where
  pub none : told_cycle 4 ((0, 3) ∷ (1, 2) ∷ []) ≡ []
  pub one : told_cycle 5 ring ≡ 0 ∷ 1 ∷ 2 ∷ 0 ∷ []
  pub lowest_next : told_cycle 5 two_ways ≡ 1 ∷ 2 ∷ 1 ∷ []
  pub no_dead_end : told_cycle 4 dead_end ≡ 0 ∷ 3 ∷ 0 ∷ []
  pub pair : told_cycle 2 ((1, 0) ∷ (0, 1) ∷ []) ≡ 0 ∷ 1 ∷ 0 ∷ []
