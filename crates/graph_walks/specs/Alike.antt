-- Lists of arcs of which nothing that is said of places differs.
use Rattle.std.specs.Prelude.{◌≡◌, ℕ, List}
use Rattle.graph_walks.specs.Arcs.{Arc, needs}
use Rattle.graph_walks.specs.Filling.{order_of}
use Rattle.graph_walks.specs.Reaching.{reaches}
use Rattle.graph_walks.specs.Telling.{told_cycle}

pub record AreAlike (count : ℕ) (arcs others : List Arc) : Type 0 where
  pub needed : (a b : ℕ) → needs arcs a b ≡ needs others a b
  pub reached : (a b : ℕ) → reaches arcs a b ≡ reaches others a b
  pub order : order_of count arcs ≡ order_of count others
  pub told : told_cycle count arcs ≡ told_cycle count others
