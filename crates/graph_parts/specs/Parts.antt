-- A graph: objects, and edges by which one needs another.
use Rattle.std.specs.Prelude.{◌≢◌, ℕ, ◌+◌, ◌^◌, ◌<◌, List, length, All}
use Rattle.graph_parts.specs.declared.object.Obj.{Obj}
use Rattle.graph_parts.specs.declared.graph.Edge.{Edge}

pub record Parts : Type 0 where
  pub objects : List Obj
  pub edges : List Edge

-- an edge leads from one of these many objects to another
pub record LeadsAcross (count : ℕ) (edge : Edge) : Type 0 where
  pub from : edge.from < count
  pub to : edge.to < count
  pub across : edge.from ≢ edge.to

pub record IsGraph (objects : List Obj) (edges : List Edge) : Type 0 where
  pub few : length objects + length edges < 2 ^ 32
  pub ends : All (LeadsAcross (length objects)) edges
