-- What orders and loops of small dumps look like.
use Rattle.std.specs.Prelude.{◌≡◌, ℕ, pos, codes, true, false, List, [], ◌∷◌, ◌++◌, map, Some, None, Ok, Err}
use Rattle.std.specs.Result.{result_map_both}
use Rattle.graph_parts.specs.declared.object.Obj.{Obj}
use Rattle.graph_parts.specs.declared.object.ObjId.{ObjId}
use Rattle.graph_parts.specs.declared.object.ObjKind.{ObjKind}
use Rattle.graph_parts.specs.declared.object.ObjKind.TheVariants.{Schema, UserType, Table, View, Dummy, Sequence, Default, PreData, TableData, SeqValue, PostData, Constraint, Rule, Foreign}
use Rattle.graph_parts.specs.declared.graph.Edge.{Edge}
use Rattle.graph_parts.specs.Parts.{Parts}
use Rattle.dep_sort.specs.Cut.{cut}
use Rattle.dep_sort.specs.Ordering.{Sorted, due, sorted}

abbrev pub id : ℕ → ℕ → ObjId
id class oid = record { class = class; oid = oid }

-- an object of the schema public
abbrev pub object : ObjKind → ℕ → ℕ → List ℕ → Obj
object kind class oid name = record { id = id class oid; kind = kind; schema = Some (codes "public"); name = Some name; attnum = pos 0 }

abbrev pub public_schema : Obj
public_schema = record { id = id 2615 2200; kind = Schema; schema = None; name = Some (codes "public"); attnum = pos 0 }

abbrev pub before_data : Obj
before_data = record { id = id 1 0; kind = PreData; schema = None; name = None; attnum = pos 0 }

abbrev pub behind_data : Obj
behind_data = record { id = id 2 0; kind = PostData; schema = None; name = None; attnum = pos 0 }

abbrev pub edge : ℕ → ℕ → Edge
edge from to = record { from = from; to = to; moves_to = None; stays = false }

abbrev pub moving : ℕ → ℕ → Obj → Edge
moving from to taker = record { from = from; to = to; moves_to = Some taker; stays = false }

-- a view needs a type of its columns by itself, and so does its rule
abbrev pub shared : ℕ → ℕ → Obj → Edge
shared from to taker = record { from = from; to = to; moves_to = Some taker; stays = true }

-- from one place to each of others
abbrev pub from_to : ℕ → List ℕ → List Edge
from_to from [] = []
from_to from (to ∷ tos) = edge from to ∷ from_to from tos

abbrev pub ids_of : Sorted → List ObjId
ids_of order = map (λ object. object.id) order.objects

-- two tables and a foreign key from a to b's primary key
abbrev pub two_tables : Parts
two_tables = record {
  objects = object Foreign 2606 16387 (codes "a_fk") ∷ object TableData 0 16385 (codes "b") ∷ behind_data ∷ object Table 1259 16385 (codes "b")
      ∷ object Constraint 2606 16386 (codes "b_pkey") ∷ object Table 1259 16384 (codes "a") ∷ before_data ∷ object TableData 0 16384 (codes "a") ∷ public_schema ∷ [];
  edges = from_to 5 (8 ∷ []) ++ from_to 3 (8 ∷ []) ++ from_to 7 (5 ∷ 6 ∷ []) ++ from_to 1 (3 ∷ 6 ∷ []) ++ from_to 6 (8 ∷ 5 ∷ 3 ∷ [])
      ++ from_to 2 (6 ∷ 7 ∷ 1 ∷ []) ++ from_to 4 (3 ∷ 2 ∷ []) ++ from_to 0 (5 ∷ 3 ∷ 4 ∷ 2 ∷ []);
}

abbrev pub id_default : Obj
id_default = record { id = id 2604 16386; kind = Default; schema = Some (codes "public"); name = Some (codes "t"); attnum = pos 1 }

-- a table whose column takes its values from a sequence that belongs to it
abbrev pub serial_column : Parts
serial_column = record {
  objects = public_schema ∷ object Table 1259 16385 (codes "t") ∷ object Sequence 1259 16384 (codes "t_id_seq") ∷ before_data
      ∷ object TableData 0 16385 (codes "t") ∷ object SeqValue 0 16384 (codes "t_id_seq") ∷ behind_data ∷ [];
  edges = from_to 1 (0 ∷ []) ++ moving 1 2 id_default ∷ from_to 2 (0 ∷ 1 ∷ []) ++ from_to 3 (0 ∷ 1 ∷ 2 ∷ []) ++ from_to 4 (1 ∷ 3 ∷ []) ++ from_to 5 (2 ∷ 3 ∷ []) ++ from_to 6 (3 ∷ 4 ∷ 5 ∷ []);
}

abbrev pub rule : ℕ → List ℕ → Obj
rule oid name = object Rule 2618 oid name

-- two views that read each other
abbrev pub two_views : Parts
two_views = record {
  objects = public_schema ∷ object View 1259 16384 (codes "v") ∷ object View 1259 16385 (codes "w") ∷ before_data ∷ behind_data ∷ [];
  edges = edge 1 0 ∷ moving 1 2 (rule 16386 (codes "v")) ∷ edge 2 0 ∷ moving 2 1 (rule 16387 (codes "w")) ∷ from_to 3 (0 ∷ 1 ∷ 2 ∷ []) ++ from_to 4 (3 ∷ []);
}

-- a view that needs its table's primary key
abbrev pub grouped_view : Parts
grouped_view = record {
  objects = public_schema ∷ object Table 1259 16384 (codes "t") ∷ object View 1259 16386 (codes "g") ∷ before_data ∷ object TableData 0 16384 (codes "t")
      ∷ behind_data ∷ object Constraint 2606 16385 (codes "t_pkey") ∷ [];
  edges = edge 1 0 ∷ edge 2 0 ∷ moving 2 1 (rule 16387 (codes "g")) ∷ moving 2 6 (rule 16387 (codes "g")) ∷ from_to 3 (0 ∷ 1 ∷ 2 ∷ []) ++ from_to 4 (1 ∷ 3 ∷ [])
      ++ from_to 5 (3 ∷ 4 ∷ []) ++ from_to 6 (1 ∷ 5 ∷ []);
}

-- two types that need each other
abbrev pub two_types : Parts
two_types = record {
  objects = public_schema ∷ object UserType 1247 16385 (codes "y") ∷ object UserType 1247 16384 (codes "x") ∷ before_data ∷ behind_data ∷ [];
  edges = edge 1 0 ∷ edge 2 0 ∷ edge 1 2 ∷ edge 2 1 ∷ from_to 3 (0 ∷ 1 ∷ 2 ∷ []) ++ from_to 4 (3 ∷ []);
}

-- a view reads another, which no edge leads back from: nothing breaks
abbrev pub one_reader : Parts
one_reader = record {
  objects = object View 1259 16384 (codes "a") ∷ object View 1259 16385 (codes "b") ∷ [];
  edges = moving 0 1 (rule 16386 (codes "a")) ∷ [];
}

-- two views that read each other; a type of v's columns is named in its body too
abbrev pub shared_type : Parts
shared_type = record {
  objects = object UserType 1247 16383 (codes "e") ∷ object View 1259 16384 (codes "v") ∷ object View 1259 16385 (codes "w") ∷ behind_data ∷ [];
  edges = shared 1 0 (rule 16386 (codes "v")) ∷ moving 1 2 (rule 16386 (codes "v")) ∷ edge 2 1 ∷ [];
}

pub record Orders : Type 0 where
  pub two_tables_is : result_map_both ids_of (λ path. path) (due two_tables) ≡ Ok (id 2615 2200 ∷ id 1259 16384 ∷ id 1259 16385 ∷ id 1 0 ∷ id 0 16384 ∷ id 0 16385 ∷ id 2 0 ∷ id 2606 16386 ∷ id 2606 16387 ∷ [])
  pub serial_column_is : result_map_both ids_of (λ path. path) (due serial_column) ≡ Ok (id 2615 2200 ∷ id 1259 16385 ∷ id 1259 16384 ∷ id 2604 16386 ∷ id 1 0 ∷ id 0 16385 ∷ id 0 16384 ∷ id 2 0 ∷ [])
  pub two_views_is : result_map_both ids_of (λ path. path) (due two_views) ≡ Ok (id 2615 2200 ∷ id 1259 16384 ∷ id 1259 16385 ∷ id 1 0 ∷ id 2 0 ∷ id 2618 16386 ∷ id 2618 16387 ∷ [])
  pub grouped_view_is : result_map_both ids_of (λ path. path) (due grouped_view) ≡ Ok (id 2615 2200 ∷ id 1259 16386 ∷ id 1259 16384 ∷ id 1 0 ∷ id 0 16384 ∷ id 2 0 ∷ id 2606 16385 ∷ id 2618 16387 ∷ [])
  pub one_reader_is : result_map_both ids_of (λ path. path) (due one_reader) ≡ Ok (id 1259 16385 ∷ id 1259 16384 ∷ [])

pub record Cuts : Type 0 where
  pub default_needs : (sorted (cut serial_column)).depends ≡ [] ∷ (0 ∷ []) ∷ (0 ∷ 1 ∷ []) ∷ (1 ∷ 2 ∷ []) ∷ (0 ∷ 1 ∷ 2 ∷ 3 ∷ []) ∷ (1 ∷ 4 ∷ []) ∷ (2 ∷ 4 ∷ []) ∷ (4 ∷ 5 ∷ 6 ∷ []) ∷ []
  pub rule_needs : (sorted (cut grouped_view)).depends ≡ [] ∷ (0 ∷ []) ∷ (0 ∷ []) ∷ (0 ∷ 1 ∷ 2 ∷ []) ∷ (2 ∷ 3 ∷ []) ∷ (3 ∷ 4 ∷ []) ∷ (2 ∷ 5 ∷ []) ∷ (1 ∷ 2 ∷ 5 ∷ 6 ∷ []) ∷ []
  pub no_bodies : map (λ object. object.kind) (cut two_views).objects ≡ Schema ∷ Dummy ∷ Dummy ∷ PreData ∷ PostData ∷ Rule ∷ Rule ∷ []
  pub whole_body : map (λ object. object.kind) (cut one_reader).objects ≡ View ∷ View ∷ []
  pub shared_is_kept : (cut shared_type).arcs ≡ (4, 0) ∷ (4, 1) ∷ (1, 0) ∷ (4, 2) ∷ (4, 1) ∷ (2, 1) ∷ (4, 3) ∷ []

pub record Loops : Type 0 where
  pub two_types_is : due two_types ≡ Err (id 1247 16384 ∷ id 1247 16385 ∷ id 1247 16384 ∷ [])
