-- The first order of a dump's objects: by priority, then by names, a default's column and oids.
use Rattle.std.specs.Prelude.{ℕ, Bool, List, [], ◌∷◌, Option, Some, None, map, nat_eq, if◌then◌else◌, unwrap_or}
use Rattle.std.specs.List.{enumerate_from, position_from}
use Rattle.std.specs.declared.cmp.Ordering.{Ordering}
use Rattle.std.specs.Ordering.{nat_cmp, int_cmp, ordering_then, is_lt}
use Rattle.std.specs.Cmp.Lexicographic.{slice_cmp}
use Rattle.graph_parts.specs.declared.object.Obj.{Obj}
use Rattle.graph_parts.specs.declared.object.ObjId.{ObjId}
use Rattle.graph_parts.specs.declared.object.ObjKind.{ObjKind}
use Rattle.graph_parts.specs.declared.object.ObjKind.TheVariants.{Schema, UserType, Table, View, Dummy, Sequence, Default, PreData, TableData, SeqValue, PostData, Constraint, Index, Rule, Foreign}
use Rattle.graph_walks.specs.Arcs.{Arc}

abbrev pub priority : ObjKind → ℕ
priority Schema = 0
priority UserType = 1
priority Table = 2
priority View = 2
priority Dummy = 2
priority Sequence = 2
priority Default = 3
priority PreData = 4
priority TableData = 5
priority SeqValue = 6
priority PostData = 7
priority Constraint = 8
priority Index = 9
priority Rule = 10
priority Foreign = 11

-- no name counts as the empty one
abbrev pub name_bytes : Option (List ℕ) → List ℕ
name_bytes None = []
name_bytes (Some name) = name

unfoldable pub first_cmp : Obj → Obj → Ordering
first_cmp a b =
    ordering_then (nat_cmp (priority a.kind) (priority b.kind))
    (ordering_then (slice_cmp nat_cmp (name_bytes a.schema) (name_bytes b.schema))
    (ordering_then (slice_cmp nat_cmp (name_bytes a.name) (name_bytes b.name))
    (ordering_then (int_cmp a.attnum b.attnum) (nat_cmp a.id.oid b.id.oid))))

-- by class, then by oid
unfoldable pub id_cmp : ObjId → ObjId → Ordering
id_cmp a b = ordering_then (nat_cmp a.class b.class) (nat_cmp a.oid b.oid)

-- an element before the first that isn't less
unfoldable pub placed : {X : Type 0} → (X → X → Bool) → X → List X → List X
placed less x [] = x ∷ []
placed less x (y ∷ ys) = if less y x then y ∷ placed less x ys else x ∷ y ∷ ys

-- the list in order; what ties stays in its order
unfoldable pub in_order : {X : Type 0} → (X → X → Bool) → List X → List X
in_order less [] = []
in_order less (x ∷ xs) = placed less x (in_order less xs)

-- the places of these objects in the first order, and in that of their ids
unfoldable pub first_places : List Obj → List ℕ
first_places objects = map (λ e. e.0) (in_order (λ a b. is_lt (first_cmp a.1 b.1)) (enumerate_from 0 objects))

unfoldable pub id_places : List Obj → List ℕ
id_places objects = map (λ e. e.0) (in_order (λ a b. is_lt (id_cmp a.1.id b.1.id)) (enumerate_from 0 objects))

-- where a place stands in a list of places
unfoldable pub stands_at : List ℕ → ℕ → ℕ
stands_at places place = unwrap_or (position_from (nat_eq place) 0 places) 0

-- arcs among places by where these stand
unfoldable pub renumbered : List ℕ → List Arc → List Arc
renumbered places arcs = map (λ arc. (stands_at places arc.0, stands_at places arc.1)) arcs
