-- Objects by the table that their row stands in and the row's oid; the rows of a table and the value of a sequence by the
-- class 0 and the relation, and the two boundaries, between which the data stand, by the classes 1 and 2.
use Rattle.std.specs.Prelude.{ℕ}
use Rattle.std.specs.declared.cmp.Ordering.{Ordering}
use Rattle.std.specs.Ordering.{nat_cmp, ordering_then}
use Rattle.graph_parts.specs.declared.object.ObjId.{ObjId}

abbrev pub id : ℕ → ℕ → ObjId
id class oid = record { class = class; oid = oid }

-- by classes, and by oids where the classes are one
abbrev pub id_cmp : ObjId → ObjId → Ordering
id_cmp a b = ordering_then (nat_cmp a.class b.class) (nat_cmp a.oid b.oid)

abbrev pub schema_id : ℕ → ObjId
schema_id oid = id 2615 oid

abbrev pub type_id : ℕ → ObjId
type_id oid = id 1247 oid

-- a table, view or sequence, or an index of no constraint
abbrev pub relation_id : ℕ → ObjId
relation_id oid = id 1259 oid

abbrev pub default_id : ℕ → ObjId
default_id oid = id 2604 oid

abbrev pub constraint_id : ℕ → ObjId
constraint_id oid = id 2606 oid

abbrev pub rule_id : ℕ → ObjId
rule_id oid = id 2618 oid

-- the rows of a table, or the value of a sequence
abbrev pub data_id : ℕ → ObjId
data_id oid = id 0 oid

-- what stands before the boundary before the data is restored before any data, and the data before what stands behind the
-- one after them
abbrev pub pre_data : ObjId
pre_data = id 1 0

abbrev pub post_data : ObjId
post_data = id 2 0
