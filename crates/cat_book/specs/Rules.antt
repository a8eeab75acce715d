-- A table by its conditions, and the first fault of its lines beside a catalogue.
use Rattle.std.specs.Prelude.{ℕ, ℤ, pos, Bool, false, ◌||◌, ◌&&◌, List, filter_map, Option, Some, None}
use Rattle.std.specs.List.{list_any}
use Rattle.std.specs.declared.cmp.Ordering.{Ordering}
use Rattle.std.specs.Ordering.{nat_cmp, int_cmp, ordering_then}
use Rattle.cat_model.specs.Values.{Bytes, bytes_cmp}
use Rattle.cat_names.specs.declared.fault.Findings.{Findings}
use Rattle.cat_names.specs.declared.fault.FaultKind.{FaultKind}
use Rattle.cat_names.specs.declared.fault.LineFault.{LineFault}
use Rattle.cat_names.specs.Findings.{first_fault, dangling_unless}
use Rattle.cat_names.specs.Lookups.{has_key, is_no_oid}
use Rattle.cat_book.specs.declared.lines.Unmet.{Unmet}

-- ---- what no two rows of a table have in common

-- a name, behind the oids and the number of what it is unique in; what has no name has the empty one
abbrev pub RowName : Type 0
RowName = ℕ × ℕ × ℤ × Bytes

abbrev pub name_cmp : RowName → RowName → Ordering
name_cmp a b = ordering_then (ordering_then (ordering_then (nat_cmp a.0 b.0) (nat_cmp a.1 b.1)) (int_cmp a.2 b.2)) (bytes_cmp a.3 b.3)

-- a place among the rows of an oid
abbrev pub Place : Type 0
Place = ℕ × ℤ

abbrev pub place_cmp : Place → Place → Ordering
place_cmp a b = ordering_then (nat_cmp a.0 b.0) (int_cmp a.1 b.1)

-- a row's own oid, its name and its place, as far as rows of its table have them, and whether it is the one that only one
-- row may be
pub record Keys : Type 0 where
  pub oid : Option ℕ
  pub name : Option RowName
  pub place : Option Place
  pub is_marked : Bool

-- an object with a name of its own, or with one within a schema, a type or a relation
abbrev pub named : ℕ → Bytes → Keys
named oid name = record { oid = Some oid; name = Some (0, 0, pos 0, name); place = None; is_marked = false }

abbrev pub named_in : ℕ → ℕ → Bytes → Keys
named_in oid space name = record { oid = Some oid; name = Some (space, 0, pos 0, name); place = None; is_marked = false }

-- ---- the conditions of a table

-- What the rows of a table have to themselves; which conditions beside the catalogue a row doesn't meet; and whether the
-- row is there that the table must have.
pub record Rules (C R : Type 0) : Type 0 where
  pub keys : R → Keys
  pub unmet : C → R → Unmet
  pub needed : C → Bool

-- whether a key is one of these; none never is
abbrev pub is_among : {K : Type 0} → (K → K → Ordering) → List K → Option K → Bool
is_among cmp keys None = false
is_among cmp keys (Some key) = has_key cmp keys key

-- whether an earlier row has this key of a row too
abbrev pub is_again : {R K : Type 0} → (K → K → Ordering) → (R → Option K) → List R → R → Bool
is_again cmp key before row = is_among cmp (filter_map key before) (key row)

-- an own oid of 0 stands for no object
abbrev pub is_nothing : Option ℕ → Bool
is_nothing None = false
is_nothing (Some oid) = is_no_oid oid

-- What is wrong with a row behind those before it. A second row that only one may be is a repeated name; a place that is
-- there a second time, and an own oid of 0, are bad texts.
abbrev pub found : {C R : Type 0} → Rules C R → C → List R → R → Findings
found rules cat before row = record {
  repeated_oid = is_again nat_cmp (λ r. (rules.keys r).oid) before row;
  repeated_name = is_again name_cmp (λ r. (rules.keys r).name) before row || ((rules.keys row).is_marked && list_any (λ r. (rules.keys r).is_marked) before);
  dangling = (rules.unmet cat row).dangles;
  bad_text = is_nothing (rules.keys row).oid || ((rules.unmet cat row).is_bad || is_again place_cmp (λ r. (rules.keys r).place) before row);
  left_out = (rules.unmet cat row).left_out;
}

-- a row that must be there and isn't dangles, at the line after the last
abbrev pub ending : {C R : Type 0} → Rules C R → C → Option FaultKind
ending rules cat = dangling_unless (rules.needed cat)

-- the first fault of a table's rows
abbrev pub fault_by : {C R : Type 0} → Rules C R → C → List R → Option LineFault
fault_by rules cat rows = first_fault (found rules cat) (ending rules cat) rows
