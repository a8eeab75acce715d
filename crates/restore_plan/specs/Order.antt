-- What has to end before an entry may start: earlier entries that it depends on or whose footprint conflicts with
-- its own. An entry's footprint is the union of those of its statements.
use Rattle.std.specs.Prelude.{ℕ, nat_lt, Bool, false, ◌&&◌, ◌||◌, List, [], ◌∷◌, ◌++◌, Option, Some, None}
use Rattle.std.specs.List.{list_any, flat_map, filter_map, slice_get}
use Rattle.std.specs.FinMap.{entries}
use Rattle.cat_model.specs.declared.object.QName.{QName}
use Rattle.cat_model.specs.declared.key.Key.{Key}
use Rattle.cat_model.specs.declared.key.Key.TheVariants as key
use Rattle.cat_model.specs.declared.footprint.Footprint.{Footprint}
use Rattle.cat_model.specs.declared.stmt.Stmt.{Stmt}
use Rattle.cat_model.specs.declared.stmt.Stmt.TheVariants as stmt
use Rattle.cat_model.specs.declared.value.Value.TheVariants as value
use Rattle.cat_model.specs.declared.value.Value.{Value}
use Rattle.cat_model.specs.Values.{Bytes, Named}
use Rattle.cat_model.specs.Footprints.{reads_of, writes_of}
use Rattle.cat_model.specs.Marks.{conflict}
use Rattle.restore_plan.specs.declared.step.Step.{Step}
use Rattle.restore_plan.specs.declared.entry.Entry.{Entry}
use Rattle.restore_plan.specs.Entries.{deps, locks, is_among}
use Rattle.restore_plan.specs.declared.planned.Planned.{Planned}

-- ---- foreign keys, as pairs of a table and its parent

abbrev pub with_parent : QName → Option (QName × List Bytes) → Option (QName × QName)
with_parent table None = None
with_parent table (Some (parent, names)) = Some (table, parent)

abbrev pub foreign_key_in : Key × Value → Option (QName × QName)
foreign_key_in (key.Con table name, value.Constraint c) = with_parent table c.parent
foreign_key_in _ = None

-- the foreign keys of a catalogue
abbrev pub foreign_keys : Named → List (QName × QName)
foreign_keys named = filter_map foreign_key_in (entries named)

-- the foreign key that a statement adds
abbrev pub foreign_keys_of : Stmt → List (QName × QName)
foreign_keys_of (stmt.AddForeign table name names parent parent_names rest) = (table, parent) ∷ []
foreign_keys_of _ = []

abbrev pub foreign_keys_in : List Step → List (QName × QName)
foreign_keys_in steps = flat_map (λ s. foreign_keys_of s.statement) steps

-- ---- footprints of entries

-- the footprint of statements together, where these are the foreign keys of the opening and of earlier entries
abbrev pub footprint_of_steps : List (QName × QName) → List Step → Footprint
footprint_of_steps parents steps =
    record { reads = flat_map (λ s. reads_of s.statement parents) steps; writes = flat_map (λ s. writes_of s.statement) steps }

-- ---- the plan

-- an entry in its place in a list: what it depends on, what it locks, what it reads and writes, and its statements
abbrev pub planned : List (QName × QName) → List Entry → Entry → Planned
planned parents earlier e =
    record { id = e.id; deps = deps earlier e; locks = locks earlier e; footprint = footprint_of_steps parents e.steps; steps = e.steps }

abbrev pub plan_behind : List (QName × QName) → List Entry → List Entry → List Planned
plan_behind parents earlier [] = []
plan_behind parents earlier (e ∷ es) =
    planned parents earlier e ∷ plan_behind (parents ++ foreign_keys_in e.steps) (earlier ++ e ∷ []) es

-- each entry of a list in its place, over an opening
abbrev pub plan : Named → List Entry → List Planned
plan opening es = plan_behind (foreign_keys opening) [] es

-- the first of two entries, which stands earlier, has to end before the second starts
abbrev pub before : Planned → Planned → Bool
before i j = is_among i.id j.deps || conflict i.footprint j.footprint

-- two entries lock one same entry
abbrev pub clash : Planned → Planned → Bool
clash i j = list_any (λ id. is_among id j.locks) i.locks

-- ---- by places

abbrev pub both : (Planned → Planned → Bool) → Option Planned → Option Planned → Bool
both test (Some i) (Some j) = test i j
both test i j = false

-- the i-th entry stands earlier than the j-th, and has to end before that one starts
abbrev pub before_at : List Planned → ℕ → ℕ → Bool
before_at ps i j = nat_lt i j && both before (slice_get ps i) (slice_get ps j)

-- the two lock one same entry
abbrev pub clash_at : List Planned → ℕ → ℕ → Bool
clash_at ps i j = both clash (slice_get ps i) (slice_get ps j)
