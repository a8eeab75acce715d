-- What an entry of an archive depends on in a list: its listed dependencies that stand
-- earlier in the list, where an entry of the section post-data waits for a table's rows in the table's place.
use Rattle.std.specs.Prelude.{ℕ, ◌==◌, Bool, true, false, ◌&&◌, List, [], ◌∷◌, map, if◌then◌else◌}
use Rattle.std.specs.List.{list_any, filter}
use Rattle.restore_plan.specs.declared.kind.Kind.{Kind}
use Rattle.restore_plan.specs.declared.kind.Kind.TheVariants as kind
use Rattle.restore_plan.specs.declared.step.Step.{Step}
use Rattle.restore_plan.specs.declared.entry.Entry.{Entry}

-- entries lock TABLE and TABLE DATA
abbrev pub is_locked : Kind → Bool
is_locked kind.Table = true
is_locked kind.TableData = true
is_locked _ = false

-- entries but INDEX take locks
abbrev pub takes_locks : Kind → Bool
takes_locks kind.Index = false
takes_locks _ = true

abbrev pub is_table_data : Kind → Bool
is_table_data kind.TableData = true
is_table_data _ = false

-- a dump id is one of these
abbrev pub is_among : ℕ → List ℕ → Bool
is_among id ids = list_any (λ d. d == id) ids

-- ---- dependencies

abbrev pub is_first : ℕ → List ℕ → Bool
is_first id [] = false
is_first id (d ∷ ds) = d == id

-- the entry holds the rows of what has this dump id: it is a TABLE DATA entry that lists it first
abbrev pub has_rows_of : ℕ → Entry → Bool
has_rows_of id e = is_table_data e.kind && is_first id e.listed

-- the first entry that holds the rows of this one stands for it
abbrev pub replaced : List Entry → ℕ → ℕ
replaced [] id = id
replaced (e ∷ earlier) id = if has_rows_of id e then e.id else replaced earlier id

-- what an entry lists, where in the section post-data table data stands for its table
abbrev pub waits_for : List Entry → Entry → List ℕ
waits_for earlier e = if e.post_data then map (replaced earlier) e.listed else e.listed

-- the dump ids of what an entry depends on, in the order in which it lists them; `earlier` are the entries that stand
-- earlier in the list
abbrev pub deps : List Entry → Entry → List ℕ
deps earlier e = filter (λ id. is_among id (map (λ x. x.id) earlier)) (waits_for earlier e)

-- ---- locks

-- an entry of this dump id is there and is one that entries lock
abbrev pub can_be_locked : List Entry → ℕ → Bool
can_be_locked earlier id = list_any (λ x. x.id == id && is_locked x.kind) earlier

-- An entry of the section post-data other than INDEX locks each TABLE and TABLE DATA that it depends on.
abbrev pub locks : List Entry → Entry → List ℕ
locks earlier e = if e.post_data && takes_locks e.kind then filter (can_be_locked earlier) (deps earlier e) else []
