-- The numbers of entries. The first entry of each object has a number that others name it by.
use Rattle.std.specs.Prelude.{ℕ, ◌+◌, ◌==◌, Bool, List, [], ◌∷◌, filter_map, Option, Some, None, is_some, if◌then◌else◌}
use Rattle.std.specs.List.{slice_get}
use Rattle.std.specs.Option.{option_and_then}
use Rattle.toc_entry.specs.declared.entry.Entry.{Entry}
use Rattle.toc_entry.specs.declared.entry.Extra.TheVariants.{Place}
use Rattle.dump_toc.specs.declared.draft.Draft.{Draft}

-- the number of the first of so many entries; none where there is none
abbrev pub first_of : ℕ → ℕ → Option ℕ
first_of next count = if count == 0 then None else Some next

-- of each object the number of its first entry, by how many each has
unfoldable pub first_ids : ℕ → List ℕ → List (Option ℕ)
first_ids next [] = []
first_ids next (count ∷ counts) = first_of next count ∷ first_ids (next + count) counts

-- the number of the object at a place
abbrev pub id_at : List (Option ℕ) → ℕ → Option ℕ
id_at ids place = option_and_then (λ id. id) (slice_get ids place)

-- the numbers of the objects at these places that have entries
abbrev pub ids_at : List (Option ℕ) → List ℕ → List ℕ
ids_at ids places = filter_map (id_at ids) places

-- 1: the place of its rows isn't told; 3: it has none
abbrev pub state_of : Bool → ℕ
state_of has_rows = if has_rows then 1 else 3

abbrev pub entry_of : List (Option ℕ) → ℕ → Draft → Entry
entry_of ids dump_id d = record {
  dump_id = dump_id;
  has_rows = is_some d.copy_stmt;
  tableoid = d.tableoid;
  oid = d.oid;
  tag = d.tag;
  desc = d.desc;
  section = d.section;
  defn = Some d.defn;
  drop_stmt = Some d.drop_stmt;
  copy_stmt = d.copy_stmt;
  namespace = d.namespace;
  tablespace = Some [];
  tableam = d.tableam;
  owner = d.owner;
  depends = ids_at ids d.needs;
  extra = Place (state_of (is_some d.copy_stmt)) 0;
}

-- entries one after another, numbered from a number on
unfoldable pub entries_from : List (Option ℕ) → ℕ → List Draft → List Entry
entries_from ids next [] = []
entries_from ids next (d ∷ ds) = entry_of ids next d ∷ entries_from ids (next + 1) ds
