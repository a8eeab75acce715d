-- Where the entries of a dump tell that their rows are.
use Rattle.std.specs.Prelude.{ℕ, Bool, true, false, List, [], ◌∷◌, ◌++◌, if◌then◌else◌, decimal, codes}
use Rattle.toc_entry.specs.declared.entry.Entry.{Entry}
use Rattle.toc_entry.specs.declared.entry.Extra.{Extra}
use Rattle.toc_entry.specs.declared.entry.Extra.TheVariants.{Place, File}
use Rattle.toc_layout.specs.Entries.{dump_id, identity, labels, three, setting, dependencies, extra}
use Rattle.toc_layout.specs.Heads.{HeadFields, head}
use Rattle.toc_layout.specs.Writable.{is_file}
use Rattle.toc_table.specs.Writing.{toc_text}

-- an entry that tells this
abbrev pub with_extra : Extra → Entry → Entry
with_extra x e = record e { extra = x }

-- how it is spelled
abbrev pub extra_text : Extra → List ℕ
extra_text x = (extra (is_file x)).write x

-- how all of an entry is spelled that stands in front of it
unfoldable pub bare_text : Entry → List ℕ
bare_text e =
    dump_id.write e.dump_id
    ++ (identity.write (e.has_rows, (e.tableoid, e.oid))
    ++ (labels.write (e.tag, (e.desc, e.section))
    ++ (three.write (e.defn, (e.drop_stmt, e.copy_stmt))
    ++ (setting.write ((e.namespace, (e.tablespace, e.tableam)), (e.owner, tt))
    ++ dependencies.write e.depends))))

-- the head and the entries
abbrev pub front_of : HeadFields → List Entry → List ℕ
front_of h es = head.write h ++ toc_text es

-- ---- the custom format

-- 1: the place isn't told; 3: there are no rows
abbrev pub unplaced_extra : Bool → Extra
unplaced_extra has_rows = Place (if has_rows then 1 else 3) 0

abbrev pub unplaced : Entry → Entry
unplaced e = with_extra (unplaced_extra e.has_rows) e

-- 2: the place is told
abbrev pub placed : ℕ → Entry → Entry
placed at e = with_extra (Place 2 at) e

-- an entry with rows tells the next of some places
abbrev pub told_by : Entry → Bool → List ℕ → (List ℕ → List Entry) → List Entry
told_by e false places more = unplaced e ∷ more places
told_by e true [] more = unplaced e ∷ more []
told_by e true (at ∷ places) more = placed at e ∷ more places

-- those with rows tell these places, one after another
unfoldable pub told : List Entry → List ℕ → List Entry
told [] places = []
told (e ∷ es) places = told_by e e.has_rows places (told es)

-- ---- the directory format

-- the file of a dump id; no name where there are no rows
abbrev pub file_name : Bool → ℕ → List ℕ
file_name has_rows id = if has_rows then decimal id ++ codes ".dat" else []

abbrev pub filed : Entry → Entry
filed e = with_extra (File (file_name e.has_rows e.dump_id)) e
