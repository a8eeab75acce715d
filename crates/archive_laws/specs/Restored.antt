-- Archives that pg_restore writes as the plain dump of the same entries and rows.
use Rattle.std.specs.Prelude.{◌≡◌, ℕ, Bool, true, false, List, [], ◌∷◌, Option, Some, None, codes}
use Rattle.std.specs.List.{AllByRecursion, slice_get}
use Rattle.dump_ports.specs.Tree.{Tree}
use Rattle.toc_entry.specs.declared.entry.Entry.{Entry}
use Rattle.toc_entry.specs.declared.entry.Extra.TheVariants.{File}
use Rattle.toc_entry.specs.declared.head.Head.{Head}
use Rattle.toc_layout.specs.Heads.{HeadFields, head_seen}
use Rattle.toc_layout.specs.Values.{IsHead, IsEntry}
use Rattle.archive_entries.specs.Fits.{CanBeArchived}
use Rattle.fmt_text.specs.Parts.{is_of_session}
use Rattle.entry_choices.specs.declared.options.Options.{Options}
use Rattle.entry_choices.specs.Choices.{wanted}
use Rattle.archive_entries.specs.Extras.{with_extra}
use Rattle.dump_files.specs.declared.file.DataFile.{DataFile}
use Rattle.dump_plain.specs.Dumps.{file_rows}

-- an entry without what it tells of the place of its rows
abbrev pub bare : Entry → Entry
bare e = with_extra (File []) e

-- An archive holds these rows: those of an entry with rows, which is the data of a table, are those of the next data file, of
-- which none fails; an entry without rows has none.
abbrev pub RowIs : Tree → (ℕ → Option (List ℕ)) → Entry → Bool → List DataFile → (List DataFile → Type 0) → Type 0
RowIs tree rows e false needed more = (rows e.dump_id ≡ None) × more needed
RowIs tree rows e true [] more = ⊥
RowIs tree rows e true (file ∷ needed) more = (e.desc ≡ codes "TABLE DATA") × ((file_rows tree file).fault ≡ None) × (rows e.dump_id ≡ Some (file_rows tree file).text) × more needed

abbrev pub RowsAre : Tree → (ℕ → Option (List ℕ)) → List Entry → List DataFile → Type 0
RowsAre tree rows [] needed = Unit {0}
RowsAre tree rows (e ∷ es) needed = RowIs tree rows e e.has_rows needed (λ others. RowsAre tree rows es others)

-- options leave out no entry but those that have no part of their own, as that of the database
abbrev pub LeavesNone : Options → List Entry → Type 0
LeavesNone o entries = (i : ℕ) (e : Entry) → wanted o entries i ≡ false → slice_get entries i ≡ Some e → is_of_session e.desc ≡ true

-- a head tells the versions of another
pub record HasVersions (plain : Head) (head : HeadFields) : Type 0 where
  pub server : plain.server ≡ head.server
  pub dumper : plain.dumper ≡ head.dumper

-- ---- dumps

-- an entry with rows is the data of a table and has a data file, of which no row fails
abbrev pub HasRows : Tree → Entry → Bool → List DataFile → (List DataFile → Type 0) → Type 0
HasRows tree e false needed more = more needed
HasRows tree e true [] more = ⊥
HasRows tree e true (file ∷ needed) more = (e.desc ≡ codes "TABLE DATA") × ((file_rows tree file).fault ≡ None) × more needed

abbrev pub HaveRows : Tree → List Entry → List DataFile → Type 0
HaveRows tree [] needed = Unit {0}
HaveRows tree (e ∷ es) needed = HasRows tree e e.has_rows needed (λ others. HaveRows tree es others)

-- a head and entries of the code's types, of which an archive can be made, with rows, and options that leave none of them out
pub record IsRestorable (tree : Tree) (head : Head) (entries : List Entry) (needed : List DataFile) (o : Options) : Type 0 where
  pub archive : CanBeArchived (head_seen head) entries
  pub head_type : IsHead (head_seen head)
  pub entry_types : AllByRecursion IsEntry entries
  pub rows : HaveRows tree entries needed
  pub all : LeavesNone o entries
