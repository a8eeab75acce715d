-- The entries that a dump has.
use Rattle.std.specs.Prelude.{◌≡◌, ◌≤◌, true, codes}
use Rattle.std.specs.List.{AllByRecursion}
use Rattle.toc_entry.specs.declared.entry.Entry.{Entry}
use Rattle.entry_choices.specs.Kinds.{is_one_of, database_kinds}

-- Rows are the data of a table. The first four entries set up the session and make the database, which no other entry does;
-- none lists one of them.
pub record IsOfDump (e : Entry) : Type 0 where
  pub rows : e.has_rows ≡ true → e.desc ≡ codes "TABLE DATA"
  pub needs : AllByRecursion (λ id. 5 ≤ id) e.depends
  pub database : is_one_of database_kinds e.desc ≡ true → e.dump_id ≤ 4
