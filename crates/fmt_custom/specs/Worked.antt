-- A small archive: one entry with rows, in two pieces, as it is written before the places of blocks are known.
use Rattle.std.specs.Prelude.{true, pos, List, [], ◌∷◌, Some, None, codes}
use Rattle.toc_entry.specs.declared.entry.Entry.{Entry}
use Rattle.toc_entry.specs.declared.entry.Extra.TheVariants.{Place}
use Rattle.toc_layout.specs.Heads.{Instant, HeadFields}
use Rattle.fmt_custom.specs.Stored.{Stored}

abbrev pub worked_moment : Instant
worked_moment = record { sec = pos 8; min = pos 7; hour = pos 6; mday = pos 5; mon = pos 2; year = pos 124; isdst = pos 0 }

abbrev pub worked_head : HeadFields
worked_head = record {
  major = 1;
  minor = 15;
  revision = 0;
  format = 1;
  compression = 0;
  moment = worked_moment;
  dbname = codes "shop";
  server = codes "16.0";
  dumper = codes "16.0";
}

abbrev pub worked_entry : Entry
worked_entry = record {
  dump_id = 5;
  has_rows = true;
  tableoid = 0;
  oid = 0;
  tag = codes "t";
  desc = codes "TABLE DATA";
  section = 3;
  defn = None;
  drop_stmt = None;
  copy_stmt = Some (codes "COPY a.t (id) FROM stdin;\n");
  namespace = Some (codes "a");
  tablespace = None;
  tableam = None;
  owner = None;
  depends = 2 ∷ [];
  extra = Place 1 0;
}

abbrev pub worked_stored : List Stored
worked_stored = record { entry = worked_entry; pieces = codes "1\n2\n" ∷ codes "\\.\n\n\n" ∷ [] } ∷ []
