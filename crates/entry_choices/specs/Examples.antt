-- Archives of the worked examples.
use Rattle.std.specs.Prelude.{ℕ, true, false, List, [], ◌∷◌, Option, Some, None, codes}
use Rattle.cat_model.specs.declared.words.Sections.{Sections}
use Rattle.toc_entry.specs.declared.entry.Entry.{Entry}
use Rattle.toc_entry.specs.declared.entry.Extra.TheVariants.{Place}
use Rattle.entry_choices.specs.declared.options.Options.{Options}

-- an entry with this id, of this kind, tag, section and schema, that lists these dependencies
abbrev pub entry_of : ℕ → List ℕ → List ℕ → ℕ → Option (List ℕ) → List ℕ → Entry
entry_of id desc tag section namespace depends = record {
  dump_id = id;
  has_rows = false;
  tableoid = 0;
  oid = 0;
  tag = tag;
  desc = desc;
  section = section;
  defn = None;
  drop_stmt = None;
  copy_stmt = None;
  namespace = namespace;
  tablespace = Some [];
  tableam = None;
  owner = None;
  depends = depends;
  extra = Place 3 0;
}

-- a table with a serial column, as it is dumped
abbrev pub serial : List Entry
serial =
    entry_of 1 (codes "ENCODING") (codes "ENCODING") 2 None [] ∷
    entry_of 2 (codes "STDSTRINGS") (codes "STDSTRINGS") 2 None [] ∷
    entry_of 3 (codes "SEARCHPATH") (codes "SEARCHPATH") 2 None [] ∷
    entry_of 4 (codes "DATABASE") (codes "postgres") 2 None [] ∷
    entry_of 5 (codes "SCHEMA") (codes "public") 2 None [] ∷
    entry_of 6 (codes "TABLE") (codes "t") 2 (Some (codes "public")) (5 ∷ []) ∷
    entry_of 7 (codes "SEQUENCE") (codes "t_id_seq") 2 (Some (codes "public")) (5 ∷ 6 ∷ []) ∷
    entry_of 8 (codes "SEQUENCE OWNED BY") (codes "t_id_seq") 2 (Some (codes "public")) (6 ∷ 7 ∷ []) ∷
    entry_of 9 (codes "DEFAULT") (codes "t id") 2 (Some (codes "public")) (6 ∷ 7 ∷ []) ∷
    entry_of 10 (codes "TABLE DATA") (codes "t") 3 (Some (codes "public")) (6 ∷ []) ∷
    entry_of 11 (codes "SEQUENCE SET") (codes "t_id_seq") 3 (Some (codes "public")) (7 ∷ []) ∷ []

-- a table with a comment and a grant, an index with a comment, a comment on that comment, and a comment on what stands
-- behind it
abbrev pub remarks : List Entry
remarks =
    entry_of 1 (codes "ENCODING") (codes "ENCODING") 2 None [] ∷
    entry_of 21 (codes "TABLE") (codes "t") 2 (Some (codes "a")) [] ∷
    entry_of 22 (codes "COMMENT") (codes "TABLE t") 1 (Some (codes "a")) (21 ∷ []) ∷
    entry_of 23 (codes "ACL") (codes "TABLE t") 1 (Some (codes "a")) (21 ∷ []) ∷
    entry_of 24 (codes "INDEX") (codes "i") 4 (Some (codes "a")) (21 ∷ []) ∷
    entry_of 25 (codes "COMMENT") (codes "INDEX i") 1 (Some (codes "a")) (24 ∷ 21 ∷ []) ∷
    entry_of 26 (codes "COMMENT") (codes "x") 1 (Some (codes "b")) (25 ∷ []) ∷
    entry_of 27 (codes "COMMENT") (codes "VIEW v") 1 (Some (codes "a")) (28 ∷ []) ∷
    entry_of 28 (codes "VIEW") (codes "v") 2 (Some (codes "a")) [] ∷ []

-- no option
abbrev pub plain : Options
plain = record {
  schema_only = false;
  data_only = false;
  schemas = [];
  not_schemas = [];
  tables = [];
  owners = true;
  grants = true;
  comments = true;
  sections = record { pre = true; rows = true; post = true };
}
