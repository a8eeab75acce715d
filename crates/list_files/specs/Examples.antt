-- The archive of the worked examples: the dump of a table with a serial column.
use Rattle.std.specs.Prelude.{ℕ, pos, List, [], ◌∷◌, ◌++◌, Option, Some, None, codes}
use Rattle.toc_entry.specs.declared.entry.Entry.{Entry}
use Rattle.toc_layout.specs.Heads.{HeadFields}
use Rattle.entry_choices.specs.Examples.{entry_of}

abbrev pub placed : Entry → ℕ → ℕ → Entry
placed e table oid = record e { tableoid = table; oid = oid; owner = Some (codes "postgres") }

abbrev pub public : Option (List ℕ)
public = Some (codes "public")

abbrev pub serial : List Entry
serial =
    entry_of 1 (codes "ENCODING") (codes "ENCODING") 2 None [] ∷
    entry_of 2 (codes "STDSTRINGS") (codes "STDSTRINGS") 2 None [] ∷
    entry_of 3 (codes "SEARCHPATH") (codes "SEARCHPATH") 2 None [] ∷
    placed (entry_of 4 (codes "DATABASE") (codes "postgres") 2 None []) 1262 5 ∷
    placed (entry_of 5 (codes "SCHEMA") (codes "public") 2 None []) 2615 2200 ∷
    placed (entry_of 6 (codes "TABLE") (codes "t") 2 public (5 ∷ [])) 1259 16385 ∷
    placed (entry_of 7 (codes "SEQUENCE") (codes "t_id_seq") 2 public (5 ∷ 6 ∷ [])) 1259 16384 ∷
    placed (entry_of 8 (codes "SEQUENCE OWNED BY") (codes "t_id_seq") 2 public (6 ∷ 7 ∷ [])) 0 0 ∷
    placed (entry_of 9 (codes "DEFAULT") (codes "t id") 2 public (6 ∷ 7 ∷ [])) 2604 16386 ∷
    placed (entry_of 10 (codes "TABLE DATA") (codes "t") 3 public (6 ∷ [])) 0 16385 ∷
    placed (entry_of 11 (codes "SEQUENCE SET") (codes "t_id_seq") 3 public (7 ∷ [])) 0 0 ∷ []

abbrev pub head : HeadFields
head = record {
  major = 1;
  minor = 15;
  revision = 0;
  format = 1;
  compression = 0;
  moment = record { sec = pos 5; min = pos 59; hour = pos 23; mday = pos 31; mon = pos 11; year = pos 124; isdst = pos 0 };
  dbname = codes "shop";
  server = codes "16.0";
  dumper = codes "16.0";
}

-- its list, without the database itself
abbrev pub serial_list : List ℕ
serial_list =
    codes ";\n; Archive created at 2024-12-31 23:59:05\n;     dbname: shop\n;     TOC Entries: 10\n;\n"
    ++ codes "5; 2615 2200 SCHEMA - public postgres\n"
    ++ codes "6; 1259 16385 TABLE public t postgres\n"
    ++ codes "7; 1259 16384 SEQUENCE public t_id_seq postgres\n"
    ++ codes "8; 0 0 SEQUENCE OWNED BY public t_id_seq postgres\n"
    ++ codes "9; 2604 16386 DEFAULT public t id postgres\n"
    ++ codes "10; 0 16385 TABLE DATA public t postgres\n"
    ++ codes "11; 0 0 SEQUENCE SET public t_id_seq postgres\n"

-- the ends of lines in what is shown, an owner that isn't there, and a moment whose numbers are short
abbrev pub strange : Entry
strange = entry_of 4294967295 (codes "TABLE") (codes "a\r\nb") 2 None []

abbrev pub early : HeadFields
early = record head { moment = record { sec = pos 0; min = pos 7; hour = pos 6; mday = pos 5; mon = pos 0; year = pos 0; isdst = pos 0 }; dbname = codes "x\ny" }

abbrev pub strange_list : List ℕ
strange_list = codes ";\n; Archive created at 1900-01-05 06:07:00\n;     dbname: x y\n;     TOC Entries: 1\n;\n4294967295; 0 0 TABLE - a  b \n"
