-- Worked examples: what the rows of a small catalogue stand for by names.
use Rattle.std.specs.Prelude.{◌≡◌, ◌==◌, ℕ, ℤ, pos, true, false, List, [], ◌∷◌, Some, None, codes, if◌then◌else◌}
use Rattle.std.specs.FinMap.{from_entries}
use Rattle.cat_rows.specs.declared.catalogue.Catalogue.{Catalogue}
use Rattle.cat_rows.specs.declared.schemas.NamespaceRow.{NamespaceRow}
use Rattle.cat_rows.specs.declared.types.TypeRow.{TypeRow}
use Rattle.cat_rows.specs.declared.types.EnumRow.{EnumRow}
use Rattle.cat_rows.specs.declared.relations.ClassRow.{ClassRow}
use Rattle.cat_rows.specs.declared.relations.AttributeRow.{AttributeRow}
use Rattle.cat_rows.specs.declared.sequences.SequenceRow.{SequenceRow}
use Rattle.cat_rows.specs.declared.constraints.ConstraintRow.{ConstraintRow}
use Rattle.cat_rows.specs.Catalogues.{no_rows}
use Rattle.cat_model.specs.declared.constraint.ConstraintKind.TheVariants as kinds
use Rattle.cat_model.specs.declared.constraint.SequenceKind.TheVariants as sequences
use Rattle.cat_model.specs.declared.object.QName.{QName}
use Rattle.cat_model.specs.declared.object.Object.TheVariants as object
use Rattle.cat_model.specs.declared.key.Key.TheVariants as key
use Rattle.cat_model.specs.declared.type_name.TypeName.TheVariants.{Words, Path}
use Rattle.cat_model.specs.Grants.{owner_only, table_rights, sequence_rights, type_grants}
use Rattle.cat_model.specs.declared.value.Value.TheVariants as value
use Rattle.cat_model.specs.declared.value.Resolved.{Resolved}
use Rattle.cat_model.specs.declared.value.Column.{Column}
use Rattle.cat_model.specs.Values.{Bytes, Row}
use Rattle.cat_names.specs.Examples.{postgres}
use Rattle.cat_naming.specs.Types.{type_entries}
use Rattle.cat_naming.specs.Relations.{class_entries, columns_of, default_entries, sequence_entries, body_entries}
use Rattle.cat_naming.specs.Constraints.{constraint_entries, index_entries}
use Rattle.cat_naming.specs.Comments.{comment_entries}
use Rattle.cat_naming.specs.Entries.{entries_of}

abbrev pub path : Bytes → QName
path name = record { schema = codes "public"; name = name }

abbrev pub schema : NamespaceRow
schema = record { oid = 2200; nspname = codes "public"; nspowner = 10; nspacl = None }

abbrev pub label : ℕ → ℤ → Bytes → EnumRow
label oid position text = record { oid = oid; enumtypid = 20000; enumpos = position; enumlabel = text }

abbrev pub e : TypeRow
e = record { oid = 20000; typname = codes "e"; typnamespace = 2200; typowner = 10; typtype = 101; typnotnull = false; typbasetype = 0; basetext = []; typdefault = None; typacl = None }

-- the domain public.d over public.e, which takes no null
abbrev pub d : TypeRow
d = record { oid = 20001; typname = codes "d"; typnamespace = 2200; typowner = 10; typtype = 100; typnotnull = true; typbasetype = 20000; basetext = codes "\"public\".e"; typdefault = Some (codes " 'x' -- x"); typacl = None }

abbrev pub relation : ℕ → Bytes → ℕ → ClassRow
relation oid name letter = record { oid = oid; relname = name; relnamespace = 2200; relkind = letter; relowner = 10; relpersistence = 112; relacl = None }

abbrev pub column : ℕ → ℤ → Bytes → ℕ → Bytes → AttributeRow
column table number name type text = record { attrelid = table; attnum = number; attname = name; atttypid = type; typtext = text; attnotnull = false }

abbrev pub constraint : ℕ → Bytes → ℕ → ℕ → ℕ → Bytes → ConstraintRow
constraint oid name letter table domain text = record { oid = oid; conname = name; contype = letter; conrelid = table; contypid = domain; conindid = if letter == 112 then 16503 else 0; confrelid = 0; condef = text }

abbrev pub sequence : SequenceRow
sequence = record { seqrelid = 16502; seqtype = codes "bigint"; seqstart = pos 1; seqincrement = pos 1; seqmax = pos 100; seqmin = pos 1; seqcache = pos 1; seqcycle = false; last_value = pos 5; is_called = true; ownrel = 16500; owncol = pos 3 }

-- the schema public; in it the enum e and the domain d, the table t with the columns b and a, its primary key and an index,
-- the view v and the sequence s
abbrev pub cat : Catalogue
cat = record no_rows {
  pg_authid = postgres ∷ [];
  pg_namespace = schema ∷ [];
  pg_type = e ∷ d ∷ [];
  pg_enum = label 30002 (pos 2) (codes "y") ∷ label 30001 (pos 1) (codes "x") ∷ [];
  pg_class = relation 16500 (codes "t") 114 ∷ relation 16501 (codes "v") 118 ∷ relation 16502 (codes "s") 83 ∷ relation 16503 (codes "k") 105 ∷ relation 16504 (codes "i") 105 ∷ [];
  pg_attribute = column 16500 (pos 3) (codes "a") 20001 (codes "public.d") ∷ column 16500 (pos 1) (codes "b") 0 (codes "integer") ∷ column 16501 (pos 1) (codes "b") 0 (codes "integer") ∷ [];
  pg_attrdef = record { oid = 17000; adrelid = 16500; adnum = pos 3; adexpr = codes "'x'::public.d" } ∷ [];
  pg_constraint = constraint 18000 (codes "k") 112 16500 0 (codes "PRIMARY KEY (b) DEFERRABLE") ∷ constraint 18001 (codes "c") 99 0 20001 (codes "CHECK ((VALUE <> 'y'))") ∷ [];
  pg_index = record { indexrelid = 16504; indrelid = 16500; indisunique = false; indexdef = codes "CREATE INDEX i ON public.t USING btree (a)" } ∷ [];
  pg_sequence = sequence ∷ [];
  pg_rewrite = record { oid = 19000; ev_class = 16501; viewdef = codes " SELECT b FROM public.t;" } ∷ [];
  pg_description = record { objoid = 16500; classoid = 1259; objsubid = pos 3; description = codes "a column" } ∷ [];
}

abbrev pub labels : List Bytes
labels = codes "x" ∷ codes "y" ∷ []

abbrev pub integer : Resolved
integer = record { type_name = Words (codes "integer"); labels = None; not_null = false }

-- the domain d: its base, and then d itself as the type of a column
abbrev pub of_e : Resolved
of_e = record { type_name = Path (path (codes "e")); labels = Some labels; not_null = false }

abbrev pub of_d : Resolved
of_d = record of_e { not_null = true }

abbrev pub columns : List Column
columns =
    record { name = codes "b"; type_name = Words (codes "integer"); resolved = integer; not_null = false }
    ∷ record { name = codes "a"; type_name = Path (path (codes "d")); resolved = of_d; not_null = false } ∷ []

abbrev pub rows : ℕ → List Row
rows oid = (Some (codes "1") ∷ Some (codes "x") ∷ []) ∷ []

pub record Types : Type 0 where
  pub enum : type_entries cat e ≡ (key.UserType (path (codes "e")), value.Enum labels) ∷ (key.Owner (object.Type (path (codes "e"))), value.Owner (codes "postgres")) ∷ (key.Acl (object.Type (path (codes "e"))), value.Grants type_grants) ∷ []
  pub domain : type_entries cat d ≡ (
    key.UserType (path (codes "d")),
    value.Domain (record { base = Path (path (codes "e")); resolved = of_e; not_null = true; «default» = Some (codes "'x'"); checks = from_entries ((codes "c", codes "(VALUE <> 'y')") ∷ []) }),
  ) ∷ (key.Owner (object.Type (path (codes "d"))), value.Owner (codes "postgres")) ∷ (key.Acl (object.Type (path (codes "d"))), value.Grants type_grants) ∷ []

pub record Relations : Type 0 where
  pub gaps_close : columns_of cat 16500 ≡ columns
  pub table : class_entries cat rows (relation 16500 (codes "t") 114) ≡ (key.Rel (path (codes "t")), value.Table columns) ∷ (key.Rows (path (codes "t")), value.Rows (rows 16500)) ∷ (key.Owner (object.Relation (path (codes "t"))), value.Owner (codes "postgres")) ∷ (key.Acl (object.Relation (path (codes "t"))), value.Grants (owner_only table_rights)) ∷ []
  pub view : class_entries cat rows (relation 16501 (codes "v") 118) ≡ (key.Rel (path (codes "v")), value.View) ∷ (key.Owner (object.Relation (path (codes "v"))), value.Owner (codes "postgres")) ∷ (key.Acl (object.Relation (path (codes "v"))), value.Grants (owner_only table_rights)) ∷ []
  pub index_of_a_key : class_entries cat rows (relation 16503 (codes "k") 105) ≡ (key.Rel (path (codes "k")), value.IndexOf (path (codes "t"))) ∷ []
  pub owner_of_a_sequence : class_entries cat rows (relation 16502 (codes "s") 83) ≡ (key.Owner (object.Relation (path (codes "s"))), value.Owner (codes "postgres")) ∷ (key.Acl (object.Relation (path (codes "s"))), value.Grants (owner_only sequence_rights)) ∷ []
  pub sequence : sequence_entries cat sequence ≡ (key.Rel (path (codes "s")), value.Sequence (record { kind = sequences.BigInt; start = pos 1; step = pos 1; min = pos 1; max = pos 100; cache = pos 1; cycle = false })) ∷ (key.SeqVal (path (codes "s")), value.SequenceValue (pos 5) true) ∷ (key.OwnedBy (path (codes "s")), value.OwnedBy (path (codes "t")) (codes "a")) ∷ []
  pub body : body_entries cat (record { oid = 19000; ev_class = 16501; viewdef = codes " SELECT b FROM public.t;" }) ≡ (key.Body (path (codes "v")), value.Body (codes "SELECT b FROM public.t")) ∷ []
  pub «default» : default_entries cat (record { oid = 17000; adrelid = 16500; adnum = pos 3; adexpr = codes "'x'::public.d" }) ≡ (key.Default (path (codes "t")) (codes "a"), value.DefaultText (codes "'x'::public.d")) ∷ []
  pub comment : comment_entries cat (record { objoid = 16500; classoid = 1259; objsubid = pos 3; description = codes "a column" }) ≡ (key.Comment (object.Column (path (codes "t")) (codes "a")), value.Comment (codes "a column")) ∷ []

pub record Constraints : Type 0 where
  pub primary : constraint_entries cat (constraint 18000 (codes "k") 112 16500 0 (codes "PRIMARY KEY (b) DEFERRABLE")) ≡ (key.Con (path (codes "t")) (codes "k"), value.Constraint (record { kind = kinds.Primary; columns = codes "b" ∷ []; parent = None; text = codes "DEFERRABLE" })) ∷ []
  pub check_of_a_domain : constraint_entries cat (constraint 18001 (codes "c") 99 0 20001 (codes "CHECK ((VALUE <> 'y'))")) ≡ []
  pub index : index_entries (record { indexrelid = 16504; indrelid = 16500; indisunique = false; indexdef = codes "CREATE INDEX i ON public.t USING btree (a)" }) ≡ (key.Index (path (codes "t")) (codes "i"), value.Index (record { method = codes "btree"; unique = false; text = codes "(a)" })) ∷ []

-- one table, by its oid
abbrev pub one : ℕ → ℤ → Catalogue
one oid number = record no_rows {
  pg_authid = postgres ∷ [];
  pg_namespace = schema ∷ [];
  pg_class = relation oid (codes "t") 114 ∷ [];
  pg_attribute = column oid number (codes "b") 0 (codes "integer") ∷ [];
}

-- No oid and no number of a column is left.
pub record Renamed : Type 0 where
  pub other_oid : entries_of (one 16384 (pos 1)) rows ≡ entries_of (one 20000 (pos 1)) rows
  pub other_number : entries_of (one 16384 (pos 1)) rows ≡ entries_of (one 16384 (pos 7)) rows
