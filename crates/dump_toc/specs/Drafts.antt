-- The entry of an object without its number, and that of the column that owns a sequence.
use Rattle.std.specs.Prelude.{ℕ, Bool, false, ◌&&◌, ◌==◌, List, [], ◌∷◌, ◌++◌, Option, Some, None, option_map, codes}
use Rattle.std.specs.List.{filter, slice_get}
use Rattle.std.specs.Option.{option_map_or}
use Rattle.cat_rows.specs.declared.catalogue.Catalogue.{Catalogue}
use Rattle.cat_model.specs.Values.{Bytes}
use Rattle.graph_parts.specs.declared.object.Obj.{Obj}
use Rattle.graph_parts.specs.declared.object.ObjKind.{ObjKind}
use Rattle.graph_parts.specs.declared.object.ObjKind.TheVariants as kind
use Rattle.dump_rows.specs.Rows.{sequence_of}
use Rattle.dump_stmts.specs.Paths.{written}
use Rattle.dump_stmts.specs.Stmts.{defn_of}
use Rattle.dump_stmts.specs.Drops.{drop_of}
use Rattle.dump_stmts.specs.Tables.{copy_of}
use Rattle.dump_stmts.specs.Sequences.{owned_stmt}
use Rattle.dump_toc.specs.declared.draft.Draft.{Draft}
use Rattle.dump_toc.specs.Owners.{owner_of}
use Rattle.dump_toc.specs.Tags.{tag_of, desc_of}

-- ---- objects

-- what stands before the data, the data, and what is made behind them
abbrev pub section_of : ObjKind → ℕ
section_of kind.Schema = 2
section_of kind.UserType = 2
section_of kind.Table = 2
section_of kind.View = 2
section_of kind.Dummy = 2
section_of kind.Sequence = 2
section_of kind.Default = 2
section_of kind.PreData = 2
section_of kind.TableData = 3
section_of kind.SeqValue = 3
section_of kind.PostData = 4
section_of kind.Constraint = 4
section_of kind.Index = 4
section_of kind.Rule = 4
section_of kind.Foreign = 4

-- the value of a sequence tells no oid
abbrev pub oid_of : Obj → ObjKind → ℕ
oid_of o kind.SeqValue = 0
oid_of o other = o.id.oid

-- rows have a line of COPY
abbrev pub copy_of_kind : Catalogue → Obj → ObjKind → Option Bytes
copy_of_kind cat o kind.TableData = Some (copy_of cat o)
copy_of_kind cat o other = None

-- tables have an access method
abbrev pub tableam_of : ObjKind → Option Bytes
tableam_of kind.Table = Some (codes "heap")
tableam_of other = None

-- the entry of an object with these statements
abbrev pub with_texts : Catalogue → Obj → Bytes → Bytes → Option Bytes → List ℕ → Draft
with_texts cat o defn drop_stmt copy_stmt needs = record {
  tableoid = o.id.class;
  oid = oid_of o o.kind;
  tag = tag_of cat o;
  desc = desc_of cat o;
  section = section_of o.kind;
  defn = defn;
  drop_stmt = drop_stmt;
  copy_stmt = copy_stmt;
  namespace = o.schema;
  tableam = tableam_of o.kind;
  owner = owner_of cat o;
  needs = needs;
}

-- the entry of an object that needs those at these places
unfoldable pub object_draft : Catalogue → List ℕ → Obj → List ℕ → Draft
object_draft cat standing o needs = with_texts cat o (defn_of cat standing o) (drop_of cat o) (copy_of_kind cat o o.kind) needs

-- ---- what stands beside an object

-- an entry of no system table with statements alone, in the schema and of the owner of an object
abbrev pub beside : Catalogue → Obj → Bytes → ℕ → Bytes → Bytes → List ℕ → Draft
beside cat o desc section tag defn needs = record {
  tableoid = 0;
  oid = 0;
  tag = tag;
  desc = desc;
  section = section;
  defn = defn;
  drop_stmt = [];
  copy_stmt = None;
  namespace = o.schema;
  tableam = None;
  owner = owner_of cat o;
  needs = needs;
}

-- whether the object at a place is the relation of an oid
abbrev pub is_that : ℕ → Obj → Bool
is_that relation o = o.id.class == 1259 && o.id.oid == relation

abbrev pub is_relation : List Obj → ℕ → ℕ → Bool
is_relation objects relation place = option_map_or (is_that relation) (slice_get objects place) false

-- the table of the column that owns a sequence; 0 where none does
abbrev pub owner_table : Catalogue → ℕ → ℕ
owner_table cat oid = option_map_or (λ s. s.ownrel) (sequence_of cat oid) 0

-- that column's table, where it is among those that the sequence needs, and the sequence
abbrev pub owner_needs : List Obj → List ℕ → ℕ → ℕ → List ℕ
owner_needs objects needs table place = filter (is_relation objects table) needs ++ place ∷ []

abbrev pub owned_with : Catalogue → List Obj → Obj → List ℕ → ℕ → Bytes → Draft
owned_with cat objects o needs place defn =
    beside cat o (codes "SEQUENCE OWNED BY") 2 (tag_of cat o) defn (owner_needs objects needs (owner_table cat o.id.oid) place)

-- the column that owns a sequence, where one does
abbrev pub owned_drafts_of : Catalogue → List Obj → Obj → List ℕ → ℕ → ObjKind → Option Draft
owned_drafts_of cat objects o needs place kind.Sequence = option_map (λ s. owned_with cat objects o needs place (written (Some s))) (owned_stmt cat o)
owned_drafts_of cat objects o needs place other = None
