-- Worked examples: the tables of an empty cluster, and rows of a small catalogue with what they stand for.
use Rattle.std.specs.Prelude.{◌≡◌, ◌+◌, ℤ, pos, true, false, [], ◌∷◌, Some, None, codes, if◌then◌else◌}
use Rattle.std.specs.FinMap.{from_entries}
use Rattle.cat_rows.specs.declared.notes.DescriptionRow.{DescriptionRow}
use Rattle.cat_model.specs.declared.constraint.ConstraintKind.TheVariants as kinds
use Rattle.cat_model.specs.declared.object.Object.TheVariants as object
use Rattle.cat_model.specs.declared.key.Key.TheVariants as key
use Rattle.cat_model.specs.declared.type_name.TypeName.TheVariants.{Path}
use Rattle.cat_model.specs.declared.value.Value.TheVariants as value
use Rattle.cat_model.specs.declared.value.Domain.{Domain}
use Rattle.cat_model.specs.declared.value.Column.{Column}
use Rattle.cat_model.specs.Lexemes.{same_text}
use Rattle.cat_naming.specs.Examples.{path, e, d, label, labels, column, columns, constraint, of_d, of_e}
use Rattle.model_laws.specs.Examples.{postgres}
use Rattle.model_laws.specs.Runs.{empty_cluster}
use Rattle.named_tables.specs.Examples.{first_oids, first_rows}
use Rattle.named_tables.specs.Oids.{Oids}
use Rattle.named_objects.specs.Oids.{ObjectOids, AreNumbers, AreCheckOids, AreLabelOids}
use Rattle.named_objects.specs.Types.{IsDomainRow, IsEnumRow, label_row}
use Rattle.named_objects.specs.Relations.{NamedColumn, IsColumnRow, NamedDefault, IsDefaultRow, IsOwnerOf, NamedIndex, IsIndexRow, NamedBody, IsBodyRow}
use Rattle.named_objects.specs.Constraints.{NamedConstraint, IsConstraintRow, NamedCheck, IsCheckRow, NamedComment, IsCommentRow}
use Rattle.named_objects.specs.Standing.{AllStandFor}
use Rattle.named_objects.specs.Views.{AreKept}

-- ---- an empty cluster

abbrev pub empty_oids : ObjectOids
empty_oids = record { of = first_oids; label = λ q place. place; check = λ q name. 1; number = λ q name. pos 1 }

-- nothing that the laws ask for is a contradiction
pub record Empty : Type 0 where
  pub numbers : AreNumbers empty_cluster empty_oids.number
  pub checks : AreCheckOids empty_cluster empty_oids
  pub labels : AreLabelOids empty_cluster empty_oids
  pub kept : AreKept first_rows
  pub stand : AllStandFor empty_cluster empty_oids postgres [] first_rows (λ oid. [])

-- ---- a small catalogue

abbrev pub small_keys : Oids
small_keys (key.Role name) = 10
small_keys (key.Schema name) = 2200
small_keys (key.UserType q) = if same_text q.name (codes "e") then 20000 else 20001
small_keys (key.Rel q) = if same_text q.name (codes "t") then 16500 else if same_text q.name (codes "v") then 16501 else if same_text q.name (codes "k") then 16503 else 16504
small_keys (key.Default q name) = 17000
small_keys (key.Con q name) = 18000
small_keys (key.Body q) = 19000
small_keys _ = 1

abbrev pub small : ObjectOids
small = record { of = small_keys; label = λ q place. 30001 + place; check = λ q name. 18001; number = λ q name. if same_text name (codes "a") then pos 3 else pos 1 }

-- the domain d over the enum e, and the column a of the table t, which is of it
abbrev pub domain : Domain
domain = record { base = Path (path (codes "e")); resolved = of_e; not_null = true; «default» = Some (codes "'x'"); checks = from_entries ((codes "c", codes "(VALUE <> 'y')") ∷ []) }

abbrev pub a_column : Column
a_column = record { name = codes "a"; type_name = Path (path (codes "d")); resolved = of_d; not_null = false }

abbrev pub a : NamedColumn
a = record { table = path (codes "t"); columns = columns; place = 1; column = a_column }

abbrev pub its_default : NamedDefault
its_default = record { table = path (codes "t"); column = codes "a"; text = codes "'x'::public.d" }

abbrev pub primary : NamedConstraint
primary = record { table = path (codes "t"); name = codes "k"; constraint = record { kind = kinds.Primary; columns = codes "b" ∷ []; parent = None; text = codes "DEFERRABLE" } }

abbrev pub check : NamedCheck
check = record { path = path (codes "d"); domain = domain; name = codes "c"; text = codes "(VALUE <> 'y')" }

abbrev pub index : NamedIndex
index = record { table = path (codes "t"); name = codes "i"; index = record { method = codes "btree"; unique = false; text = codes "(a)" } }

abbrev pub body : NamedBody
body = record { view = path (codes "v"); body = codes "SELECT b FROM public.t" }

abbrev pub comment : NamedComment
comment = record { object = object.Column (path (codes "t")) (codes "a"); text = codes "a column" }

abbrev pub comment_row : ℤ → DescriptionRow
comment_row number = record { objoid = 16500; classoid = 1259; objsubid = number; description = codes "a column" }

pub record Rows : Type 0 where
  pub enum : IsEnumRow e
  pub label : label_row small (record { path = path (codes "e"); labels = labels; place = 1; label = codes "y" }) ≡ label 30002 (pos 2) (codes "y")
  pub domain : IsDomainRow small.of domain (record d { typdefault = Some (codes "'x'") })
  pub column : IsColumnRow small a (column 16500 (pos 3) (codes "a") 20001 (codes "public.d"))
  pub «default» : IsDefaultRow small its_default (record { oid = 17000; adrelid = 16500; adnum = pos 3; adexpr = codes "'x'::public.d" })
  pub primary : IsConstraintRow small.of primary (constraint 18000 (codes "k") 112 16500 0 (codes "PRIMARY KEY (b) DEFERRABLE"))
  pub check : IsCheckRow small check (constraint 18001 (codes "c") 99 0 20001 (codes "CHECK ((VALUE <> 'y'))"))
  pub index : IsIndexRow small.of index (record { indexrelid = 16504; indrelid = 16500; indisunique = false; indexdef = codes "CREATE INDEX i ON public.t USING btree (a)" })
  pub owner : IsOwnerOf small (Some (value.OwnedBy (path (codes "t")) (codes "a"))) 16500 (pos 3)
  pub body : IsBodyRow small.of body (record { oid = 19000; ev_class = 16501; viewdef = codes " SELECT b FROM public.t;" })
  pub comment : IsCommentRow small comment (comment_row (pos 3))

-- and rows that differ in one thing
pub record Others : Type 0 where
  pub kind : IsEnumRow d → ⊥
  pub type : IsColumnRow small a (column 16500 (pos 3) (codes "a") 20000 (codes "public.d")) → ⊥
  pub number : IsCommentRow small comment (comment_row (pos 2)) → ⊥
  pub other_default : IsDomainRow small.of domain (record d { typdefault = None }) → ⊥
  pub no_index : IsConstraintRow small.of primary (record (constraint 18000 (codes "k") 112 16500 0 (codes "PRIMARY KEY (b) DEFERRABLE")) { conindid = 0 }) → ⊥
