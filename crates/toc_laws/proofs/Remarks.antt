-- Comments can be written.
use Rattle.std.proofs.Common.{ℕ, List, [], ◌∷◌, ◌++◌, Option, Some, None, refl, inl, inr}
use Rattle.std.specs.Prelude.{pos}
use Rattle.std.specs.List.{AllByRecursion, filter, flat_map}
use Rattle.std.specs.Option.{option_and_then, option_map}
use Rattle.std.specs.Ordering.{int_eq}
use Rattle.std.proofs.lemmas.Bool.{cases_Bool}
use Rattle.copy_text.specs.Texts.{IsName, IsText}
use Rattle.cat_model.specs.declared.object.QName.{QName}
use Rattle.cat_model.specs.declared.grant.Commented.{Commented}
use Rattle.cat_model.specs.declared.grant.Commented.TheVariants as commented
use Rattle.cat_model.specs.declared.stmt.Stmt.TheVariants as stmt
use Rattle.cat_rows.specs.declared.catalogue.Catalogue.{Catalogue}
use Rattle.cat_rows.specs.declared.constraints.ConstraintRow.{ConstraintRow}
use Rattle.cat_rows.specs.declared.notes.DescriptionRow.{DescriptionRow}
use Rattle.cat_rows.specs.declared.types.TypeRow.{TypeRow}
use Rattle.cat_rows.specs.declared.table.SysTable.TheVariants as table
use Rattle.cat_rows.specs.RowCells.{description_cells, constraint_cells, attribute_cells}
use Rattle.cat_names.specs.Lookups.{same_oid}
use Rattle.cat_book.specs.Chains.{type_of, is_domain_letter}
use Rattle.cat_book.specs.Leads.{constraint_of}
use Rattle.cat_book.specs.Paths.{class_path_of}
use Rattle.ddl_laws.specs.Respelling.{IsPath, IsWritable}
use Rattle.graph_parts.specs.declared.object.Obj.{Obj}
use Rattle.graph_parts.specs.declared.object.ObjKind.{ObjKind}
use Rattle.graph_parts.specs.declared.object.ObjKind.TheVariants as kind
use Rattle.dump_rows.specs.Rows.{comments_on, column_at, table_checks, is_check, name_less}
use Rattle.dump_stmts.specs.Paths.{path_of}
use Rattle.dump_toc.specs.Comments.{type_as, column_as, table_as, constraint_as, commented_as, Remark, remark, own_remark, own_remarks, check_remark, check_remarks, index_as, index_remark, index_remarks, key_remarks, part_remarks, remarks_of}
use Rattle.stmt_laws.specs.Named.{HoldsCells}
use Rattle.ddl_grammar.proofs.Spelled.{by_syntax}
use Rattle.stmt_laws.proofs.Lists.{Known, known_map, known_then, found_has, kept_have, numbered_have, ordered_have, chosen_have}
use Rattle.stmt_laws.proofs.Rows.{IsOf, All, rows_hold, class_path_known}
use Rattle.stmt_laws.proofs.Objects.{column_found}

abbrev pub CanRemark : Remark → Type 0
CanRemark r = IsWritable (stmt.Comment r.0 (Some r.1))

-- ---- lists

pub both_have : {A : Type 0} (P : A → Type 0) (xs ys : List A) → AllByRecursion P xs → AllByRecursion P ys → AllByRecursion P (xs ++ ys)
both_have P [] ys h k = k
both_have P (x ∷ xs) ys h k = (h.0, both_have P xs ys h.1 k)

pub all_have : {A B : Type 0} (P : A → Type 0) (Q : B → Type 0) (f : A → List B) (xs : List A) → AllByRecursion P xs → ((x : A) → P x → AllByRecursion Q (f x)) → AllByRecursion Q (flat_map f xs)
all_have P Q f [] all h = tt
all_have P Q f (x ∷ xs) all h = both_have Q (f x) (flat_map f xs) (h x all.0) (all_have P Q f xs all.1 h)

-- ---- what comments are on

-- what any text can be said of
abbrev IsCommented : Commented → Type 0
IsCommented what = (text : List ℕ) → IsText text → IsWritable (stmt.Comment what (Some text))

column_is : (cat : Catalogue) → HoldsCells cat → (d : DescriptionRow) (q : QName) → IsPath q → Known IsCommented (column_as cat d q)
unfolding by_syntax
column_is cat holds d q path = known_map (IsOf table.PgAttribute attribute_cells) IsCommented (λ a. commented.Column q a.attname) (column_at cat d.objoid d.objsubid) (column_found cat holds d.objoid d.objsubid) (λ a is text said. ((path, (is.cells.1.1.0, said)), refl))

table_is : (cat : Catalogue) → HoldsCells cat → (d : DescriptionRow) (q : QName) → IsPath q → Known IsCommented (table_as cat d q)
unfolding by_syntax
table_is cat holds d q path = elim (cases_Bool (int_eq d.objsubid (pos 0))) [ inl is ↦ rw is (λ text said. ((path, said), refl)) | inr isnt ↦ rw isnt (column_is cat holds d q path) ]

constraint_is : (cat : Catalogue) → HoldsCells cat → (row : ConstraintRow) → IsOf table.PgConstraint constraint_cells row → Known IsCommented (constraint_as cat row)
unfolding by_syntax
constraint_is cat holds row is = known_map IsPath IsCommented (λ q. commented.Constraint q row.conname) (class_path_of cat row.conrelid) (class_path_known cat holds row.conrelid) (λ q path text said. ((is.cells.1.0, (path, said)), refl))

constraint_found : (cat : Catalogue) → HoldsCells cat → (oid : ℕ) → Known (IsOf table.PgConstraint constraint_cells) (constraint_of cat oid)
constraint_found cat holds oid = found_has (IsOf table.PgConstraint constraint_cells) (λ c. same_oid oid c.oid) cat.pg_constraint (rows_hold cat holds table.PgConstraint constraint_cells cat.pg_constraint refl)

of_constraint : (cat : Catalogue) → HoldsCells cat → (oid : ℕ) → Known IsCommented (option_and_then (constraint_as cat) (constraint_of cat oid))
of_constraint cat holds oid = known_then (IsOf table.PgConstraint constraint_cells) IsCommented (constraint_as cat) (constraint_of cat oid) (constraint_found cat holds oid) (constraint_is cat holds)

type_is : (row : TypeRow) (q : QName) → IsPath q → IsCommented (type_as row q)
unfolding by_syntax
type_is row q path = elim (cases_Bool (is_domain_letter row.typtype)) [ inl is ↦ rw is (λ text said. ((path, said), refl)) | inr isnt ↦ rw isnt (λ text said. ((path, said), refl)) ]

of_type : (cat : Catalogue) (oid : ℕ) (q : QName) → IsPath q → Known IsCommented (option_map (λ t. type_as t q) (type_of cat.pg_type oid))
of_type cat oid q path = by (type_of cat.pg_type oid)
  where
    by : (o : Option TypeRow) → Known IsCommented (option_map (λ t. type_as t q) o)
    by None = tt
    by (Some t) = type_is t q path

what_is : (cat : Catalogue) → HoldsCells cat → (o : Obj) → Known IsName o.name → Known IsPath (path_of o) → (d : DescriptionRow) (k : ObjKind) → Known IsCommented (commented_as cat o d k)
unfolding by_syntax
what_is cat holds o name path d kind.Schema = known_map IsName IsCommented commented.Schema o.name name (λ n is text said. ((is, said), refl))
what_is cat holds o name path d kind.UserType = known_then IsPath IsCommented (λ q. option_map (λ t. type_as t q) (type_of cat.pg_type o.id.oid)) (path_of o) path (of_type cat o.id.oid)
what_is cat holds o name path d kind.Table = known_then IsPath IsCommented (table_as cat d) (path_of o) path (table_is cat holds d)
what_is cat holds o name path d kind.View = known_map IsPath IsCommented commented.View (path_of o) path (λ q is text said. ((is, said), refl))
what_is cat holds o name path d kind.Dummy = known_map IsPath IsCommented commented.View (path_of o) path (λ q is text said. ((is, said), refl))
what_is cat holds o name path d kind.Sequence = known_map IsPath IsCommented commented.Sequence (path_of o) path (λ q is text said. ((is, said), refl))
what_is cat holds o name path d kind.Index = known_map IsPath IsCommented commented.Index (path_of o) path (λ q is text said. ((is, said), refl))
what_is cat holds o name path d kind.Constraint = of_constraint cat holds o.id.oid
what_is cat holds o name path d kind.Foreign = of_constraint cat holds o.id.oid
what_is cat holds o name path d other = tt

-- ---- comments

remark_is : (d : DescriptionRow) → IsOf table.PgDescription description_cells d → (what : Option Commented) → Known IsCommented what → Known CanRemark (option_map (remark d.description) what)
remark_is d is what k = known_map IsCommented CanRemark (remark d.description) what k (λ w can. can d.description is.cells.1.1.1.0)

comments_hold : (cat : Catalogue) → HoldsCells cat → (class oid : ℕ) → All table.PgDescription description_cells (comments_on cat class oid)
comments_hold cat holds class oid =
    let P = IsOf table.PgDescription description_cells in
    let mine = filter (λ (d : DescriptionRow). same_oid oid d.objoid) cat.pg_description in
    kept_have P (λ d. same_oid class d.classoid) _
    (numbered_have P (λ d. d.objsubid) mine (kept_have P (λ d. same_oid oid d.objoid) cat.pg_description (rows_hold cat holds table.PgDescription description_cells cat.pg_description refl)))

own_are : (cat : Catalogue) → HoldsCells cat → (o : Obj) → Known IsName o.name → Known IsPath (path_of o) → AllByRecursion CanRemark (own_remarks cat o)
own_are cat holds o name path =
    chosen_have (IsOf table.PgDescription description_cells) CanRemark (own_remark cat o) (comments_on cat o.id.class o.id.oid) (comments_hold cat holds o.id.class o.id.oid)
    (λ d is. remark_is d is (commented_as cat o d o.kind) (what_is cat holds o name path d o.kind))

check_are : (cat : Catalogue) → HoldsCells cat → (row : ConstraintRow) → IsOf table.PgConstraint constraint_cells row → AllByRecursion CanRemark (check_remarks cat row)
check_are cat holds row is =
    chosen_have (IsOf table.PgDescription description_cells) CanRemark (check_remark cat row) (comments_on cat 2606 row.oid) (comments_hold cat holds 2606 row.oid)
    (λ d there. remark_is d there (constraint_as cat row) (constraint_is cat holds row is))

index_are : (cat : Catalogue) → HoldsCells cat → (index : ℕ) → AllByRecursion CanRemark (index_remarks cat index)
unfolding by_syntax
index_are cat holds index =
    chosen_have (IsOf table.PgDescription description_cells) CanRemark (index_remark cat index) (comments_on cat 1259 index) (comments_hold cat holds 1259 index)
    (λ d there. remark_is d there (index_as cat index) (known_map IsPath IsCommented commented.Index (class_path_of cat index) (class_path_known cat holds index) (λ q is text said. ((is, said), refl))))

key_are : (cat : Catalogue) → HoldsCells cat → (row : Option ConstraintRow) → AllByRecursion CanRemark (key_remarks cat row)
key_are cat holds None = tt
key_are cat holds (Some row) = index_are cat holds row.conindid

parts_are : (cat : Catalogue) → HoldsCells cat → (o : Obj) (k : ObjKind) → AllByRecursion CanRemark (part_remarks cat o k)
parts_are cat holds o kind.Table =
    let P = IsOf table.PgConstraint constraint_cells in
    let mine = filter (λ (c : ConstraintRow). same_oid o.id.oid c.conrelid) cat.pg_constraint in
    let checks = ordered_have P name_less (filter is_check mine) (kept_have P is_check mine (kept_have P (λ c. same_oid o.id.oid c.conrelid) cat.pg_constraint (rows_hold cat holds table.PgConstraint constraint_cells cat.pg_constraint refl))) in
    all_have P CanRemark (check_remarks cat) (table_checks cat o.id.oid) checks (check_are cat holds)
parts_are cat holds o kind.Constraint = key_are cat holds (constraint_of cat o.id.oid)
parts_are cat holds o other = tt

pub remarks_are : (cat : Catalogue) → HoldsCells cat → (o : Obj) → Known IsName o.name → Known IsPath (path_of o) → AllByRecursion CanRemark (remarks_of cat o)
unfolding remarks_of
remarks_are cat holds o name path = both_have CanRemark (own_remarks cat o) (part_remarks cat o o.kind) (own_are cat holds o name path) (parts_are cat holds o o.kind)
